-- What settling leaves: each list holds the heads that belong there, each once.
use Rattle.std.proofs.Common.{ℕ, suc, zero, ◌≡◌, ◌<◌, ◌==◌, inl, inr, sym, ◌∙◌, arith, Bool, true, List, [], ◌∷◌, ◌++◌, length, replicate, not, ◌&&◌, ◌||◌}
use Rattle.std.specs.List.{filter, IsDistinct}
use Rattle.std.proofs.lemmas.Bool.{or_cases, le-ltb, both_ways}
use Rattle.std.proofs.lemmas.List.Folds.{list_any-append}
use Rattle.std.proofs.lemmas.List.FromFn.{get_or-map-range_with_len, length-map-range_with_len}
use Rattle.zp_model.specs.declared.pageblock_type.PageblockType.{PageblockType}
use Rattle.zp_model.specs.declared.pageblock_type.PageblockType.TheVariants.{Movable}
use Rattle.zp_model.specs.Rows.{list_at, stands_in}
use Rattle.zp_model.specs.Area.{Area, falling, belongs, settled, settle, opening, lists_count, pageblocks_of}
use Rattle.zp_model.specs.Lawful.{IsListedArea}
use Rattle.zp_model.proofs.RowLists.{replicated}
use Rattle.zp_model.proofs.Settles.{stands_first, stands_later, distinct_first, distinct_more, distinct_rest}
pub use Rattle.zp_model.proofs.RowLists.{stands_filter as stands-filter, distinct_filter as distinct-filter}
pub use Rattle.zp_model.proofs.RunLists.{belongs_below, fresh_or_old, stands_falling as stands-falling, stands_settled as held-settled}

pub stands-append : (h : ℕ) (xs ys : List ℕ) → stands_in h (xs ++ ys) ≡ (stands_in h xs || stands_in h ys)
stands-append h xs ys = list_any-append (λ x. h == x) xs ys

pub distinct-falling : (n : ℕ) → IsDistinct (λ x y. x == y) (falling n)
unfolding IsDistinct
distinct-falling zero = tt
distinct-falling (suc n) =
    distinct_more n (falling n) (distinct-falling n) (λ e. both_ways _ (le-ltb n n (omega arith)) (sym (stands-falling n n) ∙ e))

-- two lists of distinct ones with none in common
pub distinct-append : (xs ys : List ℕ) → IsDistinct (λ x y. x == y) xs → IsDistinct (λ x y. x == y) ys →
    ((h : ℕ) → stands_in h xs ≡ true → stands_in h ys ≡ true → ⊥) → IsDistinct (λ x y. x == y) (xs ++ ys)
distinct-append [] ys d e f = e
distinct-append (x ∷ xs) ys d e f =
    distinct_more x (xs ++ ys) (distinct-append xs ys (distinct_rest x xs d) e (λ h s t. f h (stands_later h x xs s) t))
    (λ s. elim (or_cases _ _ (sym (stands-append x xs ys) ∙ s)) [ inl a ↦ distinct_first x xs d a | inr b ↦ f x (stands_first x xs) b ])

module _ (m : ℕ) (free : List Bool) (kinds : List PageblockType) (r : ℕ) where
  -- a settled list holds nothing twice
  pub distinct-settled : (old : List ℕ) → IsDistinct (λ x y. x == y) old → IsDistinct (λ x y. x == y) (settled m free kinds r old)
  unfolding settled
  distinct-settled old d =
      let fresh : ℕ → Bool = λ x. belongs m free kinds r x && not (stands_in x old) in
      distinct-append (filter fresh (falling (length free))) (filter (belongs m free kinds r) old)
      (distinct-filter fresh (falling (length free)) (distinct-falling (length free))) (distinct-filter (belongs m free kinds r) old d)
      (λ h s t. apart (belongs m free kinds r h) (stands_in h old) (stands_in h (falling (length free)))
      (sym (stands-filter fresh h (falling (length free))) ∙ s) (sym (stands-filter (belongs m free kinds r) h old) ∙ t))
    where
      apart : (b s l : Bool) → ((b && not s) && l) ≡ true → (b && s) ≡ true → ⊥
      apart b s l x y = grind arith

-- settling lists the area: from lists that hold nothing twice, each list comes to hold what belongs there, each once
pub settle_lists : (a : Area) → ((r : ℕ) → r < lists_count a.largest → IsDistinct (λ x y. x == y) (list_at a.lists r)) → IsListedArea (settle a)
unfolding settle
settle_lists a d = record {
  table = length-map-range_with_len list 0 (lists_count a.largest);
  distinct = λ r lt. rw (at r lt) (distinct-settled a.largest a.free a.kinds r (list_at a.lists r) (d r lt));
  held = λ r h lt. rw (at r lt) (held-settled a.largest a.free a.kinds r h (list_at a.lists r));
}
  where
    list : ℕ → List ℕ
    list q = settled a.largest a.free a.kinds q (list_at a.lists q)

    at : (r : ℕ) → r < lists_count a.largest → list_at (settle a).lists r ≡ settled a.largest a.free a.kinds r (list_at a.lists r)
    at r lt = get_or-map-range_with_len list 0 (lists_count a.largest) r r [] lt (omega arith)

pub opening_lists : (m pages : ℕ) → IsListedArea (opening m pages)
unfolding opening IsDistinct
opening_lists m pages =
    settle_lists (record { largest = m; free = replicate pages true; kinds = replicate (pageblocks_of m pages) Movable; lists = replicate (lists_count m) [] })
    (λ r lt. rw (replicated {X = List ℕ} (lists_count m) r []) tt)
