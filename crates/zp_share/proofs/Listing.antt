-- Lists in which no page stands twice, the pages at the back of one, and that a worker's lists and the uses of the pages tell of the same cached pages.
use Rattle.std.specs.Prelude.{reverse, slice_set}
use Rattle.std.specs.List.{IsDistinct}
use Rattle.std.proofs.Common.{ℕ, ◌-◌, ◌≡◌, ◌≤◌, ◌==◌, inl, inr, refl, sym, ◌∙◌, ap, subst, arith, Bool, true, false, ◌||◌, List, [], ◌∷◌, ◌++◌, length, take, drop, cond, All, ◌<◌}
use Rattle.std.proofs.Math.Seq.{take-append_seam}
use Rattle.std.proofs.lemmas.Bool.{and_parts, both_ways, not-true, false≢true, cases_eq, ne_eqb}
use Rattle.std.proofs.lemmas.Bool.Decides.{nat_tests}
use Rattle.std.proofs.lemmas.List.{length-reverse, length-drop, reverse-append, take-append-drop, get_or-set_same, get_or-set_other, length-set}
use Rattle.std.proofs.lemmas.List.Elements.{All-head, All-tail, All-cons, All-nil}
use Rattle.std.proofs.lemmas.List.Sorted.{list_any-IsPermutation, IsPermutation-reverse}
use Rattle.std.proofs.lemmas.Map.Keys.{IsDistinct-IsPermutation}
use Rattle.zp_model.specs.Rows.{stands_in, list_at}
use Rattle.zp_model.specs.Run.{is_distinct}
use Rattle.zp_model.specs.declared.migrate_type.MigrateType.{MigrateType}
use Rattle.zp_model.specs.MigrateType.{type_number, types_count}
use Rattle.zp_model.proofs.Settles.{stands_first, stands_later, stands_cases, distinct_first, distinct_more, distinct_rest}
use Rattle.zp_model.proofs.TypeNumbers.{type_number_below}
use Rattle.zp_laws.proofs.Settling.{stands-append, distinct-append}
use Rattle.zp_share.specs.PlainShares.{back, without_back}
use Rattle.zp_share.specs.declared.page_use.PageUse.{PageUse}
use Rattle.zp_share.specs.declared.page_use.PageUse.TheVariants.{Away, Cached}
use Rattle.zp_share.specs.PageUses.{use_of, is_lent_as, is_cached_as, all_as}
use Rattle.zp_share.proofs.OneUse.{IsIn, in_by_use, use-all_as}

-- what holds of each page that stands there holds of all
pub All-by_standing : (P : ℕ → Type 0) (xs : List ℕ) → ((q : ℕ) → stands_in q xs ≡ true → P q) → All P xs
All-by_standing P [] f = All-nil P
All-by_standing P (x ∷ xs) f = All-cons P x xs (f x (stands_first x xs)) (All-by_standing P xs (λ q e. f q (stands_later q x xs e)))

pub standing_of_all : (P : ℕ → Type 0) (xs : List ℕ) → All P xs → (q : ℕ) → stands_in q xs ≡ true → P q
standing_of_all P [] a q e = absurd (false≢true e)
standing_of_all P (x ∷ xs) a q e =
    elim (stands_cases q x xs e) [ inl same ↦ subst P (sym same) (All-head P x xs a) | inr later ↦ standing_of_all P xs (All-tail P x xs a) q later ]

pub distinct_nil : IsDistinct (λ x y. x == y) (let e : List ℕ = [] in e)
unfolding IsDistinct
distinct_nil = tt

pub is_distinct-true : (xs : List ℕ) → IsDistinct (λ x y. x == y) xs → is_distinct xs ≡ true
is_distinct-true [] d = refl
is_distinct-true (x ∷ xs) d = grind (arith, is_distinct-true xs (distinct_rest x xs d), distinct_first x xs d)

pub distinct-by_test : (xs : List ℕ) → is_distinct xs ≡ true → IsDistinct (λ x y. x == y) xs
distinct-by_test [] e = distinct_nil
distinct-by_test (x ∷ xs) e =
    let a = and_parts _ _ e in distinct_more x xs (distinct-by_test xs a.1) (λ s. both_ways _ (not-true _ a.0) s)

-- the parts of a list of distinct pages
pub distinct_left : (ys zs : List ℕ) → IsDistinct (λ x y. x == y) (ys ++ zs) → IsDistinct (λ x y. x == y) ys
distinct_left [] zs d = distinct_nil
distinct_left (y ∷ ys) zs d =
    distinct_more y ys (distinct_left ys zs (distinct_rest y (ys ++ zs) d))
    (λ e. distinct_first y (ys ++ zs) d (stands-append y ys zs ∙ ap (λ b. b || stands_in y zs) e))

later : (a b : Bool) → b ≡ true → (a || b) ≡ true
later a b e = grind arith

pub distinct_apart : (q : ℕ) (ys zs : List ℕ) → IsDistinct (λ x y. x == y) (ys ++ zs) → stands_in q ys ≡ true → stands_in q zs ≡ true → ⊥
distinct_apart q [] zs d e f = false≢true e
distinct_apart q (y ∷ ys) zs d e f =
    elim (stands_cases q y ys e) [
      | inl same ↦ distinct_first y (ys ++ zs) d (stands-append y ys zs ∙ later _ _ (ap (λ p. stands_in p zs) (sym same) ∙ f))
      | inr left ↦ distinct_apart q ys zs (distinct_rest y (ys ++ zs) d) left f
    ]

-- the back of a list is its last part, turned round
pub back-is : (n : ℕ) (xs : List ℕ) → n ≤ length xs → back n xs ≡ reverse (drop (length xs - n) xs)
back-is n xs le =
    let ys = take (length xs - n) xs in
    let zs = drop (length xs - n) xs in
    let many : length (reverse zs) ≡ n = length-reverse zs ∙ omega (arith, le, length-drop (length xs - n) xs) in
    ap (λ l. take n (reverse l)) (sym (take-append-drop (length xs - n) xs))
    ∙ ap (take n) (reverse-append ys zs)
    ∙ ap (λ k. take k (reverse zs ++ reverse ys)) (sym many)
    ∙ take-append_seam (reverse zs) (reverse ys)

stands-back : (q n : ℕ) (xs : List ℕ) → n ≤ length xs → stands_in q (back n xs) ≡ stands_in q (drop (length xs - n) xs)
stands-back q n xs le =
    let zs = drop (length xs - n) xs in
    ap (stands_in q) (back-is n xs le) ∙ sym (list_any-IsPermutation (λ x. q == x) zs (reverse zs) (IsPermutation-reverse zs))

-- what stands in front of the back, and at the back
pub parted : (q n : ℕ) (xs : List ℕ) → n ≤ length xs → stands_in q xs ≡ (stands_in q (without_back n xs) || stands_in q (back n xs))
parted q n xs le =
    ap (stands_in q) (sym (take-append-drop (length xs - n) xs))
    ∙ stands-append q (without_back n xs) (drop (length xs - n) xs)
    ∙ ap (λ b. stands_in q (without_back n xs) || b) (sym (stands-back q n xs le))

distinct-parts : (n : ℕ) (xs : List ℕ) → IsDistinct (λ x y. x == y) xs → IsDistinct (λ x y. x == y) (without_back n xs ++ drop (length xs - n) xs)
distinct-parts n xs d = subst (λ l. IsDistinct (λ x y. x == y) l) (sym (take-append-drop (length xs - n) xs)) d

flips : (x y : ℕ) → (x == y) ≡ (y == x)
flips x y = grind (arith, nat_tests)

distinct-take : (n : ℕ) (xs : List ℕ) → IsDistinct (λ x y. x == y) xs → IsDistinct (λ x y. x == y) (take n xs)
distinct-take n xs d = distinct_left (take n xs) (drop n xs) (subst (λ l. IsDistinct (λ x y. x == y) l) (sym (take-append-drop n xs)) d)

pub distinct-back : (n : ℕ) (xs : List ℕ) → IsDistinct (λ x y. x == y) xs → IsDistinct (λ x y. x == y) (back n xs)
distinct-back n xs d = distinct-take n (reverse xs) (IsDistinct-IsPermutation (λ x y. x == y) flips xs (reverse xs) (IsPermutation-reverse xs) d)

pub back_stands : (q n : ℕ) (xs : List ℕ) → n ≤ length xs → stands_in q (back n xs) ≡ true → stands_in q xs ≡ true
back_stands q n xs le e = parted q n xs le ∙ later _ _ e

-- each page of the list stands in front of the back or at the back, and not at both
pub left_of_back : (q n : ℕ) (xs : List ℕ) → n ≤ length xs → IsDistinct (λ x y. x == y) xs →
    stands_in q (without_back n xs) ≡ cond (stands_in q (back n xs)) false (stands_in q xs)
left_of_back q n xs le d =
    let apart : stands_in q (without_back n xs) ≡ true → stands_in q (back n xs) ≡ true → ⊥ =
    λ a b. distinct_apart q (without_back n xs) (drop (length xs - n) xs) (distinct-parts n xs d) a (sym (stands-back q n xs le) ∙ b) in
    grind (arith, parted q n xs le)

-- the lists hold, each once, the pages that are cached for their types
pub record IsListing (base : ℕ) (us : List PageUse) (ls : List (List ℕ)) : Type 0 where
  pub lists : length ls ≡ types_count
  pub distinct : (r : ℕ) → IsDistinct (λ x y. x == y) (list_at ls r)
  pub cached : (r p : ℕ) → stands_in p (list_at ls r) ≡ is_cached_as r (use_of base us p)

-- a use that is no list's
abbrev pub IsUncached : PageUse → Type 0
IsUncached u = (r : ℕ) → is_cached_as r u ≡ false

pub lent-uncached : (k : ℕ) (u : PageUse) → is_lent_as k u ≡ true → IsUncached u
lent-uncached k u e r = grind arith

pub lent_there : (k : ℕ) (u : PageUse) → is_lent_as k u ≡ true → u ≡ Away → ⊥
lent_there k u e f = grind arith

pub cached_there : (r : ℕ) (u : PageUse) → is_cached_as r u ≡ true → u ≡ Away → ⊥
cached_there r u e f = grind arith

-- each type has a list, and its number alone
number_one : (s t : MigrateType) → type_number s ≡ type_number t → s ≡ t
number_one s t e = grind arith

pub number_in : (base : ℕ) (us : List PageUse) (ls : List (List ℕ)) (t : MigrateType) → IsListing base us ls → type_number t < length ls
number_in base us ls t x = subst (λ m. type_number t < m) (sym x.lists) (type_number_below t)

pub cached-is : (t : MigrateType) (u : PageUse) → is_cached_as (type_number t) u ≡ true → u ≡ Cached t
cached-is t u e = grind (arith, nat_tests, number_one)

-- a list of another type than the page's does not hold it
elsewhere : (n r : ℕ) (u : PageUse) → is_cached_as n u ≡ true → (r ≡ n → ⊥) → is_cached_as r u ≡ false
elsewhere n r u e ne = grind (arith, nat_tests)

-- what stands on a list of a type is cached for it, and is one of the zone's pages
pub standing_cached : (base p : ℕ) (us : List PageUse) (ls : List (List ℕ)) (t : MigrateType) → IsListing base us ls → stands_in p (list_at ls (type_number t)) ≡ true →
    use_of base us p ≡ Cached t
standing_cached base p us ls t x e = cached-is t (use_of base us p) (sym (x.cached (type_number t) p) ∙ e)

pub standing_in : (base r p : ℕ) (us : List PageUse) (ls : List (List ℕ)) → IsListing base us ls → stands_in p (list_at ls r) ≡ true → IsIn base us p
standing_in base r p us ls x e = in_by_use base p us (cached_there r (use_of base us p) (sym (x.cached r p) ∙ e))

-- one list becomes another
at-set : (ls : List (List ℕ)) (n r : ℕ) (xs : List ℕ) → n < length ls → (P : List ℕ → Type 0) → (r ≡ n → P xs) → ((r ≡ n → ⊥) → P (list_at ls r)) → P (list_at (slice_set ls n xs) r)
at-set ls n r xs lt P a b = elim (cases_eq r n) [
  | inl e ↦ subst P (sym (ap (list_at (slice_set ls n xs)) e ∙ get_or-set_same ls n xs [] lt)) (a e)
  | inr ne ↦ subst P (sym (get_or-set_other ls n r xs [] ne)) (b ne)
]

-- pages change their use, and the lists stay
pub unlisted : (base : ℕ) (v : PageUse) (ds : List ℕ) (us : List PageUse) (ls : List (List ℕ)) → IsListing base us ls → ((q : ℕ) → stands_in q ds ≡ true → IsIn base us q) →
    ((q : ℕ) → stands_in q ds ≡ true → IsUncached (use_of base us q)) → IsUncached v → IsListing base (all_as base v ds us) ls
unlisted base v ds us ls x i out o = record {
  lists = x.lists;
  distinct = x.distinct;
  cached = λ r q. x.cached r q ∙ grind (arith, out q, o r) ∙ sym (ap (is_cached_as r) (use-all_as base q v ds us i));
}

-- pages change their use, and one list becomes another
relisted : (base n : ℕ) (v : PageUse) (ds ys : List ℕ) (us : List PageUse) (ls : List (List ℕ)) → IsListing base us ls → n < length ls →
    ((q : ℕ) → stands_in q ds ≡ true → IsIn base us q) →
    IsDistinct (λ x y. x == y) ys →
    ((q : ℕ) → stands_in q ys ≡ is_cached_as n (cond (stands_in q ds) v (use_of base us q))) →
    ((r q : ℕ) → (r ≡ n → ⊥) → stands_in q ds ≡ true → is_cached_as r (use_of base us q) ≡ is_cached_as r v) →
    IsListing base (all_as base v ds us) (slice_set ls n ys)
relisted base n v ds ys us ls x lt i d here there = record {
  lists = length-set ls n ys ∙ x.lists;
  distinct = λ r. at-set ls n r ys lt (λ l. IsDistinct (λ a b. a == b) l) (λ e. d) (λ ne. x.distinct r);
  cached = λ r q.
      at-set ls n r ys lt (λ l. stands_in q l ≡ is_cached_as r (cond (stands_in q ds) v (use_of base us q)))
      (λ e. here q ∙ ap (λ m. is_cached_as m (cond (stands_in q ds) v (use_of base us q))) (sym e))
      (λ ne. x.cached r q ∙ grind (arith, there r q ne))
      ∙ sym (ap (is_cached_as r) (use-all_as base q v ds us i));
}

-- pages that are on no list go to the front of one, in their order
pub added : (base : ℕ) (t : MigrateType) (ds : List ℕ) (us : List PageUse) (ls : List (List ℕ)) → IsListing base us ls →
    ((q : ℕ) → stands_in q ds ≡ true → IsIn base us q) →
    ((q : ℕ) → stands_in q ds ≡ true → IsUncached (use_of base us q)) → IsDistinct (λ x y. x == y) ds →
    IsListing base (all_as base (Cached t) ds us) (slice_set ls (type_number t) (ds ++ list_at ls (type_number t)))
added base t ds us ls x i out d =
    let n = type_number t in
    let xs = list_at ls n in
    relisted base n (Cached t) ds (ds ++ xs) us ls x (number_in base us ls t x) i
    (distinct-append ds xs d (x.distinct n) (λ q a b. both_ways _ (x.cached n q ∙ out q a n) b))
    (λ q. stands-append q ds xs ∙ ap (λ b. stands_in q ds || b) (x.cached n q) ∙ grind (arith, nat_tests))
    (λ r q ne a. out q a r ∙ sym (ne_eqb n r (λ e. ne (sym e))))

-- pages of one list leave it
pub removed : (base : ℕ) (t : MigrateType) (v : PageUse) (ds ys : List ℕ) (us : List PageUse) (ls : List (List ℕ)) → IsListing base us ls → IsUncached v →
    ((q : ℕ) → stands_in q ds ≡ true → stands_in q (list_at ls (type_number t)) ≡ true) →
    IsDistinct (λ x y. x == y) ys →
    ((q : ℕ) → stands_in q ys ≡ cond (stands_in q ds) false (stands_in q (list_at ls (type_number t)))) →
    IsListing base (all_as base v ds us) (slice_set ls (type_number t) ys)
removed base t v ds ys us ls x o on d left =
    let n = type_number t in
    relisted base n v ds ys us ls x (number_in base us ls t x)
    (λ q a. standing_in base n q us ls x (on q a))
    d
    (λ q. left q ∙ ap (λ b. cond (stands_in q ds) false b) (x.cached n q) ∙ grind (arith, o n))
    (λ r q ne a. elsewhere n r (use_of base us q) (sym (x.cached n q) ∙ on q a) ne ∙ sym (o r))

-- the front of a list leaves it
pub front_removed : (base p : ℕ) (t : MigrateType) (v : PageUse) (ps : List ℕ) (us : List PageUse) (ls : List (List ℕ)) → IsListing base us ls → IsUncached v →
    list_at ls (type_number t) ≡ p ∷ ps → IsListing base (all_as base v (p ∷ []) us) (slice_set ls (type_number t) ps)
front_removed base p t v ps us ls x o f =
    let d : IsDistinct (λ x y. x == y) (p ∷ ps) = subst (λ l. IsDistinct (λ x y. x == y) l) f (x.distinct (type_number t)) in
    removed base t v (p ∷ []) ps us ls x o
    (λ q a. ap (stands_in q) f ∙ alone q p ps a)
    (distinct_rest p ps d)
    (λ q. left q p ps d ∙ ap (λ l. cond (stands_in q (p ∷ [])) false (stands_in q l)) (sym f))
  where
    alone : (q p : ℕ) (ps : List ℕ) → stands_in q (p ∷ []) ≡ true → stands_in q (p ∷ ps) ≡ true
    alone q p ps a = grind arith

    left : (q p : ℕ) (ps : List ℕ) → IsDistinct (λ x y. x == y) (p ∷ ps) → stands_in q ps ≡ cond (stands_in q (p ∷ [])) false (stands_in q (p ∷ ps))
    left q p ps d = grind (arith, nat_tests, distinct_first p ps d)

-- pages at the back of a list leave it
pub back_removed : (base n : ℕ) (t : MigrateType) (us : List PageUse) (ls : List (List ℕ)) → IsListing base us ls → n ≤ length (list_at ls (type_number t)) →
    IsListing base (all_as base Away (back n (list_at ls (type_number t))) us) (slice_set ls (type_number t) (without_back n (list_at ls (type_number t))))
back_removed base n t us ls x le =
    let xs = list_at ls (type_number t) in
    let d : IsDistinct (λ x y. x == y) xs = x.distinct (type_number t) in
    removed base t Away (back n xs) (without_back n xs) us ls x (λ r. refl) (λ q a. back_stands q n xs le a) (distinct-take (length xs - n) xs d)
    (λ q. left_of_back q n xs le d)
