-- The lists of heads with one block more or one block less.
use Rattle.std.proofs.Common.{ℕ, ◌/◌, ◌%◌, ◌≡◌, ◌≢◌, ◌≤◌, ◌<◌, ◌==◌, inl, inr, refl, sym, ◌∙◌, arith, not, List, ◌∷◌, length, Option}
use Rattle.std.proofs.lemmas.Bool.{eq-eqb, ne_eqb, not-true, both_ways}
use Rattle.zp_model.specs.declared.pageblock_type.PageblockType.{PageblockType}
use Rattle.zp_model.specs.PageblockType.{pageblock_type_number, pageblock_types}
use Rattle.zp_model.specs.BlockSet.{Starts}
use Rattle.zp_model.specs.Rows.{without_page, IsOn}
use Rattle.zp_model.specs.Area.{kind_at, list_number}
use Rattle.zp_model.proofs.Settles.{stands_later, stands_cases, distinct_more}
use Rattle.zp_tree.specs.Blocks.{with_block, without_block}
use Rattle.zp_area.specs.Blocks.{Blocks, block_set}
use Rattle.zp_area.specs.OneSet.{IsOneSet}
use Rattle.zp_model.proofs.TypeNumbers.{number_below, number_one, list_number_below}
use Rattle.zp_laws.proofs.Settling.{distinct-filter}
use Rattle.zp_area.proofs.Filters.{stands_filter-to, stands_filter-from}
use Rattle.zp_area.proofs.OneBlock.{with-starts, with-here, with-there, without-there}
use Rattle.zp_tree.proofs.Apart.{clear-starts}
use Rattle.zp_model.specs.Lawful.{Here, IsListed}

-- the order and the type of the list of an order and a type
pub number_parts : (k : ℕ) (t : PageblockType) → (list_number k t / pageblock_types ≡ k) × (list_number k t % pageblock_types ≡ pageblock_type_number t)
number_parts k t = let b : pageblock_type_number t < pageblock_types = number_below t in (omega arith, omega arith)

-- a list of this order and type is that of their number
pub number_from : (k r : ℕ) (t : PageblockType) → r / pageblock_types ≡ k → pageblock_type_number t ≡ r % pageblock_types → r ≡ list_number k t
number_from k r t d z = omega arith

-- a block that starts at h belongs on the list of its order and its pageblock's type
pub here_from : (m : ℕ) (s : List (Option ℕ)) (kinds : List PageblockType) (r h k : ℕ) → r ≡ list_number k (kind_at m kinds h) → Starts s h k → Here m s kinds r h
here_from m s kinds r h k e st = let p = number_parts k (kind_at m kinds h) in rw e (rw p.0 st, sym p.1)

-- what stands on a free list is the head of a block of the list's order, in a pageblock of the list's type
pub listed_starts : (m : ℕ) (a : Blocks) (h o : ℕ) (t : PageblockType) → IsOneSet m a → o ≤ m → IsOn a.rows.lists (list_number o t) h →
    Starts (block_set a) h o × (kind_at m a.kinds h ≡ t)
listed_starts m a h o t x le on =
    let n = number_parts o t in
    let here = (x.listed (list_number o t) (list_number_below m o t le)).to h on in
    (rw n.0 at here.0, number_one (kind_at m a.kinds h) t (here.1 ∙ n.1))

module _ {m r : ℕ} {s : List (Option ℕ)} {kinds : List PageblockType} {xs : List ℕ} (h k : ℕ) (lt : h < length s) (old : IsListed m s kinds r xs) where
  still_here : ((j : ℕ) → Starts s h j → ⊥) → (g : ℕ) → Here m s kinds r g → Here m (with_block s h k) kinds r g
  still_here none g w = (with-there s h k g (r / pageblock_types) (λ same. none (r / pageblock_types) (rw same at w.0)) w.0, w.1)

  -- the list of a new block, with its head in front
  pub listed_with : ((j : ℕ) → Starts s h j → ⊥) → r ≡ list_number k (kind_at m kinds h) → IsListed m (with_block s h k) kinds r (h ∷ xs)
  listed_with none e = record {
    distinct = distinct_more h xs old.distinct (λ on. none (r / pageblock_types) (old.to h on).0);
    to = λ g on. elim (stands_cases g h xs on) [
      | inl same ↦ rw same (here_from m (with_block s h k) kinds r h k e (with-here s h k lt))
      | inr later ↦ still_here none g (old.to g later)
    ];
    from = λ g w. elim (with-starts s h k g (r / pageblock_types) lt w.0) [ inl here ↦ rw (eq-eqb g h here.0) refl | inr was ↦ stands_later g h xs (old.from g (was.1, w.1)) ];
  }

  -- any other list
  pub listed_with_other : ((j : ℕ) → Starts s h j → ⊥) → r ≢ list_number k (kind_at m kinds h) → IsListed m (with_block s h k) kinds r xs
  listed_with_other none ne = record {
    distinct = old.distinct;
    to = λ g on. still_here none g (old.to g on);
    from = λ g w. elim (with-starts s h k g (r / pageblock_types) lt w.0) [
      | inl here ↦ absurd (ne (number_from k r (kind_at m kinds h) here.1 (rw here.0 at w.1)))
      | inr was ↦ old.from g (was.1, w.1)
    ];
  }

  -- the list of a block that goes, without its head
  pub listed_without : IsListed m (without_block s h) kinds r (without_page h xs)
  listed_without = record {
    distinct = distinct-filter (λ q. not (q == h)) xs old.distinct;
    to = λ g on.
        let f = stands_filter-to (λ q. not (q == h)) g xs on in
        let w = old.to g f.0 in
        (without-there s h g (r / pageblock_types) (λ same. both_ways (g == h) (not-true (g == h) f.1) (eq-eqb g h same)) w.0, w.1);
    from = λ g w.
        let was = clear-starts s h g (r / pageblock_types) lt w.0 in
        stands_filter-from (λ q. not (q == h)) g xs (old.from g (was.1, w.1)) (rw (ne_eqb g h was.0) refl);
  }

  -- any other list
  pub listed_without_other : ((j : ℕ) → Starts s h j → j ≡ k) → r ≢ list_number k (kind_at m kinds h) → IsListed m (without_block s h) kinds r xs
  listed_without_other only ne = record {
    distinct = old.distinct;
    to = λ g on.
        let w = old.to g on in
        (without-there s h g (r / pageblock_types) (λ same. let v = rw same at w in ne (number_from k r (kind_at m kinds h) (only (r / pageblock_types) v.0) v.1)) w.0, w.1);
    from = λ g w. old.from g ((clear-starts s h g (r / pageblock_types) lt w.0).1, w.1);
  }
