-- The largest block of a pageblock, page by page.
use Rattle.std.proofs.Common.{ℕ, zero, suc, ◌+◌, ◌-◌, ◌*◌, ◌/◌, ◌^◌, ◌≡◌, ◌≤◌, ◌<◌, refl, sym, ◌∙◌, ap, arith, leb, map, List, length, get_or, Option, None, Some}
use Rattle.std.specs.List.{range_with_len}
use Rattle.std.proofs.lemmas.List.{get_or_past}
use Rattle.zp_model.specs.Area.{pageblock_pages}
use Rattle.zp_model.specs.BlockSet.{block_if, greatest, larger, largest_in, order_of}
use Rattle.zp_model.proofs.Heads.{head_room, number_within}
use Rattle.zp_tree.specs.Blocks.{IsBlockSet}
use Rattle.zp_tree.proofs.Largest.{entry, entry-from}

-- the largest order of a block that starts from page i on, in the pageblock that starts at page a
abbrev pub largest_from : ℕ → List (Option ℕ) → ℕ → ℕ → Option ℕ
largest_from m s a i = greatest (map (entry s a m) (range_with_len i (a + pageblock_pages m - i)))

-- no page counts where no block starts
entry_none : (s : List (Option ℕ)) (a r i : ℕ) → get_or s i None ≡ None → entry s a r i ≡ None
entry_none s a r i e = ap (λ o. order_of (block_if (λ x j. leb (x + 2 ^ j) (a + 2 ^ r)) i o)) e

none_from : (s : List (Option ℕ)) (a r i n : ℕ) → length s ≤ i → greatest (map (entry s a r) (range_with_len i n)) ≡ None
none_from s a r i zero le = refl
none_from s a r i (suc n) le = ap (λ o. larger o (greatest (map (entry s a r) (range_with_len (i + 1) n)))) (entry_none s a r i (get_or_past s i None le)) ∙ none_from s a r (i + 1) n (omega arith)

module _ (m b : ℕ) (s : List (Option ℕ)) (x : IsBlockSet m s) where
  -- none starts past the pageblock's end, nor past the zone's
  pub largest_past : (i : ℕ) → i ≡ b * pageblock_pages m + pageblock_pages m → largest_from m s (b * pageblock_pages m) i ≡ None
  largest_past i e =
      let none : b * pageblock_pages m + pageblock_pages m - i ≡ 0 = omega arith in
      ap (λ n. greatest (map (entry s (b * pageblock_pages m) m) (range_with_len i n))) none

  pub largest_outside : (i : ℕ) → length s ≤ i → largest_from m s (b * pageblock_pages m) i ≡ None
  largest_outside i le = none_from s (b * pageblock_pages m) m i (b * pageblock_pages m + pageblock_pages m - i) le

  -- the entry of a page of the pageblock is the order of the block that starts there
  entry_is : (i : ℕ) → b * pageblock_pages m ≤ i → i < b * pageblock_pages m + pageblock_pages m → entry s (b * pageblock_pages m) m i ≡ get_or s i None
  entry_is i lo hi = go (get_or s i None) refl
    where
      go : (o : Option ℕ) → get_or s i None ≡ o → entry s (b * pageblock_pages m) m i ≡ get_or s i None
      go None e = entry_none s (b * pageblock_pages m) m i e ∙ sym e
      go (Some k) e =
          let block = x.block i k e in
          let start : i / 2 ^ m * 2 ^ m ≡ b * 2 ^ m = ap (λ q. q * 2 ^ m) (number_within b m i lo hi) in
          entry-from s (b * pageblock_pages m) m i k e (omega (arith, head_room i k m block.order block.aligned, start)) ∙ sym e

  pub largest_one : (i : ℕ) → b * pageblock_pages m ≤ i → i < b * pageblock_pages m + pageblock_pages m →
      larger (get_or s i None) (largest_from m s (b * pageblock_pages m) (i + 1)) ≡ largest_from m s (b * pageblock_pages m) i
  largest_one i lo hi =
      let n : b * pageblock_pages m + pageblock_pages m - i ≡ suc (b * pageblock_pages m + pageblock_pages m - (i + 1)) = omega arith in
      ap (λ o. larger o (largest_from m s (b * pageblock_pages m) (i + 1))) (sym (entry_is i lo hi))
      ∙ sym (ap (λ q. greatest (map (entry s (b * pageblock_pages m) m) (range_with_len i q))) n)

  pub largest_all : largest_from m s (b * pageblock_pages m) (b * pageblock_pages m) ≡ largest_in s (b * pageblock_pages m) m
  unfolding largest_in
  largest_all =
      let n : b * pageblock_pages m + pageblock_pages m - b * pageblock_pages m ≡ pageblock_pages m = omega arith in
      ap (λ q. greatest (map (entry s (b * pageblock_pages m) m) (range_with_len (b * pageblock_pages m) q))) n
