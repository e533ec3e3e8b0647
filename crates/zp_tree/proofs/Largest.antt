-- The largest order of a block in a run of pages.
use Rattle.std.proofs.Common.{ℕ, ◌+◌, ◌-◌, ◌^◌, ◌≡◌, ◌≤◌, ◌<◌, inl, inr, refl, sym, ◌∙◌, arith, List, get_or, map, leb, Option, Some, None}
use Rattle.std.specs.List.{range_with_len}
use Rattle.std.proofs.lemmas.Nat.{pow_pos}
use Rattle.std.proofs.lemmas.Bool.{cases_Bool, cases_lt, leb-true, le-leb}
use Rattle.std.proofs.lemmas.List.{get_or_past}
use Rattle.std.proofs.lemmas.List.FromFn.{get_or-map-range_with_len, length-map-range_with_len}
use Rattle.zp_model.specs.BlockSet.{Starts, block_if, order_of, largest_in}
use Rattle.zp_tree.specs.Ranks.{order_ranked}
use Rattle.zp_tree.proofs.Greatest.{greatest_is}

-- the entries that largest_in goes over
abbrev pub entry : List (Option ℕ) → ℕ → ℕ → ℕ → Option ℕ
entry s a r g = order_of (block_if (λ x j. leb (x + 2 ^ j) (a + 2 ^ r)) g (get_or s g None))

entry-to : (s : List (Option ℕ)) (a r g o : ℕ) → entry s a r g ≡ Some o → Starts s g o × (g + 2 ^ o ≤ a + 2 ^ r)
entry-to s a r g o e = go (get_or s g None) refl e
  where
    go : (q : Option ℕ) → get_or s g None ≡ q → order_of (block_if (λ x j. leb (x + 2 ^ j) (a + 2 ^ r)) g q) ≡ Some o → (get_or s g None ≡ Some o) × (g + 2 ^ o ≤ a + 2 ^ r)
    go None y z = absurd cc
    go (Some k) y z = elim (cases_Bool (leb (g + 2 ^ k) (a + 2 ^ r))) [
      | inl fits ↦ let d = rw fits at z in let same : o ≡ k = cc in rw same (y, leb-true (g + 2 ^ k) (a + 2 ^ r) fits)
      | inr past ↦ let d = rw past at z in absurd cc
    ]

pub entry-from : (s : List (Option ℕ)) (a r g o : ℕ) → Starts s g o → g + 2 ^ o ≤ a + 2 ^ r → entry s a r g ≡ Some o
entry-from s a r g o st le = rw (st, le-leb (g + 2 ^ o) (a + 2 ^ r) le) refl

pub entries-to : (s : List (Option ℕ)) (a r i o : ℕ) → get_or (map (entry s a r) (range_with_len a (2 ^ r))) i None ≡ Some o → Starts s (a + i) o × (a + i + 2 ^ o ≤ a + 2 ^ r)
entries-to s a r i o e = elim (cases_lt i (2 ^ r)) [
  | inl lt ↦ entry-to s a r (a + i) o (rw (get_or-map-range_with_len (entry s a r) a (2 ^ r) i (a + i) None lt refl) at e)
  | inr ge ↦ let d = rw (get_or_past (map (entry s a r) (range_with_len a (2 ^ r))) i None (omega (arith, length-map-range_with_len (entry s a r) a (2 ^ r)))) at e in absurd cc
]

-- the largest order in a run is the one told, if the blocks of the run tell it
pub largest_told : (s : List (Option ℕ)) (a r v : ℕ) → ((i o : ℕ) → Starts s i o → a ≤ i → i + 2 ^ o ≤ a + 2 ^ r → o < v) → ((w : ℕ) → v ≡ w + 1 → (i : ℕ) × Starts s i w × (a ≤ i) × (i + 2 ^ w ≤ a + 2 ^ r)) →
    order_ranked v ≡ largest_in s a r
unfolding largest_in
largest_told s a r v most some =
    sym (greatest_is (map (entry s a r) (range_with_len a (2 ^ r))) v (λ i o e. let y = entries-to s a r i o e in most (a + i) o y.0 (omega arith) y.1) (λ w e.
    let x = some w e in
    let back : a + (x.0 - a) ≡ x.0 = omega (arith, x.2) in (
      x.0 - a,
      get_or-map-range_with_len (entry s a r) a (2 ^ r) (x.0 - a) x.0 None (omega (arith, x.2, x.3, pow_pos w)) back ∙ entry-from s a r x.0 w x.1 x.3,
    )))
