-- The largest block inside an aligned run: that one is held, and none is larger.
use Rattle.std.proofs.Common.{ℕ, zero, suc, ◌+◌, ◌-◌, ◌*◌, ◌/◌, ◌^◌, ◌≡◌, ◌≤◌, ◌<◌, ◌⊎◌, inl, inr, refl, sym, ◌∙◌, ap, arith, max, map, List, [], ◌∷◌, get_or, Option, Some, None, IfSome}
use Rattle.std.specs.List.{range_with_len}
use Rattle.std.proofs.lemmas.Nat.{pow_pos, shr_split}
use Rattle.std.proofs.lemmas.List.FromFn.{get_or-map-range_with_len}
use Rattle.zp_model.specs.BlockSet.{Starts, greatest, larger, largest_in}
use Rattle.zp_model.specs.Area.{pageblock_pages}
use Rattle.zp_model.proofs.Heads.{head_room, number_within}
use Rattle.zp_tree.specs.Blocks.{IsBlockSet}
use Rattle.zp_tree.proofs.Largest.{entry, entry-from, entries-to}

larger_held : (p q : Option ℕ) (o : ℕ) → larger p q ≡ Some o → (p ≡ Some o) ⊎ (q ≡ Some o)
larger_held p q o e = grind arith

larger_first : (p q : Option ℕ) (k : ℕ) → p ≡ Some k → (o : ℕ) × (larger p q ≡ Some o) × (k ≤ o)
larger_first None q k e = cc
larger_first (Some j) None k e = let f : j ≡ k = cc in (j, refl, omega arith)
larger_first (Some j) (Some i) k e = let f : j ≡ k = cc in (max j i, refl, omega arith)

larger_second : (p q : Option ℕ) (k n : ℕ) → q ≡ Some n → k ≤ n → (o : ℕ) × (larger p q ≡ Some o) × (k ≤ o)
larger_second None q k n e le = (n, e, le)
larger_second (Some j) None k n e le = cc
larger_second (Some j) (Some i) k n e le = let f : i ≡ n = cc in (max j i, refl, omega arith)

greatest_held : (os : List (Option ℕ)) (o : ℕ) → greatest os ≡ Some o → (i : ℕ) × (get_or os i None ≡ Some o)
greatest_held [] o e = cc
greatest_held (p ∷ os) o e =
    elim (larger_held p (greatest os) o e) [
      | inl here ↦ (0, here)
      | inr later ↦ let w = greatest_held os o later in (suc w.0, w.1)
    ]

greatest_most : (os : List (Option ℕ)) (i k : ℕ) → get_or os i None ≡ Some k → (o : ℕ) × (greatest os ≡ Some o) × (k ≤ o)
greatest_most [] i k e = cc
greatest_most (p ∷ os) zero k e = larger_first p (greatest os) k e
greatest_most (p ∷ os) (suc i) k e = let w = greatest_most os i k e in larger_second p (greatest os) k w.0 w.1 w.2

pub inside_held : (s : List (Option ℕ)) (a r o : ℕ) → largest_in s a r ≡ Some o → (h : ℕ) × Starts s h o × (a ≤ h) × (h + 2 ^ o ≤ a + 2 ^ r)
unfolding largest_in
inside_held s a r o e =
    let w = greatest_held (map (entry s a r) (range_with_len a (2 ^ r))) o e in
    let x = entries-to s a r w.0 o w.1 in
    (a + w.0, x.0, omega arith, x.1)

pub inside_most : (s : List (Option ℕ)) (a r h k : ℕ) → Starts s h k → a ≤ h → h + 2 ^ k ≤ a + 2 ^ r → (o : ℕ) × (largest_in s a r ≡ Some o) × (k ≤ o)
unfolding largest_in
inside_most s a r h k st lo hi =
    let j : a + (h - a) ≡ h = omega arith in
    let pos : 0 < 2 ^ k = pow_pos k in
    greatest_most (map (entry s a r) (range_with_len a (2 ^ r))) (h - a) k
    (get_or-map-range_with_len (entry s a r) a (2 ^ r) (h - a) h None (omega arith) j ∙ entry-from s a r h k st hi)

-- the same of the blocks of a pageblock
pub pageblock_held : (m : ℕ) (s : List (Option ℕ)) (b : ℕ) (o : Option ℕ) → o ≡ largest_in s (b * pageblock_pages m) m →
    IfSome o (λ k. (h : ℕ) × Starts s h k × (h / pageblock_pages m ≡ b))
pageblock_held m s b None e = tt
pageblock_held m s b (Some k) e =
    let w = inside_held s (b * pageblock_pages m) m k (sym e) in
    (w.0, w.1, number_within b m w.0 w.2 (omega (arith, w.3, pow_pos k)))

pub pageblock_most : (m : ℕ) (s : List (Option ℕ)) (b : ℕ) (o : Option ℕ) → IsBlockSet m s → o ≡ largest_in s (b * pageblock_pages m) m → (h k : ℕ) → Starts s h k →
    h / pageblock_pages m ≡ b → (j : ℕ) × (o ≡ Some j) × (k ≤ j)
pageblock_most m s b o x e h k st there =
    let block = x.block h k st in
    let first : h / pageblock_pages m * pageblock_pages m ≡ b * pageblock_pages m = ap (λ n. n * pageblock_pages m) there in
    let w = inside_most s (b * pageblock_pages m) m h k st (omega (arith, shr_split h m)) (omega (arith, head_room h k m block.order block.aligned)) in
    (w.0, e ∙ w.1, w.2)
