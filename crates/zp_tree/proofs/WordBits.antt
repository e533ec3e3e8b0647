-- A word after the bit of one of its nodes was set or cleared.
use Rattle.std.proofs.Common.{ℕ, ◌*◌, ◌%◌, ◌^◌, ◌≡◌, ◌≢◌, ◌∙◌, arith, bit_and, bit_or, w64}
use Rattle.std.specs.Int.{bit_at, bit_not}
use Rattle.std.proofs.lemmas.Nat.Bits.{bit_at_set_same, bit_at_set_other, bit_at_clear_same, bit_at_clear_other}
use Rattle.zp_tree.specs.Words.{node, IsPlace, IsMarked}
use Rattle.zp_tree.proofs.Nodes.{node_own, node_within}

abbrev pub set_bit : ℕ → ℕ → ℕ
set_bit w n = bit_or w (1 * 2 ^ n % 2 ^ 64)

abbrev pub clear_bit : ℕ → ℕ → ℕ
clear_bit w n = bit_and w (bit_not w64 (1 * 2 ^ n % 2 ^ 64))

other : (p l q k : ℕ) → IsPlace p l → IsPlace q k → (q ≡ p → k ≡ l → ⊥) → node q k ≢ node p l
other p l q k x y ne e = let o = node_own q k p l y x e in ne o.0 o.1

pub set_marks : (w n p l : ℕ) → IsPlace p l → n ≡ node p l → IsMarked w (set_bit w n) p l 1
set_marks w n p l x e = let b = (node_within p l x).1 in rw e record {
  here = bit_at_set_same w64 w (node p l) b;
  others = λ q k y ne. bit_at_set_other w64 w (node p l) b (node q k) (other p l q k x y ne);
}

pub clear_marks : (w n p l : ℕ) → IsPlace p l → n ≡ node p l → IsMarked w (clear_bit w n) p l 0
clear_marks w n p l x e = let b = (node_within p l x).1 in rw e record {
  here = bit_at_clear_same w64 w (node p l) b;
  others = λ q k y ne. bit_at_clear_other w64 w (node p l) b (node q k) (node_within q k y).1 (other p l q k x y ne);
}

-- no node has number 0
pub set_keeps_none : (w n p l : ℕ) → IsPlace p l → n ≡ node p l → bit_at w 0 ≡ 0 → bit_at (set_bit w n) 0 ≡ 0
set_keeps_none w n p l x e none = let b = node_within p l x in rw e (bit_at_set_other w64 w (node p l) b.1 0 (λ z. omega (arith, b.0, z)) ∙ none)

pub clear_keeps_none : (w n p l : ℕ) → IsPlace p l → n ≡ node p l → bit_at w 0 ≡ 0 → bit_at (clear_bit w n) 0 ≡ 0
clear_keeps_none w n p l x e none = let b = node_within p l x in rw e (bit_at_clear_other w64 w (node p l) b.1 0 (omega arith) (λ z. omega (arith, b.0, z)) ∙ none)
