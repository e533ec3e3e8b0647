-- Buddies: from the one half of a double to the other, the bit of the halves' order is turned.
use Rattle.std.proofs.Common.{ℕ, ◌+◌, ◌-◌, ◌*◌, ◌/◌, ◌%◌, ◌^◌, ◌≡◌, ◌<◌, inl, inr, sym, ◌∙◌, ap, arith, min}
use Rattle.std.specs.Int.Bits.{bit_and, bit_xor, xor_add_and, xor_assoc, xor_self, xor_zero_l}
use Rattle.std.proofs.Math.Nat.{mod-eq-sub-div-mul}
use Rattle.std.proofs.lemmas.Nat.{pow_pos, pow-add, mod-pow-add}
use Rattle.std.proofs.lemmas.Nat.Bits.{and_high}
use Rattle.zp_model.specs.Block.{head, IsBuddy}
use Rattle.zp_model.proofs.Heads.{head_aligned, head_of, half, two}

-- the start of an aligned run with the bit of its order turned
turned : (b j : ℕ) → b % 2 ^ j ≡ 0 → bit_xor b (2 ^ j) ≡ b + 2 ^ j - 2 * (b - head b (j + 1))
turned b j al =
    let double : 2 ^ (1 + j) ≡ 2 ^ (j + 1) = ap (λ n. 2 ^ n) (omega arith) in
    let t : 2 ^ (1 + j) ≡ 2 * 2 ^ j = pow-add 2 1 j in
    let only : 2 ^ (1 + j) - 2 ^ j ≡ 2 ^ j = omega arith in
    let common : bit_and b (2 ^ j) ≡ (b / 2 ^ j % 2 ^ 1) * 2 ^ j = ap (λ n. bit_and b n) (sym only) ∙ and_high b 1 j in
    let low : b % 2 ^ (1 + j) ≡ (b / 2 ^ j % 2 ^ 1) * 2 ^ j + b % 2 ^ j = mod-pow-add b 1 j in
    let off : b % 2 ^ (1 + j) ≡ b - head b (j + 1) = ap (λ n. b % n) double ∙ mod-eq-sub-div-mul b (2 ^ (j + 1)) in
    omega (arith, xor_add_and b (2 ^ j), common, low, off)

-- it is the buddy, whichever half the run is
pub turned_buddy : (b j c : ℕ) → c ≡ bit_xor b (2 ^ j) → b % 2 ^ j ≡ 0 → IsBuddy b j c (min b c)
turned_buddy b j c e al =
    let w : c ≡ b + 2 ^ j - 2 * (b - head b (j + 1)) = e ∙ turned b j al in
    let pos : 0 < 2 ^ j = pow_pos j in
    let lesser : head b (j + 1) ≡ min b c = elim (half b j al) [ inl low ↦ omega arith | inr high ↦ omega arith ] in
    record {
      double = rw (← lesser) (head_aligned b (j + 1));
      halves = elim (half b j al) [ inl low ↦ inl (omega arith, omega arith) | inr high ↦ inr (omega arith, omega arith) ];
    }

-- the bits that both have are those of the head of their double
pub common_bits : (b j c d : ℕ) → b % 2 ^ j ≡ 0 → IsBuddy b j c d → bit_and b c ≡ d
common_bits b j c d al x =
    let q = x.halves in
    let pos : 0 < 2 ^ j = pow_pos j in
    let around : head b (j + 1) ≡ d = head_of d b (j + 1) x.double (omega (arith, two j)) (omega (arith, two j)) in
    let other : c ≡ bit_xor b (2 ^ j) = omega (arith, turned b j al, around) in
    let turn : bit_xor b c ≡ 2 ^ j = ap (bit_xor b) other ∙ sym (xor_assoc b b (2 ^ j)) ∙ ap (λ n. bit_xor n (2 ^ j)) (xor_self b) ∙ xor_zero_l (2 ^ j) in
    omega (arith, xor_add_and b c, turn)
