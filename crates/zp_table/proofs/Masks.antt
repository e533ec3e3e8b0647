-- What masks and shifts leave of a word's fields.
use Rattle.std.proofs.Common.{ℕ, ◌≡◌, ◌<◌, ◌≤◌, ◌+◌, ◌-◌, ◌*◌, ◌/◌, ◌%◌, ◌^◌, refl, sym, ◌∙◌, ap, arith, bit_and, bit_or}
use Rattle.std.proofs.Math.Nat.{mul_assoc, mul_comm, mul-sub, add-mul, add-zero, pow-le-pow_right}
use Rattle.std.proofs.lemmas.Nat.{pow_pos, pow-add, one_shl, shl_whole, and_comm, and_le_r, and-not, or_block, or_shifted, or_disjoint, mod-pow-add, shr_split, mod_below}
use Rattle.std.proofs.lemmas.Nat.Bits.{and_high}
use Rattle.zp_table.specs.Fields.{field, with_field}

pub mask : (j : ℕ) → j < 64 → 1 * 2 ^ j % 2 ^ 64 - 1 ≡ 2 ^ j - 1
mask j lt = rw (one_shl j 64 lt) refl

mask_there : (j k : ℕ) → j < 64 → j + k ≤ 64 → (1 * 2 ^ j % 2 ^ 64 - 1) * 2 ^ k % 2 ^ 64 ≡ 2 ^ (j + k) - 2 ^ k
mask_there j k lt le =
    let p = pow_pos j in
    let small : 2 ^ j - 1 < 2 ^ j = omega arith in
    rw (mask j lt, shl_whole (2 ^ j - 1) j k 64 small le, pow-add 2 j k) (omega (arith, mul_comm (2 ^ j - 1) (2 ^ k), mul-sub (2 ^ k) (2 ^ j) 1, mul_comm (2 ^ k) (2 ^ j)))

-- the bits of a field where they stand
pub left_there : (w j k : ℕ) → j < 64 → k + j ≤ 64 → bit_and w ((1 * 2 ^ j % 2 ^ 64 - 1) * 2 ^ k % 2 ^ 64) ≡ field w k j * 2 ^ k
left_there w j k lt le = let within : j + k ≤ 64 = omega arith in rw (mask_there j k lt within) (and_high w j k)

-- a word without the bits of a field
cleared : (w j k : ℕ) → w < 2 ^ 64 → j + k ≤ 64 → bit_and w (2 ^ 64 - 1 - (2 ^ (j + k) - 2 ^ k)) ≡ w / 2 ^ (j + k) * 2 ^ (j + k) + w % 2 ^ k
cleared w j k fits le =
    let m = 2 ^ (j + k) - 2 ^ k in
    let top : 2 ^ (j + k) ≤ 2 ^ 64 = pow-le-pow_right {n = 2} (omega arith) le in
    let below : m < 2 ^ 64 = omega (arith, pow_pos k, pow_pos (j + k)) in
    let kept = and-not 64 m w below fits in
    omega (arith, and_comm w (2 ^ 64 - 1 - m), kept, and_comm m w, and_high w j k, mod-pow-add w j k, shr_split w (j + k))

or_zero : (a : ℕ) → bit_or a 0 ≡ a
or_zero a = let none : bit_and a 0 ≡ 0 = omega (arith, and_le_r a 0) in omega (arith, or_disjoint a 0 none)

filled : (hi j k lo v : ℕ) → lo < 2 ^ k → v < 2 ^ j → bit_or (hi * 2 ^ (j + k) + lo) (v * 2 ^ k) ≡ hi * 2 ^ (j + k) + v * 2 ^ k + lo
filled hi j k lo v low fits =
    let split : hi * 2 ^ (j + k) ≡ hi * 2 ^ j * 2 ^ k = ap (λ (n : ℕ). hi * n) (pow-add 2 j k) ∙ sym (mul_assoc hi (2 ^ j) (2 ^ k)) in
    let both = or_block k (hi * 2 ^ j) v lo 0 low (pow_pos k) in
    let sum = rw (add-zero (v * 2 ^ k), or_shifted hi j v fits, or_zero lo) at both in
    rw split (omega (arith, sum, add-mul (hi * 2 ^ j) v (2 ^ k)))

-- a word whose field of j bits from k on is masked out, and other bits put there
pub replaced : (w k j v : ℕ) → j < 64 → k + j ≤ 64 → w < 2 ^ 64 → v < 2 ^ j →
    bit_or (bit_and w (2 ^ 64 - 1 - (1 * 2 ^ j % 2 ^ 64 - 1) * 2 ^ k % 2 ^ 64)) (v * 2 ^ k % 2 ^ 64) ≡ with_field w k j v
replaced w k j v lt le fits small =
    let e : k + j ≡ j + k = omega arith in
    let within : j + k ≤ 64 = omega arith in
    rw (e, mask_there j k lt within, cleared w j k fits within, shl_whole v j k 64 small within) (filled (w / 2 ^ (j + k)) j k (w % 2 ^ k) v (mod_below w (2 ^ k) (pow_pos k)) small)
