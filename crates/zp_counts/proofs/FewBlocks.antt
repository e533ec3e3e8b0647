-- A zone of so many pages has so few free blocks of each order that its counts can be packed.
use Rattle.std.proofs.Common.{◌≡◌, ℕ, zero, suc, ◌+◌, ◌-◌, ◌*◌, ◌/◌, ◌%◌, ◌^◌, ◌<◌, ◌≤◌, Bool, true, false, cond, List, ◌∷◌, length, get_or, sym, ap, ◌∙◌, arith}
use Rattle.std.specs.List.{range_with_len, count_by}
use Rattle.std.proofs.Math.Nat.{add-mod_left, mul-le-mul_right, suc-mul, zero-mod}
use Rattle.std.proofs.lemmas.Nat.{div-add-mod', mod-mul-add, pow_pos}
use Rattle.std.proofs.lemmas.Bool.{false_from_ne_true}
use Rattle.std.proofs.lemmas.List.Sums.{count_by-le-length, sum_by-cons}
use Rattle.std.proofs.lemmas.List.FromFn.{get_or-map-range_with_len, length-range_with_len}
use Rattle.zp_model.specs.declared.constants.TheConstants.{ORDERS}
use Rattle.zp_model.specs.Block.{is_max, size}
use Rattle.zp_model.specs.Info.{blocks_of_order, counts_of}
use Rattle.zp_model.proofs.Heads.{aligned_down}
use Rattle.zp_model.proofs.Pages.{is_max-to}
use Rattle.zp_counts.specs.CountBoards.{ArePackable}
use Rattle.zp_model.specs.declared.constants.TheConstants.{NARROW_PAGES}

abbrev one_if : Bool → ℕ
one_if b = cond b 1 0

one_at_most : (b : Bool) → one_if b ≤ 1
one_at_most true = omega arith
one_at_most false = omega arith

-- a number that lies between two multiples of d is none
between : (a d g : ℕ) → suc g < d → a % d ≡ 0 → (a + suc g) % d ≡ 0 → ⊥
between a d g lt this next =
    let whole : a / d * d ≡ a = omega (arith, div-add-mod' a d, this) in
    let zero_is : suc g ≡ 0 = sym (mod-mul-add (a / d) d (suc g) lt) ∙ ap (λ i. (i + suc g) % d) whole ∙ next in
    omega (arith, zero_is)

-- how many numbers of a range pass a test that only multiples of d pass, where the next multiple is g numbers on
few_multiples : (p : ℕ → Bool) (d : ℕ) → 0 < d → ((i : ℕ) → p i ≡ true → i % d ≡ 0) → (a n g : ℕ) → g < d → (a + g) % d ≡ 0 → count_by p (range_with_len a n) * d + g < n + d
few_multiples p d some only a zero g lt next = omega (arith, lt)
few_multiples p d some only a (suc n) zero lt next =
    let rest : ℕ = count_by p (range_with_len (a + 1) n) in
    let all : ℕ = count_by p (a ∷ range_with_len (a + 1) n) in
    let turn : a + 1 + (d - 1) ≡ d + a = omega (arith, some) in
    let this : a ≡ a + zero = omega arith in
    let far : (a + 1 + (d - 1)) % d ≡ 0 = ap (λ i. i % d) turn ∙ add-mod_left d a ∙ ap (λ i. i % d) this ∙ next in
    let before : rest * d + (d - 1) < n + d = few_multiples p d some only (a + 1) n (d - 1) (omega (arith, some)) far in
    let first : all ≡ one_if (p a) + rest = sum_by-cons (λ i. one_if (p i)) a (range_with_len (a + 1) n) in
    let more : all ≤ 1 + rest = omega (arith, first, one_at_most (p a)) in
    let wide : all * d ≤ (1 + rest) * d = mul-le-mul_right d more in
    let split : (1 + rest) * d ≡ rest * d + d = ap (λ k. k * d) (omega arith) ∙ suc-mul rest d in
    omega (arith, before, wide, split)
few_multiples p d some only a (suc n) (suc g) lt next =
    let rest : ℕ = count_by p (range_with_len (a + 1) n) in
    let all : ℕ = count_by p (a ∷ range_with_len (a + 1) n) in
    let off : p a ≡ false = false_from_ne_true (p a) (λ e. between a d g lt (only a e) next) in
    let same : all ≡ rest = sum_by-cons (λ i. one_if (p i)) a (range_with_len (a + 1) n) ∙ ap (λ b. one_if b + rest) off ∙ (omega arith) in
    let on : a + suc g ≡ a + 1 + g = omega arith in
    let before : rest * d + g < n + d = few_multiples p d some only (a + 1) n g (omega (arith, lt)) (ap (λ i. i % d) (sym on) ∙ next) in
    let wide : all * d ≡ rest * d = ap (λ k. k * d) same in
    omega (arith, before, wide)

-- blocks of an order lie at multiples of their length, and of each shorter one
few_of_order : (m : ℕ) (free : List Bool) (k j : ℕ) → j ≤ k → blocks_of_order m free k * 2 ^ j < length free + 2 ^ j
unfolding blocks_of_order
few_of_order m free k j le =
    let low = few_multiples (λ h. is_max m free h k) (2 ^ j) (pow_pos j) (λ h e. aligned_down j k h le (is_max-to m free h k e).aligned) 0 (length free) 0 (pow_pos j) (zero-mod (2 ^ j)) in
    omega (arith, low)

blocks_within : (m : ℕ) (free : List Bool) (k : ℕ) → blocks_of_order m free k ≤ length free
unfolding blocks_of_order
blocks_within m free k =
    omega (arith, count_by-le-length (λ h. is_max m free h k) (range_with_len 0 (length free)), length-range_with_len 0 (length free))

size_within : (free : List Bool) → size free ≤ length free
unfolding size
size_within free = count_by-le-length (λ b. b) free

-- the counts of a zone of so few pages fit into packed words
pub few_blocks : (m : ℕ) (free : List Bool) → length free ≤ NARROW_PAGES → ArePackable (counts_of m free)
few_blocks m free le = (
  omega (arith, le, size_within free),
  λ k lo hi. rw (counted k (omega (arith, hi))) (omega (arith, le, blocks_within m free k)),
  λ k lo hi. rw (counted k (omega (arith, hi))) (omega (arith, le, few_of_order m free k 2 lo)),
  λ k lo hi. rw (counted k hi) (omega (arith, le, few_of_order m free k 6 lo)),
)
  where
    counted : (k : ℕ) → k < ORDERS → get_or (counts_of m free).by_order k 0 ≡ blocks_of_order m free k
    counted k lt = get_or-map-range_with_len (blocks_of_order m free) 0 ORDERS k k 0 lt (omega arith)
