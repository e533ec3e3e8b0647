-- Where aligned runs begin, and how two of them lie.
use Rattle.std.proofs.Common.{ℕ, suc, zero, ◌+◌, ◌-◌, ◌*◌, ◌/◌, ◌%◌, ◌^◌, ◌≡◌, ◌≤◌, ◌<◌, ◌⊎◌, inl, inr, sym, ◌∙◌, ap, arith}
use Rattle.std.proofs.lemmas.Nat.{shr_split, pow_pos, mod_below, shr_high, shr-shr, shl-shr, mod-pow-add}
use Rattle.std.proofs.lemmas.Bool.{cases_lt}
use Rattle.std.proofs.Math.Nat.{mul-mod_left, mul-le-mul_right, pow-suc, add-mod_right}
use Rattle.zp_model.specs.Block.{head}

pub two : (k : ℕ) → 2 ^ (k + 1) ≡ 2 ^ k + 2 ^ k
two k = let e : 2 ^ suc k ≡ 2 ^ k * 2 = pow-suc 2 k in let f : k + 1 ≡ suc k = omega arith in rw f (omega arith)

pub lt_pow : (k : ℕ) → k < 2 ^ k
lt_pow zero = omega arith
lt_pow (suc k) = let e : suc k ≡ k + 1 = omega arith in rw e (omega (arith, lt_pow k, two k))

pub head_le : (i k : ℕ) → head i k ≤ i
head_le i k = omega (arith, shr_split i k)

pub lt_head : (i k : ℕ) → i < head i k + 2 ^ k
lt_head i k = omega (arith, shr_split i k, mod_below i (2 ^ k) (pow_pos k))

pub head_aligned : (i k : ℕ) → head i k % 2 ^ k ≡ 0
head_aligned i k = mul-mod_left (i / 2 ^ k) (2 ^ k)

-- the pages of the aligned run with number b have its number
pub number_within : (b k i : ℕ) → b * 2 ^ k ≤ i → i < b * 2 ^ k + 2 ^ k → i / 2 ^ k ≡ b
number_within b k i lo hi =
    let e : i ≡ b * 2 ^ k + (i - b * 2 ^ k) = omega arith in
    ap (λ n. n / 2 ^ k) e ∙ shr_high b k (i - b * 2 ^ k) (omega arith)

-- so the pages of an aligned run have the number of its head
pub number_same : (h i k : ℕ) → h % 2 ^ k ≡ 0 → h ≤ i → i < h + 2 ^ k → i / 2 ^ k ≡ h / 2 ^ k
number_same h i k al lo hi = number_within (h / 2 ^ k) k i (omega (arith, shr_split h k)) (omega (arith, shr_split h k))

-- the number among larger runs, by the number among smaller ones
number_up : (n j k : ℕ) → j ≤ k → n / 2 ^ j / 2 ^ (k - j) ≡ n / 2 ^ k
number_up n j k le = let e : j + (k - j) ≡ k = omega arith in shr-shr n j (k - j) ∙ ap (λ m. n / 2 ^ m) e

pub number_around : (h i j k : ℕ) → j ≤ k → h % 2 ^ j ≡ 0 → h ≤ i → i < h + 2 ^ j → i / 2 ^ k ≡ h / 2 ^ k
number_around h i j k le al lo hi = sym (number_up i j k le) ∙ ap (λ n. n / 2 ^ (k - j)) (number_same h i j al lo hi) ∙ number_up h j k le

-- a run with a smaller number ends where one with a larger number begins, or before
pub runs_apart : (a b k : ℕ) → a < b → a * 2 ^ k + 2 ^ k ≤ b * 2 ^ k
runs_apart a b k lt = let le : a + 1 ≤ b = omega arith in let m : (a + 1) * 2 ^ k ≤ b * 2 ^ k = mul-le-mul_right (2 ^ k) le in omega arith

-- the aligned runs of order k, as many as n pages take up, have all those pages
pub number_lt : (n h k : ℕ) → h < n → h / 2 ^ k < (n + (2 ^ k - 1)) / 2 ^ k
number_lt n h k lt =
    elim (cases_lt (h / 2 ^ k) ((n + (2 ^ k - 1)) / 2 ^ k)) [
      | inl below ↦ below
      | inr past ↦
          let le : (n + (2 ^ k - 1)) / 2 ^ k * 2 ^ k ≤ h / 2 ^ k * 2 ^ k = mul-le-mul_right (2 ^ k) past in
          absurd (omega (arith, shr_split h k, shr_split (n + (2 ^ k - 1)) k, mod_below (n + (2 ^ k - 1)) (2 ^ k) (pow_pos k)))
    ]

-- the aligned run around a page is the one that it lies in
pub head_of : (h i k : ℕ) → h % 2 ^ k ≡ 0 → h ≤ i → i < h + 2 ^ k → head i k ≡ h
head_of h i k al lo hi = ap (λ n. n * 2 ^ k) (number_same h i k al lo hi) ∙ omega (arith, shr_split h k)

pub head_self : (h k : ℕ) → h % 2 ^ k ≡ 0 → head h k ≡ h
head_self h k al = head_of h h k al (omega arith) (omega (arith, pow_pos k))

pub aligned_down : (j k h : ℕ) → j ≤ k → h % 2 ^ k ≡ 0 → h % 2 ^ j ≡ 0
aligned_down j k h le al =
    let e : (k - j) + j ≡ k = omega arith in
    let g : h % 2 ^ ((k - j) + j) ≡ 0 = rw e al in
    omega (arith, mod-pow-add h (k - j) j)

-- the run of order k around the run of order j around i
pub head_head : (i j k : ℕ) → j ≤ k → head (head i j) k ≡ head i k
head_head i j k le =
    ap (λ m. m * 2 ^ k) (sym (number_up (head i j) j k le) ∙ ap (λ m. m / 2 ^ (k - j)) (shl-shr (i / 2 ^ j) j) ∙ number_up i j k le)

-- pages of one run of order j lie in one run of each larger order
pub head_same : (h i j k : ℕ) → j ≤ k → h % 2 ^ j ≡ 0 → h ≤ i → i < h + 2 ^ j → head i k ≡ head h k
head_same h i j k le al lo hi = sym (head_head i j k le) ∙ ap (λ n. head n k) (head_of h i j al lo hi)

-- the smaller run lies inside the larger one around it
pub head_room : (h j k : ℕ) → j ≤ k → h % 2 ^ j ≡ 0 → h + 2 ^ j ≤ head h k + 2 ^ k
head_room h j k le al =
    let p : 0 < 2 ^ j = pow_pos j in
    omega (arith, head_same h (h + 2 ^ j - 1) j k le al (omega arith) (omega arith), lt_head (h + 2 ^ j - 1) k)

-- an aligned run is the low or the high half of its double
pub half : (h j : ℕ) → h % 2 ^ j ≡ 0 → (h ≡ head h (j + 1)) ⊎ (h ≡ head h (j + 1) + 2 ^ j)
half h j al =
    let d = head h (j + 1) in
    let dal : d % 2 ^ j ≡ 0 = aligned_down j (j + 1) d (omega arith) (head_aligned h (j + 1)) in
    let self : head h j ≡ h = head_self h j al in
    elim (cases_lt h (d + 2 ^ j)) [
      | inl lt ↦ inl (sym self ∙ head_of d h j dal (head_le h (j + 1)) lt)
      | inr ge ↦ inr (sym self ∙ head_of (d + 2 ^ j) h j (add-mod_right d (2 ^ j) ∙ dal) ge (omega (arith, two j, lt_head h (j + 1))))
    ]
