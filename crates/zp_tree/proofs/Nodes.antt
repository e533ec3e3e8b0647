-- The nodes of a word: each block of its places has one of its own.
use Rattle.std.proofs.Common.{ℕ, ◌+◌, ◌-◌, ◌*◌, ◌/◌, ◌%◌, ◌^◌, ◌≡◌, ◌≤◌, ◌<◌, inl, inr, sym, ◌∙◌, ap, arith}
use Rattle.std.proofs.lemmas.Nat.{shr_split, pow-add, pow_pos, shr_below}
use Rattle.std.proofs.lemmas.Bool.{cases_lt, cases_eq}
use Rattle.std.proofs.Math.Nat.{mul-add-div_right, mul-div_cancel, mul-lt-mul_of_pos_right, mul-le-mul_right, mul-mod_left, add-mul-mod_self_right, add-mul-div_right, add-mul, mul_assoc}
use Rattle.std.proofs.Math.Pow.{pow_mono}
use Rattle.zp_model.specs.Block.{head}
use Rattle.zp_model.proofs.Heads.{two, aligned_down, head_of, head_room}
use Rattle.zp_tree.specs.declared.constants.TheConstants.{PLACES, WORD_LEVELS}
use Rattle.zp_tree.specs.Words.{node, IsPlace}

-- the nodes of a level have their numbers in a row
pub node_is : (p l : ℕ) → l ≤ WORD_LEVELS → node p l ≡ 2 ^ (WORD_LEVELS - l) + p / 2 ^ l
node_is p l le =
    let e : (WORD_LEVELS - l) + l ≡ WORD_LEVELS = omega arith in
    let w : 2 ^ WORD_LEVELS ≡ 2 ^ (WORD_LEVELS - l) * 2 ^ l = ap (λ n. 2 ^ n) (sym e) ∙ pow-add 2 (WORD_LEVELS - l) l in
    ap (λ n. (n + p) / 2 ^ l) w ∙ mul-add-div_right (pow_pos l) (2 ^ (WORD_LEVELS - l)) p

pub place_lt : (p l : ℕ) → IsPlace p l → p / 2 ^ l < 2 ^ (WORD_LEVELS - l)
place_lt p l x = let le = x.level in let e : WORD_LEVELS ≡ (WORD_LEVELS - l) + l = omega arith in let lt : p < 2 ^ WORD_LEVELS = x.inside in shr_below p (WORD_LEVELS - l) l (rw (← e) lt)

pub node_within : (p l : ℕ) → IsPlace p l → (0 < node p l) × (node p l < 64)
node_within p l x =
    let e = node_is p l x.level in
    let lt = place_lt p l x in
    let pos = pow_pos (WORD_LEVELS - l) in
    let top : 2 ^ (WORD_LEVELS - l) ≤ 2 ^ WORD_LEVELS = pow_mono {i = WORD_LEVELS - l} {j = WORD_LEVELS} (omega arith) in
    (omega arith, omega arith)

-- so no two levels share one
pub level_apart : (p l q k : ℕ) → IsPlace p l → IsPlace q k → l < k → node q k < node p l
level_apart p l q k x y lt =
    let b : 2 ^ (WORD_LEVELS - k + 1) ≤ 2 ^ (WORD_LEVELS - l) = pow_mono (omega (arith, y.level)) in
    omega (arith, node_is p l x.level, node_is q k y.level, place_lt q k y, two (WORD_LEVELS - k), b)

pub node_own : (p l q k : ℕ) → IsPlace p l → IsPlace q k → node p l ≡ node q k → (p ≡ q) × (l ≡ k)
node_own p l q k x y e =
    let same : l ≡ k = elim (cases_eq l k) [
      | inl e ↦ e
      | inr ne ↦ absurd (elim (cases_lt l k) [ inl lt ↦ omega (arith, level_apart p l q k x y lt) | inr ge ↦ omega (arith, level_apart q k p l y x (omega arith)) ])
    ] in
    let f : node p l ≡ node q l = e ∙ ap (λ j. node q j) (sym same) in
    let d : p / 2 ^ l ≡ q / 2 ^ l = omega (arith, node_is p l x.level, node_is q l x.level, f) in
    let al : q % 2 ^ l ≡ 0 = rw same y.aligned in
    let m : p / 2 ^ l * 2 ^ l ≡ q / 2 ^ l * 2 ^ l = ap (λ n. n * 2 ^ l) d in
    (omega (arith, shr_split p l, shr_split q l, x.aligned, m), same)

-- the places of a block end with the word's, or before
pub place_room : (p l : ℕ) → IsPlace p l → p + 2 ^ l ≤ PLACES
place_room p l x =
    let z : head p WORD_LEVELS ≡ 0 = head_of 0 p WORD_LEVELS (omega arith) (omega arith) x.inside in
    omega (arith, z, head_room p l WORD_LEVELS x.level x.aligned)

-- each number below 64 but 0 is a node's
pub node_from : (n j : ℕ) → j ≤ WORD_LEVELS → 2 ^ j ≤ n → n < 2 ^ (j + 1) → (p : ℕ) × IsPlace p (WORD_LEVELS - j) × (node p (WORD_LEVELS - j) ≡ n)
node_from n j le lo hi =
    let l = WORD_LEVELS - j in
    let p = (n - 2 ^ j) * 2 ^ l in
    let back : WORD_LEVELS - l ≡ j = omega arith in
    let whole : 2 ^ j * 2 ^ l ≡ 2 ^ WORD_LEVELS = let e : j + l ≡ WORD_LEVELS = omega arith in sym (pow-add 2 j l) ∙ ap (λ n. 2 ^ n) e in
    let d : p / 2 ^ l ≡ n - 2 ^ j = mul-div_cancel (n - 2 ^ j) (pow_pos l) in
    let lt : (n - 2 ^ j) * 2 ^ l < 2 ^ j * 2 ^ l = mul-lt-mul_of_pos_right {n = 2 ^ j} (omega (arith, two j)) (pow_pos l) in
    (p, record { level = omega arith; aligned = mul-mod_left (n - 2 ^ j) (2 ^ l); inside = omega (arith, lt, whole) }, node_is p l (omega arith) ∙ ap (λ m. 2 ^ m + p / 2 ^ l) back ∙ omega (arith, d))

-- the nodes d levels below one stand in a row
pub node_below : (p l k d i : ℕ) → IsPlace p l → k + d ≡ l → i < 2 ^ d → IsPlace (p + i * 2 ^ k) k × (node (p + i * 2 ^ k) k ≡ node p l * 2 ^ d + i) × (p + i * 2 ^ k + 2 ^ k ≤ p + 2 ^ l)
node_below p l k d i x e lt =
    let kl : k ≤ l = omega arith in
    let low : p % 2 ^ k ≡ 0 = aligned_down k l p kl x.aligned in
    let room : i * 2 ^ k + 2 ^ k ≤ 2 ^ l = let m : (i + 1) * 2 ^ k ≤ 2 ^ d * 2 ^ k = mul-le-mul_right (2 ^ k) (omega arith) in let f : d + k ≡ l = omega arith in omega (arith, m, sym (pow-add 2 d k) ∙ ap (λ n. 2 ^ n) f) in
    let pl = place_room p l x in
    let pos = pow_pos k in
    let y : IsPlace (p + i * 2 ^ k) k = record { level = omega (arith, x.level); aligned = add-mul-mod_self_right p i (2 ^ k) ∙ low; inside = omega arith } in
    let a : (p + i * 2 ^ k) / 2 ^ k ≡ p / 2 ^ k + i = add-mul-div_right p i pos in
    let b : 2 ^ (WORD_LEVELS - k) ≡ 2 ^ (WORD_LEVELS - l) * 2 ^ d = let f : WORD_LEVELS - k ≡ (WORD_LEVELS - l) + d = omega (arith, x.level) in ap (λ n. 2 ^ n) f ∙ pow-add 2 (WORD_LEVELS - l) d in
    let c : p / 2 ^ k ≡ p / 2 ^ l * 2 ^ d =
    let f : d + k ≡ l = omega arith in
    let g : p ≡ p / 2 ^ l * 2 ^ d * 2 ^ k = let h : p ≡ p / 2 ^ l * 2 ^ l = omega (arith, shr_split p l, x.aligned) in h ∙ ap (λ n. p / 2 ^ l * 2 ^ n) (sym f) ∙ ap (λ n. p / 2 ^ l * n) (pow-add 2 d k) ∙ sym (mul_assoc (p / 2 ^ l) (2 ^ d) (2 ^ k)) in
    ap (λ n. n / 2 ^ k) g ∙ mul-div_cancel (p / 2 ^ l * 2 ^ d) pos in
    let s : (2 ^ (WORD_LEVELS - l) + p / 2 ^ l) * 2 ^ d ≡ 2 ^ (WORD_LEVELS - l) * 2 ^ d + p / 2 ^ l * 2 ^ d = add-mul (2 ^ (WORD_LEVELS - l)) (p / 2 ^ l) (2 ^ d) in
    let t : node p l * 2 ^ d ≡ (2 ^ (WORD_LEVELS - l) + p / 2 ^ l) * 2 ^ d = ap (λ n. n * 2 ^ d) (node_is p l x.level) in
    (y, node_is (p + i * 2 ^ k) k y.level ∙ omega (arith, a, b, c, s, t), omega (arith, room))
