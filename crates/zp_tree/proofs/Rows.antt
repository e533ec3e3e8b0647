-- The blocks of one level in a run of places stand in a row of bits.
use Rattle.std.proofs.Common.{ℕ, suc, zero, ◌+◌, ◌-◌, ◌*◌, ◌/◌, ◌%◌, ◌^◌, ◌≡◌, ◌≤◌, ◌<◌, inl, inr, sym, ◌∙◌, ap, arith, bit_and, w64, Some}
use Rattle.std.specs.Int.{bit_at, trailing_zeros}
use Rattle.std.proofs.lemmas.Bool.{cases_lt}
use Rattle.std.proofs.lemmas.Nat.{and_le_r, pow_pos, pow_below, pow-add, shr-shr, shr_split, leading_top}
use Rattle.std.proofs.lemmas.Nat.Bits.{bit_at_and, bit_at_ones, bit_at_above, bit_at-zero, bit_at-lt, bit_at-trailing_zeros}
use Rattle.std.proofs.Math.Nat.{add-mul, lt_of_mul-lt-mul_right, mul-le-mul_right}
use Rattle.std.proofs.Math.Pow.{pow_mono}
use Rattle.std.specs.Int.Count.{count_leading_zeros}
use Rattle.zp_model.proofs.Heads.{aligned_down, runs_apart}
use Rattle.zp_tree.specs.declared.constants.TheConstants.{WORD_LEVELS}
use Rattle.zp_tree.specs.Words.{node, IsPlace, Has, IsRow, IsLargestIn}
use Rattle.zp_tree.proofs.Nodes.{node_below, node_from, place_room, level_apart}

pub row_masked : (w n d : ℕ) → IsRow w n d (bit_and (w / 2 ^ (n * 2 ^ d)) (2 ^ 2 ^ d - 1))
row_masked w n d =
    let m = 2 ^ d in
    let a = n * m in
    let pos = pow_pos m in
    record {
      bits = λ i lt.
          let one : bit_at (2 ^ m - 1) i ≡ 1 = bit_at_ones m i lt in
          let shifted : w / 2 ^ a / 2 ^ i ≡ w / 2 ^ (a + i) = shr-shr w a i in
          let bit : bit_at (w / 2 ^ a) i ≡ bit_at w (a + i) = ap (λ x. x % 2) shifted in
          omega (arith, bit_at_and (w / 2 ^ a) (2 ^ m - 1) i, one, bit, bit_at-lt w (a + i));
      within = omega (arith, and_le_r (w / 2 ^ a) (2 ^ m - 1), pos);
    }

-- a place of level k in the run of level l at place p, by its number there
in_run : (p l q k : ℕ) → IsPlace p l → IsPlace q k → p ≤ q → q + 2 ^ k ≤ p + 2 ^ l → k ≤ l → (i : ℕ) × (i < 2 ^ (l - k)) × (q ≡ p + i * 2 ^ k)
in_run p l q k x y from to le =
    let e : (l - k) + k ≡ l = omega arith in
    let pow : 2 ^ (l - k) * 2 ^ k ≡ 2 ^ l = sym (pow-add 2 (l - k) k) ∙ ap (λ n. 2 ^ n) e in
    let pos = pow_pos k in
    let al = aligned_down k l p le x.aligned in
    let i = q / 2 ^ k - p / 2 ^ k in
    let up : p / 2 ^ k ≤ q / 2 ^ k = elim (cases_lt (q / 2 ^ k) (p / 2 ^ k)) [ inl lt ↦ absurd (omega (arith, runs_apart (q / 2 ^ k) (p / 2 ^ k) k lt, shr_split q k, shr_split p k, al, y.aligned, pos)) | inr ge ↦ ge ] in
    let s : q / 2 ^ k ≡ p / 2 ^ k + i = omega arith in
    let m : q / 2 ^ k * 2 ^ k ≡ p / 2 ^ k * 2 ^ k + i * 2 ^ k = ap (λ n. n * 2 ^ k) s ∙ add-mul (p / 2 ^ k) i (2 ^ k) in
    let at : q ≡ p + i * 2 ^ k = omega (arith, shr_split q k, shr_split p k, al, y.aligned, m) in
    (i, lt_of_mul-lt-mul_right (2 ^ k) (omega (arith, at, pow, pos)), at)

-- no bit of a row, no block of its level in the run
pub row_none : (w p l k v q : ℕ) → IsPlace p l → k ≤ l → IsRow w (node p l) (l - k) v → v ≡ 0 → Has w q k → p ≤ q → q + 2 ^ k ≤ p + 2 ^ l → ⊥
row_none w p l k v q x le r z h from to =
    let e : k + (l - k) ≡ l = omega arith in
    let i = in_run p l q k x h.place from to le in
    let n = (node_below p l k (l - k) i.0 x e i.1).1 in
    let b : bit_at v i.0 ≡ bit_at w (node q k) = r.bits i.0 i.1 ∙ ap (bit_at w) (sym n ∙ ap (λ j. node j k) (sym i.2)) in
    omega (arith, b, h.bit, bit_at-zero i.0, ap (λ j. bit_at j i.0) z)

-- the lowest bit of a row is its first block
pub row_first : (w p l k v : ℕ) → IsPlace p l → k ≤ l → IsRow w (node p l) (l - k) v → 0 < v → v < 2 ^ 64 →
    (trailing_zeros w64 v < 2 ^ (l - k)) × Has w (p + trailing_zeros w64 v * 2 ^ k) k × (p + trailing_zeros w64 v * 2 ^ k + 2 ^ k ≤ p + 2 ^ l) × ((q : ℕ) → Has w q k → p ≤ q → q + 2 ^ k ≤ p + 2 ^ l → p + trailing_zeros w64 v * 2 ^ k ≤ q)
row_first w p l k v x le r some small =
    let e : k + (l - k) ≡ l = omega arith in
    let t = bit_at-trailing_zeros w64 v some small in
    let z = trailing_zeros w64 v in
    let lt : z < 2 ^ (l - k) = elim (cases_lt z (2 ^ (l - k))) [ inl y ↦ y | inr ge ↦ absurd (omega (arith, t.1, bit_at_above v (2 ^ (l - k)) z r.within ge)) ] in
    let n = node_below p l k (l - k) z x e lt in (
      lt,
      record { place = n.0; bit = ap (bit_at w) n.1 ∙ sym (r.bits z lt) ∙ t.1 },
      n.2,
      λ q h from to.
          let i = in_run p l q k x h.place from to le in
          let m = (node_below p l k (l - k) i.0 x e i.1).1 in
          let b : bit_at v i.0 ≡ bit_at w (node q k) = r.bits i.0 i.1 ∙ ap (bit_at w) (sym m ∙ ap (λ j. node j k) (sym i.2)) in
          let ge : z ≤ i.0 = elim (cases_lt i.0 z) [ inl below ↦ absurd (omega (arith, b, h.bit, t.2 i.0 below)) | inr y ↦ y ] in
          let c : z * 2 ^ k ≤ i.0 * 2 ^ k = mul-le-mul_right (2 ^ k) ge in
          omega (arith, c, i.2),
    )

-- the lowest bit of a word is of a block of the largest level
lowest_bit : (w n d : ℕ) → d ≤ WORD_LEVELS → 2 ^ d ≤ n → n < 2 ^ (d + 1) → bit_at w n ≡ 1 → ((i : ℕ) → i < n → bit_at w i ≡ 0) → IsLargestIn w 0 WORD_LEVELS (Some (WORD_LEVELS - d))
lowest_bit w n d few lo hi bit below =
    let f = node_from n d few lo hi in (
      (f.0, record { place = f.1; bit = ap (bit_at w) f.2 ∙ bit }, omega arith, place_room f.0 (WORD_LEVELS - d) f.1),
      λ q k h _ _.
          elim (cases_lt (WORD_LEVELS - d) k) [
            | inl more ↦ absurd (omega (arith, h.bit, below (node q k) (omega (arith, level_apart f.0 (WORD_LEVELS - d) q k f.1 h.place more, f.2))))
            | inr le ↦ le
          ],
    )

pub lowest_is_largest : (w : ℕ) → 0 < w → w < 2 ^ 64 → bit_at w 0 ≡ 0 →
    let z = count_leading_zeros 32 (trailing_zeros w64 w) in (26 ≤ z) × IsLargestIn w 0 WORD_LEVELS (Some (z - 26))
lowest_is_largest w some small none =
    let t = bit_at-trailing_zeros w64 w some small in
    go (trailing_zeros w64 w) t.0 t.1 t.2
  where
    go : (n : ℕ) → n < 64 → bit_at w n ≡ 1 → ((i : ℕ) → i < n → bit_at w i ≡ 0) → (26 ≤ count_leading_zeros 32 n) × IsLargestIn w 0 WORD_LEVELS (Some (count_leading_zeros 32 n - 26))
    go zero lt bit below = absurd (omega (arith, none, bit))
    go (suc n) lt bit below =
        let top = leading_top 32 (suc n) (omega arith) (omega arith) in
        let d = top.0 in
        let few : d ≤ WORD_LEVELS = elim (cases_lt WORD_LEVELS d) [ inl more ↦ absurd (let b : 2 ^ 6 ≤ 2 ^ d = pow_mono {i = 6} {j = d} more in omega (arith, b, lt, top.2)) | inr y ↦ y ] in
        let e : suc d ≡ d + 1 = omega arith in
        let hi : suc n < 2 ^ (d + 1) = omega (arith, top.3, ap (λ x. 2 ^ x) e) in
        let is : count_leading_zeros 32 (suc n) - 26 ≡ WORD_LEVELS - d = omega (arith, top.1) in
        (omega (arith, top.1), rw is (lowest_bit w (suc n) d few top.2 hi bit below))

-- the run of all places
pub all_places : IsPlace 0 WORD_LEVELS
all_places = record { level = omega arith; aligned = omega arith; inside = omega arith }

-- a block inside a run is no larger
pub level_inside : (p l q k : ℕ) → p ≤ q → q + 2 ^ k ≤ p + 2 ^ l → k ≤ l
level_inside p l q k from to = elim (cases_lt l k) [ inl more ↦ absurd (omega (arith, pow_below l k more)) | inr le ↦ le ]
