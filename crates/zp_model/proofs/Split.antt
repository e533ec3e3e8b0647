-- What a block set becomes when the low run of one of its blocks leaves: the block goes, and the high halves come.
use Rattle.std.proofs.Common.{ℕ, suc, zero, ◌+◌, ◌%◌, ◌^◌, ◌≡◌, ◌≤◌, ◌<◌, ◌⊎◌, inl, inr, ◌∙◌, ap, arith}
use Rattle.std.proofs.lemmas.Nat.{pow_pos}
use Rattle.std.proofs.lemmas.Bool.{cases_lt, cases_eq, cases_order}
use Rattle.std.proofs.Math.Nat.{add-mod_right, pow-le-pow_right}
use Rattle.zp_model.specs.Block.{head}
use Rattle.zp_model.proofs.Heads.{two, head_le, lt_head, head_of, head_self, aligned_down}
use Rattle.zp_model.proofs.Normal.{IsNormal}

-- (g, j) is a high half that splitting (h, o) down to order k leaves
abbrev pub High : ℕ → ℕ → ℕ → ℕ → ℕ → Type 0
High h k o g j = (k ≤ j) × (j < o) × (g ≡ h + 2 ^ j)

abbrev pub AfterSplit : (ℕ → ℕ → Type 0) → ℕ → ℕ → ℕ → ℕ → ℕ → Type 0
AfterSplit S h k o g j = (S g j × (g ≡ h → ⊥)) ⊎ High h k o g j

abbrev pub Outside : (ℕ → Type 0) → ℕ → ℕ → ℕ → Type 0
Outside U h k i = U i × (h ≤ i → i < h + 2 ^ k → ⊥)

-- the high half round a page of (h, o) past the low run
which : (h k o i : ℕ) → k ≤ o → h + 2 ^ k ≤ i → i < h + 2 ^ o → (j : ℕ) × (k ≤ j) × (j < o) × (h + 2 ^ j ≤ i) × (i < h + 2 ^ j + 2 ^ j)
which h k zero i le a b = let e : k ≡ 0 = omega arith in let c : h + 2 ^ 0 ≤ i = rw e at a in absurd (omega arith)
which h k (suc o) i le a b =
    let t : 2 ^ suc o ≡ 2 ^ o + 2 ^ o = omega arith in
    elim (cases_lt o k) [
      | inl lt ↦ let s : k ≡ suc o = omega arith in let c : h + 2 ^ suc o ≤ i = rw s at a in absurd (omega arith)
      | inr ge ↦
          elim (cases_lt i (h + 2 ^ o)) [
            | inl low ↦ let w = which h k o i ge a low in (w.0, w.1, omega arith, w.3, w.4)
            | inr high ↦ (o, ge, omega arith, high, omega arith)
          ]
    ]

-- a high half lies in its block, past the low run
pub high_lies : (h k o g j : ℕ) → High h k o g j → (h + 2 ^ k ≤ g) × (g + 2 ^ j ≤ h + 2 ^ o)
high_lies h k o g j x =
    let low : 2 ^ k ≤ 2 ^ j = pow-le-pow_right (omega arith) x.0 in
    let double : 2 ^ (j + 1) ≤ 2 ^ o = pow-le-pow_right (omega arith) (omega arith) in
    omega (arith, x.2, two j)

-- two high halves with a page in common are one
high_apart : (h k o g j f n i : ℕ) → High h k o g j → High h k o f n → g ≤ i → i < g + 2 ^ j → f ≤ i → i < f + 2 ^ n → (g ≡ f) × (j ≡ n)
high_apart h k o g j f n i x y a b c d =
    let eg : g ≡ h + 2 ^ j = x.2 in
    let ef : f ≡ h + 2 ^ n = y.2 in
    elim (cases_order j n) [
      | inl same ↦ (cc, same)
      | inr (inl lt) ↦ let q : 2 ^ (j + 1) ≤ 2 ^ n = pow-le-pow_right (omega arith) (omega arith) in absurd (omega (arith, two j))
      | inr (inr gt) ↦ let q : 2 ^ (n + 1) ≤ 2 ^ j = pow-le-pow_right (omega arith) (omega arith) in absurd (omega (arith, two n))
    ]

-- a block (h, o) of a normal set whose low run of order k leaves
module _ (m : ℕ) (S : ℕ → ℕ → Type 0) (U : ℕ → Type 0) (z : IsNormal m S U) (h o k : ℕ) (s : S h o) where
  -- a high half meets no other block
  high_alone : (g j f n i : ℕ) → High h k o g j → S f n → (f ≡ h → ⊥) → g ≤ i → i < g + 2 ^ j → f ≤ i → i < f + 2 ^ n → ⊥
  high_alone g j f n i x y ne a b c d =
      let l = high_lies h k o g j x in
      ne (z.apart f n h o i y s c d (omega (arith, pow_pos k)) (omega arith)).0

  aligned_high : (j : ℕ) → j < o → (h + 2 ^ j) % 2 ^ j ≡ 0
  aligned_high j lt = add-mod_right h (2 ^ j) ∙ aligned_down j o h (omega arith) (z.aligned h o s)

  -- the double of a high half begins at the block's head
  double_high : (g j : ℕ) → High h k o g j → head g (j + 1) ≡ h
  double_high g j y =
      let e : g ≡ h + 2 ^ j = y.2 in
      head_of h g (j + 1) (aligned_down (j + 1) o h (omega arith) (z.aligned h o s)) (omega arith) (omega (arith, two j, pow_pos j))

  unjoined_split : (g j : ℕ) → j < m → g % 2 ^ (j + 1) ≡ 0 → AfterSplit S h k o g j → AfterSplit S h k o (g + 2 ^ j) j → ⊥
  unjoined_split g j lt al (inl x) (inl y) = z.unjoined g j lt al x.0 y.0
  unjoined_split g j lt al (inr x) y = omega (arith, double_high g j x, head_self g (j + 1) al, x.2, pow_pos j)
  unjoined_split g j lt al (inl x) (inr y) = x.1 (omega (arith, y.2))

  apart_split : (g j f n i : ℕ) → AfterSplit S h k o g j → AfterSplit S h k o f n → g ≤ i → i < g + 2 ^ j → f ≤ i → i < f + 2 ^ n → (g ≡ f) × (j ≡ n)
  apart_split g j f n i (inl x) (inl y) a b c d = z.apart g j f n i x.0 y.0 a b c d
  apart_split g j f n i (inl x) (inr y) a b c d = absurd (high_alone f n g j i y x.0 x.1 c d a b)
  apart_split g j f n i (inr x) (inl y) a b c d = absurd (high_alone g j f n i x y.0 y.1 a b c d)
  apart_split g j f n i (inr x) (inr y) a b c d = high_apart h k o g j f n i x y a b c d

  covers_split : k ≤ o → (i : ℕ) → Outside U h k i → (j : ℕ) × AfterSplit S h k o (head i j) j
  covers_split le i x =
      let c : (j : ℕ) × S (head i j) j = z.covers i x.0 in
      elim (cases_eq (head i c.0) h) [
        | inr ne ↦ (c.0, inl (c.1, ne))
        | inl e ↦
            let lo : head i c.0 ≤ i = head_le i c.0 in
            let hi : i < head i c.0 + 2 ^ c.0 = lt_head i c.0 in
            let same = z.apart (head i c.0) c.0 h o h c.1 s (omega arith) (omega (arith, pow_pos c.0)) (omega arith) (omega (arith, pow_pos o)) in
            let r : 2 ^ c.0 ≡ 2 ^ o = ap (λ n. 2 ^ n) same.1 in
            elim (cases_lt i (h + 2 ^ k)) [
              | inl low ↦ absurd (x.1 (omega arith) low)
              | inr high ↦
                  let w = which h k o i le high (omega arith) in
                  (w.0, inr (w.1, w.2, head_of (h + 2 ^ w.0) i w.0 (aligned_high w.0 w.2) w.3 w.4))
            ]
      ]

  inside_split : k ≤ o → (g j : ℕ) → AfterSplit S h k o g j → (i : ℕ) → g ≤ i → i < g + 2 ^ j → Outside U h k i
  inside_split le g j (inl x) i a b =
      let p : 2 ^ k ≤ 2 ^ o = pow-le-pow_right (omega arith) le in
      (z.inside g j x.0 i a b, λ c d. x.1 (z.apart g j h o i x.0 s a b c (omega arith)).0)
  inside_split le g j (inr x) i a b =
      let l = high_lies h k o g j x in
      let p : 0 < 2 ^ k = pow_pos k in
      (z.inside h o s i (omega arith) (omega arith), λ c d. absurd (omega arith))

  pub split-normal : k ≤ o → IsNormal m (AfterSplit S h k o) (Outside U h k)
  split-normal le = record {
    order = λ g j x. elim x [ inl y ↦ z.order g j y.0 | inr y ↦ omega (arith, z.order h o s, y.1) ];
    aligned = λ g j x. elim x [ inl y ↦ z.aligned g j y.0 | inr y ↦ rw y.2 (aligned_high j y.1) ];
    apart = apart_split;
    unjoined = unjoined_split;
    covers = covers_split le;
    inside = inside_split le;
  }
