-- What a block set becomes when a run comes back and is joined as far as it goes.
use Rattle.std.proofs.Common.{ℕ, ◌+◌, ◌%◌, ◌^◌, ◌≡◌, ◌≤◌, ◌<◌, ◌⊎◌, inl, inr, refl, sym, ◌∙◌, ap, arith}
use Rattle.std.proofs.lemmas.Nat.{pow_pos}
use Rattle.std.proofs.lemmas.Bool.{cases_lt}
use Rattle.zp_model.specs.Block.{head}
use Rattle.zp_model.proofs.Heads.{head_le, lt_head, head_aligned, head_of, head_head, head_same, head_room}
use Rattle.zp_model.proofs.Normal.{Filled, IsNormal}

abbrev pub Joined : (ℕ → Type 0) → ℕ → ℕ → ℕ → Type 0
Joined U h k i = U i ⊎ ((h ≤ i) × (i < h + 2 ^ k))

-- the blocks of S past (b, j), and (b, j)
abbrev pub AfterJoin : (ℕ → ℕ → Type 0) → ℕ → ℕ → ℕ → ℕ → Type 0
AfterJoin S b j g i = (S g i × (b ≤ g → g < b + 2 ^ j → ⊥)) ⊎ ((g ≡ b) × (i ≡ j))

-- the run (h, k), none of whose pages is in U, has grown to the block (b, j), which has no buddy in S to be joined with
pub record IsGrown (m : ℕ) (S : ℕ → ℕ → Type 0) (U : ℕ → Type 0) (h k b j : ℕ) : Type 0 where
  pub aligned : h % 2 ^ k ≡ 0
  pub clear : U h → ⊥
  pub up : k ≤ j
  pub order : j ≤ m
  pub at : b ≡ head h j
  pub filled : Filled (Joined U h k) b j
  pub low : j < m → b % 2 ^ (j + 1) ≡ 0 → S (b + 2 ^ j) j → ⊥
  pub high : (g : ℕ) → j < m → g % 2 ^ (j + 1) ≡ 0 → b ≡ g + 2 ^ j → S g j → ⊥

module _ (m : ℕ) (S : ℕ → ℕ → Type 0) (U : ℕ → Type 0) (z : IsNormal m S U) (h k b j : ℕ) (x : IsGrown m S U h k b j) where
  grown_aligned : b % 2 ^ j ≡ 0
  grown_aligned = rw x.at (head_aligned h j)

  -- a block of S that begins inside (b, j) lies in it
  smaller : (g i : ℕ) → S g i → (p : ℕ) → g ≤ p → p < g + 2 ^ i → b ≤ p → p < b + 2 ^ j → i ≤ j
  smaller g i s p a c d e =
      elim (cases_lt j i) [
        | inr le ↦ le
        | inl lt ↦
            let bi : head b i ≡ g = ap (λ n. head n i) (sym (head_of b p j grown_aligned d e)) ∙ head_head p j i (omega arith) ∙ head_of g p i (z.aligned g i s) a c in
            let room : b + 2 ^ j ≤ head b i + 2 ^ i = head_room b j i (omega arith) grown_aligned in
            absurd (x.clear (z.inside g i s h (omega (arith, x.at, head_le b i, head_le h j)) (omega (arith, x.at, lt_head h j))))
      ]

  within : (g i : ℕ) → S g i → (p : ℕ) → g ≤ p → p < g + 2 ^ i → b ≤ p → p < b + 2 ^ j → (b ≤ g) × (g < b + 2 ^ j)
  within g i s p a c d e =
      let same : head p j ≡ head g j = head_same g p i j (smaller g i s p a c d e) (z.aligned g i s) a c in
      omega (arith, head_of b p j grown_aligned d e, head_le g j, lt_head g j)

  aligned_join : (g i : ℕ) → AfterJoin S b j g i → g % 2 ^ i ≡ 0
  aligned_join g i (inl s) = z.aligned g i s.0
  aligned_join g i (inr n) = rw (n.0, n.1) grown_aligned

  apart_join : (g i f n p : ℕ) → AfterJoin S b j g i → AfterJoin S b j f n → g ≤ p → p < g + 2 ^ i → f ≤ p → p < f + 2 ^ n → (g ≡ f) × (i ≡ n)
  apart_join g i f n p (inl s) (inl t) a c d e = z.apart g i f n p s.0 t.0 a c d e
  apart_join g i f n p (inr s) (inr t) a c d e = (s.0 ∙ sym t.0, s.1 ∙ sym t.1)
  apart_join g i f n p (inl s) (inr t) a c d e =
      let q : 2 ^ n ≡ 2 ^ j = ap (λ r. 2 ^ r) t.1 in
      let w = within g i s.0 p a c (omega arith) (omega arith) in
      absurd (s.1 w.0 w.1)
  apart_join g i f n p (inr s) (inl t) a c d e =
      let q : 2 ^ i ≡ 2 ^ j = ap (λ r. 2 ^ r) s.1 in
      let w = within f n t.0 p d e (omega arith) (omega arith) in
      absurd (t.1 w.0 w.1)

  unjoined_join : (g i : ℕ) → i < m → g % 2 ^ (i + 1) ≡ 0 → AfterJoin S b j g i → AfterJoin S b j (g + 2 ^ i) i → ⊥
  unjoined_join g i lt al (inl s) (inl t) = z.unjoined g i lt al s.0 t.0
  unjoined_join g i lt al (inr s) (inr t) = omega (arith, pow_pos i, s.0, t.0)
  unjoined_join g i lt al (inr s) (inl t) = x.low (omega (arith, s.1)) (rw (← s.0, ← s.1) al) (rw (← s.0, ← s.1) t.0)
  unjoined_join g i lt al (inl s) (inr t) = x.high g (omega (arith, t.1)) (rw (← t.1) al) (rw (← t.1) (sym t.0)) (rw (← t.1) s.0)

  covers_join : (p : ℕ) → Joined U h k p → (i : ℕ) × AfterJoin S b j (head p i) i
  covers_join p (inr r) = (j, inr (head_same h p k j x.up x.aligned r.0 r.1 ∙ sym x.at, refl))
  covers_join p (inl u) =
      let c : (i : ℕ) × S (head p i) i = z.covers p u in
      let g = head p c.0 in
      let q : 0 < 2 ^ c.0 = pow_pos c.0 in
      elim (cases_lt g b) [
        | inl lt ↦ (c.0, inl (c.1, λ lo hi. absurd (omega arith)))
        | inr ge ↦
            elim (cases_lt g (b + 2 ^ j)) [
              | inl lt ↦
                  let le : c.0 ≤ j = smaller g c.0 c.1 g (omega arith) (omega arith) ge lt in
                  (j, inr (sym (head_head p c.0 j le) ∙ head_of b g j grown_aligned ge lt, refl))
              | inr out ↦ (c.0, inl (c.1, λ lo hi. absurd (omega arith)))
            ]
      ]

  inside_join : (g i : ℕ) → AfterJoin S b j g i → (p : ℕ) → g ≤ p → p < g + 2 ^ i → Joined U h k p
  inside_join g i (inl s) p a c = inl (z.inside g i s.0 p a c)
  inside_join g i (inr s) p a c =
      let q : 2 ^ i ≡ 2 ^ j = ap (λ r. 2 ^ r) s.1 in
      x.filled p (omega arith) (omega arith)

  pub join-normal : IsNormal m (AfterJoin S b j) (Joined U h k)
  join-normal = record {
    order = λ g i y. elim y [ inl s ↦ z.order g i s.0 | inr n ↦ omega (arith, n.1, x.order) ];
    aligned = aligned_join;
    apart = apart_join;
    unjoined = unjoined_join;
    covers = covers_join;
    inside = inside_join;
  }
