-- A set of disjoint blocks in which no two buddies stand is the set of the maximal blocks of its pages.
use Rattle.std.proofs.Common.{ℕ, suc, zero, ◌+◌, ◌%◌, ◌^◌, ◌≡◌, ◌≤◌, ◌<◌, inl, inr, ◌∙◌, arith}
use Rattle.std.proofs.lemmas.Nat.{pow_pos}
use Rattle.std.proofs.Math.Nat.{add-mod_right}
use Rattle.std.proofs.lemmas.Bool.{cases_lt}
use Rattle.zp_model.specs.Block.{head}
use Rattle.zp_model.proofs.Heads.{two, head_le, lt_head, head_aligned, head_self, aligned_down, head_head, head_same, head_room}

-- each page of the run of order k at h is in U
abbrev pub Filled : (ℕ → Type 0) → ℕ → ℕ → Type 0
Filled U h k = (i : ℕ) → h ≤ i → i < h + 2 ^ k → U i

-- S is a set of blocks of order at most m with no page in common and no two buddies that could be joined, and U has their pages
pub record IsNormal (m : ℕ) (S : ℕ → ℕ → Type 0) (U : ℕ → Type 0) : Type 0 where
  pub order : (h k : ℕ) → S h k → k ≤ m
  pub aligned : (h k : ℕ) → S h k → h % 2 ^ k ≡ 0
  pub apart : (h k g j i : ℕ) → S h k → S g j → h ≤ i → i < h + 2 ^ k → g ≤ i → i < g + 2 ^ j → (h ≡ g) × (k ≡ j)
  pub unjoined : (h k : ℕ) → k < m → h % 2 ^ (k + 1) ≡ 0 → S h k → S (h + 2 ^ k) k → ⊥
  pub covers : (i : ℕ) → U i → (k : ℕ) × S (head i k) k
  pub inside : (h k : ℕ) → S h k → Filled U h k

-- (h, k) is a maximal block of U, where no block has an order above m
pub record IsMaximal (m : ℕ) (U : ℕ → Type 0) (h k : ℕ) : Type 0 where
  pub order : k ≤ m
  pub aligned : h % 2 ^ k ≡ 0
  pub inside : Filled U h k
  pub alone : k < m → Filled U (head h (k + 1)) (k + 1) → ⊥

-- some block of S of order j or more lies round page b
abbrev pub Around : (ℕ → ℕ → Type 0) → ℕ → ℕ → Type 0
Around S b j = (k : ℕ) × (j ≤ k) × S (head b k) k

module _ (m : ℕ) (S : ℕ → ℕ → Type 0) (U : ℕ → Type 0) (n : IsNormal m S U) where
  around_more : (j : ℕ) → j < m → ((b : ℕ) → b % 2 ^ j ≡ 0 → Filled U b j → Around S b j) →
      (b : ℕ) → b % 2 ^ (j + 1) ≡ 0 → Filled U b (j + 1) → Around S b (j + 1)
  around_more j lt each b al f =
      let t : 2 ^ (j + 1) ≡ 2 ^ j + 2 ^ j = two j in
      let bal : b % 2 ^ j ≡ 0 = aligned_down j (j + 1) b (omega arith) al in
      let hal : (b + 2 ^ j) % 2 ^ j ≡ 0 = add-mod_right b (2 ^ j) ∙ bal in
      let lo : Around S b j = each b bal (λ i p q. f i p (omega arith)) in
      let hi : Around S (b + 2 ^ j) j = each (b + 2 ^ j) hal (λ i p q. f i (omega arith) (omega arith)) in
      elim (cases_lt j lo.0) [
        | inl above ↦ (lo.0, omega arith, lo.2)
        | inr low ↦
            elim (cases_lt j hi.0) [
              | inl above ↦
                  (hi.0, omega arith, rw (head_same b (b + 2 ^ j) (j + 1) hi.0 (omega arith) al (omega arith) (omega (arith, pow_pos j))) at hi.2)
              | inr high ↦
                  let e : lo.0 ≡ j = omega arith in
                  let g : hi.0 ≡ j = omega arith in
                  absurd (n.unjoined b j lt al (rw (e, head_self b j bal) at lo.2) (rw (g, head_self (b + 2 ^ j) j hal) at hi.2))
            ]
      ]

  -- each aligned run of order at most m that lies in U lies in one block of S
  pub run_in_block : (j : ℕ) → j ≤ m → (b : ℕ) → b % 2 ^ j ≡ 0 → Filled U b j → Around S b j
  run_in_block zero le b al f = let c = n.covers b (f b (omega arith) (omega (arith, pow_pos 0))) in (c.0, omega arith, c.1)
  run_in_block (suc j) le b al f =
      let e : suc j ≡ j + 1 = omega arith in
      rw e (around_more j (omega arith) (run_in_block j (omega arith)) b (rw e at al) (rw e at f))

  -- a block of S is maximal
  pub maximal_from : (h k : ℕ) → S h k → IsMaximal m U h k
  maximal_from h k s = record {
    order = n.order h k s;
    aligned = n.aligned h k s;
    inside = n.inside h k s;
    alone = λ lt f.
        let a : Around S (head h (k + 1)) (k + 1) = run_in_block (k + 1) (omega arith) (head h (k + 1)) (head_aligned h (k + 1)) f in
        let b : S (head h a.0) a.0 = rw (head_head h (k + 1) a.0 a.1) at a.2 in
        let p = n.apart h k (head h a.0) a.0 h s b (omega arith) (omega (arith, pow_pos k)) (head_le h a.0) (lt_head h a.0) in
        omega (arith, a.1, p.1);
  }

  -- a maximal block is one of S
  pub maximal_to : (h k : ℕ) → IsMaximal m U h k → S h k
  maximal_to h k x =
      let a : Around S h k = run_in_block k x.order h x.aligned x.inside in
      elim (cases_lt k a.0) [
        | inl lt ↦
            let d = head h (k + 1) in
            let e : head d a.0 ≡ head h a.0 = head_head h (k + 1) a.0 (omega arith) in
            let below : a.0 ≤ m = n.order (head h a.0) a.0 a.2 in
            let low : head d a.0 ≤ d = head_le d a.0 in
            let room : d + 2 ^ (k + 1) ≤ head d a.0 + 2 ^ a.0 = head_room d (k + 1) a.0 (omega arith) (head_aligned h (k + 1)) in
            absurd (x.alone (omega arith) (λ i p q. n.inside (head h a.0) a.0 a.2 i (omega arith) (omega arith)))
        | inr ge ↦ let e : a.0 ≡ k = omega arith in rw (e, head_self h k x.aligned) at a.2
      ]
