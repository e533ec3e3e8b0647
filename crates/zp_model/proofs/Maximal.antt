-- The maximal blocks of a set of pages are disjoint, unjoined, and have its pages: each page lies in exactly one of them.
use Rattle.std.proofs.Common.{ℕ, suc, zero, ◌+◌, ◌%◌, ◌^◌, ◌≡◌, ◌≤◌, ◌<◌, inl, inr, sym, ◌∙◌, ap, arith, Bool, true, false, List}
use Rattle.std.proofs.lemmas.Bool.{cases_lt, cases_Bool, cases_order, false≢true}
use Rattle.zp_model.specs.Block.{head, has_run, is_max}
use Rattle.zp_model.proofs.Heads.{two, head_le, head_aligned, head_of, head_self, head_head, head_room}
use Rattle.zp_model.proofs.Normal.{IsNormal, IsMaximal}
use Rattle.zp_model.proofs.Pages.{In, has_run-to, has_run-from, is_max-to, is_max-from}

module _ (m : ℕ) (U : ℕ → Type 0) where
  -- no maximal block lies inside a larger run of the set
  not_inside : (h k g j i : ℕ) → IsMaximal m U h k → IsMaximal m U g j → h ≤ i → i < h + 2 ^ k → g ≤ i → i < g + 2 ^ j → k < j → ⊥
  not_inside h k g j i x y a b c d lt =
      let around = head i (k + 1) in
      let oj : j ≤ m = y.order in
      let eg : head around j ≡ g = head_head i (k + 1) j (omega arith) ∙ head_of g i j y.aligned c d in
      let low : head around j ≤ around = head_le around j in
      let room : around + 2 ^ (k + 1) ≤ head around j + 2 ^ j = head_room around (k + 1) j (omega arith) (head_aligned i (k + 1)) in
      let same : head h (k + 1) ≡ around = ap (λ n. head n (k + 1)) (sym (head_of h i k x.aligned a b)) ∙ head_head i k (k + 1) (omega arith) in
      x.alone (omega arith) (λ n p q. y.inside n (omega arith) (omega arith))

  pub maximal-apart : (h k g j i : ℕ) → IsMaximal m U h k → IsMaximal m U g j → h ≤ i → i < h + 2 ^ k → g ≤ i → i < g + 2 ^ j → (h ≡ g) × (k ≡ j)
  maximal-apart h k g j i x y a b c d =
      elim (cases_order k j) [
        | inl same ↦ (sym (head_of h i k x.aligned a b) ∙ rw same (head_of g i j y.aligned c d), same)
        | inr (inl lt) ↦ absurd (not_inside h k g j i x y a b c d lt)
        | inr (inr gt) ↦ absurd (not_inside g j h k i y x c d a b gt)
      ]

  pub maximal-unjoined : (h k : ℕ) → k < m → h % 2 ^ (k + 1) ≡ 0 → IsMaximal m U h k → IsMaximal m U (h + 2 ^ k) k → ⊥
  maximal-unjoined h k lt al x y =
      let e : head h (k + 1) ≡ h = head_self h (k + 1) al in
      let t : 2 ^ (k + 1) ≡ 2 ^ k + 2 ^ k = two k in
      x.alone lt (λ i p q. elim (cases_lt i (h + 2 ^ k)) [ inl low ↦ x.inside i (omega arith) low | inr high ↦ y.inside i high (omega arith) ])

-- a run of the set whose double does not lie in it is a maximal block
stops : (m : ℕ) (u : List Bool) (i k : ℕ) → k ≤ m → has_run u (head i k) k ≡ true → (k < m → has_run u (head i (k + 1)) (k + 1) ≡ false) → IsMaximal m (In u) (head i k) k
stops m u i k le r none = record {
  order = le;
  aligned = head_aligned i k;
  inside = has_run-to u (head i k) k r;
  alone = λ lt f. false≢true (sym (none lt) ∙ has_run-from u (head i (k + 1)) (k + 1) (rw (head_head i k (k + 1) (omega arith)) at f));
}

-- a run of the set round a page grows to a maximal one
grow : (m : ℕ) (u : List Bool) (i d k : ℕ) → k + d ≡ m → has_run u (head i k) k ≡ true → (j : ℕ) × IsMaximal m (In u) (head i j) j
grow m u i zero k e r = (k, stops m u i k (omega arith) r (λ lt. absurd (omega arith)))
grow m u i (suc d) k e r =
    elim (cases_Bool (has_run u (head i (k + 1)) (k + 1))) [
      | inl more ↦ grow m u i d (k + 1) (omega arith) more
      | inr none ↦ (k, stops m u i k (omega arith) r (λ lt. none))
    ]

pub maximal-covers : (m : ℕ) (u : List Bool) (i : ℕ) → In u i → (j : ℕ) × IsMaximal m (In u) (head i j) j
maximal-covers m u i x =
    let self : head i 0 ≡ i = omega arith in
    grow m u i m 0 (omega arith) (has_run-from u (head i 0) 0 (λ n p q. let e : i ≡ n = omega arith in rw e at x))

abbrev pub Max : ℕ → List Bool → ℕ → ℕ → Type 0
Max m u h k = is_max m u h k ≡ true

pub max-normal : (m : ℕ) (u : List Bool) → IsNormal m (Max m u) (In u)
max-normal m u = record {
  order = λ h k x. (is_max-to m u h k x).order;
  aligned = λ h k x. (is_max-to m u h k x).aligned;
  apart = λ h k g j i x y. maximal-apart m (In u) h k g j i (is_max-to m u h k x) (is_max-to m u g j y);
  unjoined = λ h k lt al x y. maximal-unjoined m (In u) h k lt al (is_max-to m u h k x) (is_max-to m u (h + 2 ^ k) k y);
  covers = λ i x. let c = maximal-covers m u i x in (c.0, is_max-from m u (head i c.0) c.0 c.1);
  inside = λ h k x. (is_max-to m u h k x).inside;
}
