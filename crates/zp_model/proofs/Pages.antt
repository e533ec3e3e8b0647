-- What the tests on page sets, on runs and on orders say.
use Rattle.std.proofs.Common.{ℕ, ◌+◌, ◌-◌, ◌%◌, ◌^◌, ◌≡◌, ◌≤◌, ◌<◌, ◌==◌, ◌⊎◌, inl, inr, refl, ap, arith, Bool, true, List, not, ◌||◌, Option, Some, None}
use Rattle.std.specs.Bool.{Decides}
use Rattle.std.proofs.Math.Bool.{or-true}
use Rattle.std.proofs.lemmas.Bool.{and_parts, and_from, or_cases, not-true, both_ways, cases_lt, leb-true, le-leb, ltb-true, lt-ltb, eqb-true, eq-eqb, false≢true, false_from_ne_true}
use Rattle.std.proofs.lemmas.Bool.Decides.{Decides-below_and}
use Rattle.zp_model.specs.Block.{has, has_run, in_run, is_max, head, all_below}
use Rattle.zp_model.specs.BlockSet.{is_order}
use Rattle.zp_model.proofs.Normal.{Filled, IsMaximal}

-- page i is in the set
abbrev pub In : List Bool → ℕ → Type 0
In u i = has u i ≡ true

all_below-decides : (test : ℕ → Bool) (n : ℕ) → Decides (all_below test n) ((k : ℕ) → k < n → test k ≡ true)
all_below-decides test n =
    Decides-below_and test (λ k. test k ≡ true) (all_below test) (λ k. (λ e. e, λ e. e)) refl (λ _. refl) n

-- a page lies in a run or not
pub run_cases : (h k i : ℕ) → ((h ≤ i) × (i < h + 2 ^ k)) ⊎ ((i < h) ⊎ (h + 2 ^ k ≤ i))
run_cases h k i = grind arith

pub in_run-to : (h k i : ℕ) → in_run h k i ≡ true → (h ≤ i) × (i < h + 2 ^ k)
in_run-to h k i e = let a = and_parts _ _ e in (leb-true h i a.0, ltb-true i (h + 2 ^ k) a.1)

pub in_run-from : (h k i : ℕ) → h ≤ i → i < h + 2 ^ k → in_run h k i ≡ true
in_run-from h k i a b = and_from _ _ (le-leb h i a) (lt-ltb i (h + 2 ^ k) b)

pub is_order-to : (k : ℕ) (o : Option ℕ) → is_order k o ≡ true → o ≡ Some k
is_order-to k None e = absurd (false≢true e)
is_order-to k (Some j) e = ap (λ n. Some n) (eqb-true j k e)

pub is_order-from : (k : ℕ) (o : Option ℕ) → o ≡ Some k → is_order k o ≡ true
is_order-from k o e = rw e (eq-eqb k k refl)

pub has_run-to : (u : List Bool) (h k : ℕ) → has_run u h k ≡ true → Filled (In u) h k
unfolding has_run
has_run-to u h k e i lo hi =
    let s : h + (i - h) ≡ i = omega arith in
    rw s at ((all_below-decides (λ i. has u (h + i)) (2 ^ k)).0 e (i - h) (omega arith))

pub has_run-from : (u : List Bool) (h k : ℕ) → Filled (In u) h k → has_run u h k ≡ true
unfolding has_run
has_run-from u h k f = (all_below-decides (λ i. has u (h + i)) (2 ^ k)).1 (λ i lt. f (h + i) (omega arith) (omega arith))

pub is_max-to : (m : ℕ) (u : List Bool) (h k : ℕ) → is_max m u h k ≡ true → IsMaximal m (In u) h k
unfolding is_max
is_max-to m u h k e =
    let a = and_parts _ _ e in
    let b = and_parts _ _ a.0 in
    let c = and_parts _ _ b.0 in
    record {
      order = leb-true k m c.0;
      aligned = eqb-true (h % 2 ^ k) 0 c.1;
      inside = has_run-to u h k b.1;
      alone = λ lt f. elim (or_cases _ _ a.1) [
        | inl same ↦ let s : k ≡ m = eqb-true k m same in omega arith
        | inr none ↦ both_ways _ (not-true _ none) (has_run-from u (head h (k + 1)) (k + 1) f)
      ];
    }

pub is_max-from : (m : ℕ) (u : List Bool) (h k : ℕ) → IsMaximal m (In u) h k → is_max m u h k ≡ true
unfolding is_max
is_max-from m u h k x =
    let last : ((k == m) || not (has_run u (head h (k + 1)) (k + 1))) ≡ true = elim (cases_lt k m) [
      | inl lt ↦ rw (false_from_ne_true _ (λ e. x.alone lt (has_run-to u (head h (k + 1)) (k + 1) e))) (or-true (k == m))
      | inr ge ↦ rw (eq-eqb k m (omega (arith, x.order)))
    ] in
    and_from _ _ (and_from _ _ (and_from _ _ (le-leb k m x.order) (eq-eqb (h % 2 ^ k) 0 x.aligned)) (has_run-from u h k x.inside)) last
