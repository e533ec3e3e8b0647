-- In how many places a page lies, when a block goes out, comes back, is posted or is collected.
use Rattle.std.proofs.Common.{ℕ, suc, zero, ◌+◌, ◌^◌, ◌≡◌, ◌≤◌, ◌<◌, inl, inr, refl, sym, ◌∙◌, ap, arith, true, List, [], length, get_or, Option, Some, None}
use Rattle.std.specs.Prelude.{slice_set}
use Rattle.std.specs.List.{range_with_len, sum_by, count_by}
use Rattle.std.proofs.lemmas.Nat.{pow_pos}
use Rattle.std.proofs.lemmas.Bool.{cases_lt, cases_eq, and_from, le-leb, lt-ltb}
use Rattle.std.proofs.lemmas.Option.{none-some}
use Rattle.std.proofs.lemmas.List.{length-set, get_or-set_same, get_or-set_other, get_or_past}
use Rattle.std.proofs.lemmas.List.Sums.{sum_by-cons, sum_by-set}
use Rattle.zp_model.specs.Block.{has, in_run}
use Rattle.zp_model.specs.Zone.{PlainZone, Holding, PostedBlock, holding_at}
use Rattle.zp_model.specs.Lawful.{holding_has, times_out, times_posted, times}
use Rattle.zp_laws.proofs.Counting.{one_if, sums-same}

-- sums that differ at one place
sums_but : (f g : ℕ → ℕ) (h a n : ℕ) → a ≤ h → h < a + n → ((x : ℕ) → (x ≡ h → ⊥) → f x ≡ g x) → sum_by f (range_with_len a n) + g h ≡ sum_by g (range_with_len a n) + f h
sums_but f g h a zero lo hi e = absurd (omega arith)
sums_but f g h a (suc n) lo hi e =
    let p = sum_by-cons f a (range_with_len (a + 1) n) in
    let q = sum_by-cons g a (range_with_len (a + 1) n) in
    elim (cases_eq h a) [
      | inl same ↦ rw same (omega (arith, p, q, sums-same f g (a + 1) n (λ x lo hi. e x (λ s. absurd (omega arith)))))
      | inr other ↦ omega (arith, p, q, sums_but f g h (a + 1) n (omega arith) (omega arith) e, e a (λ t. other (sym t)))
    ]

-- the blocks out that have a page, when one of them is put in the place of another, or of none
pub times_out-set : (out : List (Option Holding)) (h i : ℕ) (v : Option Holding) → h < length out →
    times_out (slice_set out h v) i + one_if (holding_has h i (holding_at out h)) ≡ times_out out i + one_if (holding_has h i v)
unfolding times_out
times_out-set out h i v lt =
    let f : ℕ → ℕ = λ g. one_if (holding_has g i (holding_at (slice_set out h v) g)) in
    let g : ℕ → ℕ = λ g. one_if (holding_has g i (holding_at out g)) in
    let c : f h ≡ one_if (holding_has h i v) = ap (λ (o : Option Holding). one_if (holding_has h i o)) (get_or-set_same out h v None lt) in
    rw (length-set out h v, ← c)
    (sums_but f g h 0 (length out) (omega arith) (omega arith) (λ x ne. ap (λ (o : Option Holding). one_if (holding_has x i o)) (get_or-set_other out h x v None ne)))

-- a block goes out from a page where none was
pub times_out-more : (out : List (Option Holding)) (h i : ℕ) (x : Holding) → h < length out → holding_at out h ≡ None →
    times_out (slice_set out h (Some x)) i ≡ times_out out i + one_if (in_run h x.order i)
times_out-more out h i x lt e = omega (arith, (rw e at (times_out-set out h i (Some x) lt)))

-- the block out at a page comes back
pub times_out-less : (out : List (Option Holding)) (h i : ℕ) (x : Holding) → h < length out → holding_at out h ≡ Some x →
    times_out (slice_set out h None) i + one_if (in_run h x.order i) ≡ times_out out i
times_out-less out h i x lt e = omega (arith, (rw e at (times_out-set out h i None lt)))

pub held_below : (out : List (Option Holding)) (h : ℕ) (x : Holding) → holding_at out h ≡ Some x → h < length out
held_below out h x e =
    elim (cases_lt h (length out)) [ inl lt ↦ lt | inr ge ↦ absurd (none-some x (sym (get_or_past out h None ge) ∙ e)) ]

pub in_run-head : (h k : ℕ) → in_run h k h ≡ true
in_run-head h k = and_from _ _ (le-leb h h (omega arith)) (lt-ltb h (h + 2 ^ k) (omega (arith, pow_pos k)))

-- each page of a block out is in it
pub out-has : (out : List (Option Holding)) (h i : ℕ) (x : Holding) → holding_at out h ≡ Some x → in_run h x.order i ≡ true → 1 ≤ times_out out i
out-has out h i x e r =
    let one : one_if (in_run h x.order i) ≡ 1 = ap one_if r in
    omega (arith, times_out-less out h i x (held_below out h x e) e)

-- how many of some posted blocks have page i
abbrev pub count_posted : List PostedBlock → ℕ → ℕ
count_posted ps i = count_by (λ (p : PostedBlock). in_run p.head p.order i) ps

pub times_posted-set : (posted : List (List PostedBlock)) (w i : ℕ) (ps : List PostedBlock) → w < length posted →
    times_posted (slice_set posted w ps) i + count_posted (get_or posted w []) i ≡ times_posted posted i + count_posted ps i
unfolding times_posted
times_posted-set posted w i ps lt = sum_by-set (λ qs. count_posted qs i) posted w ps [] lt

pub times-parts : (z : PlainZone) (i : ℕ) → times z i ≡ one_if (has z.area.free i) + times_out z.out i + times_posted z.posted i
unfolding times
times-parts z i = refl
