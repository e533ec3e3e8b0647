-- A block set after a block was split towards a page.
use Rattle.std.proofs.Common.{ℕ, suc, zero, ◌+◌, ◌-◌, ◌^◌, ◌≡◌, ◌≢◌, ◌≤◌, ◌<◌, inl, inr, refl, sym, ◌∙◌, ap, arith, List, length, get_or, Option, Some, None}
use Rattle.std.proofs.lemmas.Bool.{cases_eq, cases_lt, eq-eqb, ne_eqb}
use Rattle.std.proofs.lemmas.List.{length-set, get_or-set_same, get_or-set_other}
use Rattle.std.proofs.lemmas.Nat.{pow_pos}
use Rattle.zp_model.specs.Block.{IsBlock, head}
use Rattle.zp_model.specs.BlockSet.{Starts}
use Rattle.zp_model.specs.RunLaws.{half_beside}
use Rattle.zp_model.proofs.Heads.{head_aligned, head_head, head_le, head_room}
use Rattle.zp_tree.specs.Blocks.{IsBlockSet, IsApart, IsBeside, buddy, with_block, without_block, with_halves_beside, split_towards_set}
use Rattle.zp_tree.proofs.Apart.{clear_apart, set_still_apart}
use Rattle.zp_tree.proofs.ChangedSets.{set_block_set, clear_block_set}
use Rattle.zp_tree.proofs.BuddyPlaces.{sides, buddy_aligned, buddy_within}

-- the half beside a run is its buddy
pub beside_is : (h j : ℕ) → half_beside h j ≡ buddy h j
beside_is h j = elim (sides h j) [
  | inl low ↦ rw (eq-eqb (head h j) (head h (j + 1)) low.0) (omega (arith, low))
  | inr high ↦
      let ne : head h j ≡ head h (j + 1) → ⊥ = λ s. omega (arith, high, s, pow_pos j) in
      rw (ne_eqb (head h j) (head h (j + 1)) ne) (sym high.1)
]

-- the run around the page and its buddy have no page in common
own_beside : (h k : ℕ) → IsBeside (head h k) k (buddy h k) k
own_beside h k = elim (sides h k) [ inl low ↦ inl (omega (arith, low)) | inr high ↦ inr (omega (arith, high)) ]

-- so no two buddies start at one page: the smaller lies in the run that has the larger beside it
lower_differs : (h j l : ℕ) → j < l → buddy h j ≢ buddy h l
lower_differs h j l lt e =
    let w = buddy_within h j l lt in
    elim (own_beside h l) [ inl low ↦ omega (arith, w, low, e, pow_pos j) | inr high ↦ omega (arith, w, high, e, pow_pos l) ]

pub buddies_differ : (h j l : ℕ) → j ≢ l → buddy h j ≢ buddy h l
buddies_differ h j l ne e = elim (cases_lt j l) [ inl lt ↦ lower_differs h j l lt e | inr ge ↦ lower_differs h l j (omega arith) (sym e) ]

-- a page that begins a run and is a buddy's is one of the larger run's pages
pub buddy_inside : (h f j : ℕ) → j < f → (head h f ≤ buddy h j) × (buddy h j < head h f + 2 ^ f)
buddy_inside h f j lt = let w = buddy_within h j f lt in (w.0, omega (arith, w.1, pow_pos j))

-- what stands at a page after the halves came
pub beside_length : (s : List (Option ℕ)) (h k d : ℕ) → length (with_halves_beside s h k d) ≡ length s
beside_length s h k zero = refl
beside_length s h k (suc d) = beside_length (with_block s (half_beside h (k + d)) (k + d)) h k d ∙ length-set s (half_beside h (k + d)) (Some (k + d))

pub beside_other : (s : List (Option ℕ)) (h k d i : ℕ) → ((j : ℕ) → k ≤ j → j < k + d → i ≢ buddy h j) → get_or (with_halves_beside s h k d) i None ≡ get_or s i None
beside_other s h k zero i ne = refl
beside_other s h k (suc d) i ne =
    let n = k + d in
    let b = half_beside h n in
    beside_other (with_block s b n) h k d i (λ j lo hi. ne j lo (omega arith)) ∙ get_or-set_other s b i (Some n) None (λ e. ne n (omega arith) (omega arith) (e ∙ beside_is h n))

pub beside_at : (s : List (Option ℕ)) (h k d j : ℕ) → k ≤ j → j < k + d → buddy h j < length s → Starts (with_halves_beside s h k d) (buddy h j) j
beside_at s h k zero j lo hi room = absurd (omega arith)
beside_at s h k (suc d) j lo hi room =
    let n = k + d in
    let b = half_beside h n in
    let c = with_block s b n in
    let is = beside_is h n in
    elim (cases_eq j n) [
      | inl same ↦
          let e : buddy h j ≡ b = ap (λ l. buddy h l) same ∙ sym is in
          let kept : get_or (with_halves_beside c h k d) (buddy h j) None ≡ get_or c (buddy h j) None = beside_other c h k d (buddy h j) (λ l from to. buddies_differ h j l (omega (arith, same, to))) in
          let here : get_or c b None ≡ Some n = get_or-set_same s b (Some n) None (omega (arith, e, room)) in
          kept ∙ ap (λ i. get_or c i None) e ∙ here ∙ ap (λ l. Some l) (sym same)
      | inr ne ↦ beside_at c h k d j lo (omega arith) (omega (arith, room, length-set s b (Some n)))
    ]

-- the halves of a run that is apart, one after the other
pub beside_block_set : (m : ℕ) (s : List (Option ℕ)) (h k d : ℕ) → IsBlockSet m s → IsBlock m (length s) (head h (k + d)) (k + d) → IsApart s (head h (k + d)) (k + d) → IsBlockSet m (with_halves_beside s h k d)
beside_block_set m s h k zero x b a = x
beside_block_set m s h k (suc d) x b a =
    let n = k + d in
    let up : k + suc d ≡ n + 1 = omega arith in
    let whole : IsBlock m (length s) (head h (n + 1)) (n + 1) = rw up at b in
    let apart : IsApart s (head h (n + 1)) (n + 1) = rw up at a in
    let y = half_beside h n in
    let is = beside_is h n in
    let w = buddy_within h n (n + 1) (omega arith) in
    let c = with_block s y n in
    let size = length-set s y (Some n) in
    let same : head (head h n) (n + 1) ≡ head h (n + 1) = head_head h n (n + 1) (omega arith) in
    let first : head h (n + 1) ≤ head h n = omega (arith, head_le (head h n) (n + 1), same) in
    let last : head h n + 2 ^ n ≤ head h (n + 1) + 2 ^ (n + 1) = omega (arith, head_room (head h n) n (n + 1) (omega arith) (head_aligned h n), same) in
    let half : IsBlock m (length s) y n = rw is (record { order = omega (arith, whole.order); aligned = buddy_aligned h n; inside = omega (arith, whole.inside, w.1) }) in
    let half_apart : IsApart s y n = λ i from to. apart i (omega (arith, from, is, w.0)) (omega (arith, to, is, w.1)) in
    let own : IsBlock m (length c) (head h n) n = record { order = omega (arith, whole.order); aligned = head_aligned h n; inside = omega (arith, whole.inside, last, size) } in
    let own_apart : IsApart s (head h n) n = λ i from to. apart i (omega (arith, from, first)) (omega (arith, to, last)) in
    let beside : IsBeside (head h n) n y n = rw is (own_beside h n) in
    beside_block_set m c h k d (set_block_set m s y n x half half_apart) own (set_still_apart m s y n (head h n) n half own_apart beside)

pub towards_length : (s : List (Option ℕ)) (h f t : ℕ) → length (split_towards_set s h f t) ≡ length s
towards_length s h f t = beside_length (without_block s (head h f)) h t (f - t) ∙ length-set s (head h f) None

pub towards_block_set : (m : ℕ) (s : List (Option ℕ)) (h f t : ℕ) → IsBlockSet m s → Starts s (head h f) f → t ≤ f → IsBlockSet m (split_towards_set s h f t)
towards_block_set m s h f t x st le =
    let c = without_block s (head h f) in
    let e : t + (f - t) ≡ f = omega arith in
    let n = length-set s (head h f) None in
    let b : IsBlock m (length c) (head h (t + (f - t))) (t + (f - t)) = rw (n, e) (x.block (head h f) f st) in
    beside_block_set m c h t (f - t) (clear_block_set m s (head h f) f x st) b (rw e (clear_apart m s (head h f) f x st))
