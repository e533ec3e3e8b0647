-- A lawful zone stays lawful when a free block goes out, when one comes back, and when one is posted or collected.
use Rattle.std.proofs.Common.{ℕ, ◌+◌, ◌^◌, ◌≡◌, ◌≤◌, ◌<◌, inl, inr, refl, sym, ◌∙◌, ap, arith, Bool, true, List, [], ◌∷◌, ◌++◌, length, not, ◌&&◌, ◌||◌, get_or, Option, Some, None, All}
use Rattle.std.specs.Prelude.{slice_set}
use Rattle.std.proofs.lemmas.Nat.{pow_pos}
use Rattle.std.proofs.lemmas.Bool.{cases_eq}
use Rattle.std.proofs.lemmas.Option.{none-some, same_Some}
use Rattle.std.proofs.lemmas.List.{length-set, get_or-set_same, get_or-set_other}
use Rattle.std.proofs.lemmas.List.Elements.{All-head, All-tail, All-push}
use Rattle.std.proofs.lemmas.List.Sums.{sum_by-cons, sum_by_push, get_or-le-sum_by}
use Rattle.zp_model.specs.declared.migrate_type.MigrateType.{MigrateType}
use Rattle.zp_model.specs.Block.{has, in_run, IsBlock, without, with_run}
use Rattle.zp_model.specs.Area.{Area}
use Rattle.zp_model.specs.Zone.{PlainZone, Holding, PostedBlock, holding_at, posted_to, pages_of, workers_of, hand_out, take_back}
use Rattle.zp_model.specs.Step.{collected, handed_on}
use Rattle.zp_model.specs.Lawful.{times_out, times_posted, IsListedArea, IsLawful}
use Rattle.zp_model.proofs.Covers.{length-without, length-with, has-with, has-without}
use Rattle.zp_model.proofs.Pages.{in_run-to}
use Rattle.zp_laws.specs.Found.{IsFound}
use Rattle.zp_laws.proofs.Choosing.{found_block, found_free}
use Rattle.zp_laws.proofs.Counting.{one_if}
use Rattle.zp_laws.proofs.HandedOut.{count_posted, times_out-more, times_out-less, times_posted-set, times-parts, held_below, out-has, in_run-head}

-- some posted blocks are blocks of a zone of so many pages
abbrev pub AllPosted : ℕ → ℕ → List PostedBlock → Type 0
AllPosted m pages ps = All (λ (p : PostedBlock). IsBlock m pages p.head p.order) ps

pub block-inside : (m pages h k i : ℕ) → IsBlock m pages h k → in_run h k i ≡ true → (h ≤ i) × (i < h + 2 ^ k) × (i < pages)
block-inside m pages h k i b e = let r = in_run-to h k i e in (r.0, r.1, omega (arith, b.inside, r.1))

-- a page's places, where the pages of a run leave the free ones and go out
once_out : (f f' r : Bool) (o o' p : ℕ) → f' ≡ (f && not r) → (r ≡ true → f ≡ true) → o' ≡ o + one_if r → one_if f + o + p ≡ 1 → one_if f' + o' + p ≡ 1
once_out f f' r o o' p e sub q s = grind arith

-- and where a run that was out becomes free
once_back : (f f' r : Bool) (o o' p : ℕ) → f' ≡ (f || r) → o' + one_if r ≡ o → one_if f + o + p ≡ 1 → one_if f' + o' + p ≡ 1
once_back f f' r o o' p e q s = grind arith

pub count-front : (p : PostedBlock) (ps : List PostedBlock) (i : ℕ) → count_posted (p ∷ ps) i ≡ one_if (in_run p.head p.order i) + count_posted ps i
count-front p ps i = sum_by-cons (λ (q : PostedBlock). one_if (in_run q.head q.order i)) p ps

pub posted-has : (posted : List (List PostedBlock)) (w i : ℕ) → w < length posted → count_posted (get_or posted w []) i ≤ times_posted posted i
unfolding times_posted
posted-has posted w i lt = get_or-le-sum_by (λ ps. count_posted ps i) posted w [] lt

module _ (z : PlainZone) (l : IsLawful z) where
  -- a page of a lawful zone is free, out or posted
  pub one_place : (i : ℕ) → i < pages_of z → one_if (has z.area.free i) + times_out z.out i + times_posted z.posted i ≡ 1
  one_place i lt = sym (times-parts z i) ∙ l.once i lt

  -- the zone with another area of as many pages and pageblocks, another holding at h and others posted
  changed : (a : Area) (h : ℕ) (v : Option Holding) (q : List (List PostedBlock)) → IsListedArea a → a.largest ≡ z.area.largest → length a.free ≡ pages_of z →
      length a.kinds ≡ length z.area.kinds → h < length z.out → ((y : Holding) → v ≡ Some y → IsBlock z.area.largest (pages_of z) h y.order × (y.worker < workers_of z)) →
      length q ≡ length z.posted → ((w : ℕ) → AllPosted z.area.largest (pages_of z) (get_or q w [])) →
      ((i : ℕ) → i < pages_of z → one_if (has a.free i) + times_out (slice_set z.out h v) i + times_posted q i ≡ 1) →
      IsLawful (record z { area = a; out = slice_set z.out h v; posted = q })
  changed a h v q lists largest pages kinds below new workers posted once = record {
    places = length-set z.out h v ∙ l.places ∙ sym pages;
    kinds = rw (largest, pages) (kinds ∙ l.kinds);
    out = λ g y e. rw (largest, pages, workers) (elim (cases_eq g h) [
      | inl same ↦ rw same (new y (sym (get_or-set_same z.out h v None below) ∙ rw same at e))
      | inr other ↦ l.out g y (sym (get_or-set_other z.out h g v None other) ∙ e)
    ]);
    posted = rw (largest, pages) posted;
    once = λ i under. times-parts (record z { area = a; out = slice_set z.out h v; posted = q }) i ∙ once i (rw pages at under);
    lists = lists;
  }

  posted_set : (w : ℕ) (ps : List PostedBlock) → w < workers_of z → AllPosted z.area.largest (pages_of z) ps → (v : ℕ) → AllPosted z.area.largest (pages_of z) (get_or (slice_set z.posted w ps) v [])
  posted_set w ps lt a v = elim (cases_eq v w) [
    | inl same ↦ rw (same, get_or-set_same z.posted w ps [] lt) a
    | inr other ↦ rw (get_or-set_other z.posted w v ps [] other) (l.posted v)
  ]

  -- no block is out at a page that lies elsewhere
  elsewhere-not_out : (h : ℕ) → h < pages_of z → 1 ≤ one_if (has z.area.free h) + times_posted z.posted h → holding_at z.out h ≡ None
  elsewhere-not_out h lt some = go (holding_at z.out h) refl
    where
      go : (o : Option Holding) → holding_at z.out h ≡ o → holding_at z.out h ≡ None
      go None e = e
      go (Some x) e = absurd (omega (arith, some, out-has z.out h h x e (in_run-head h x.order), one_place h lt))

  pub free-not_out : (h : ℕ) → h < pages_of z → has z.area.free h ≡ true → holding_at z.out h ≡ None
  free-not_out h lt free = elsewhere-not_out h lt (rw free (omega arith))

  -- a free block starts at a page of the zone where none is out
  pub found_place : (k h : ℕ) → IsFound z.area.largest z.area.free k h → (h < length z.out) × (holding_at z.out h ≡ None)
  found_place k h f =
      let b : IsBlock z.area.largest (pages_of z) h k = found_block z.area.largest z.area.free k h f in
      let free : has z.area.free h ≡ true = found_free z.area.largest z.area.free k h f h (omega arith) (omega (arith, pow_pos k)) in
      (omega (arith, b.inside, pow_pos k, l.places), free-not_out h (omega (arith, b.inside, pow_pos k)) free)

  -- the pages of a run of free ones go out to a worker as a block
  pub goes_out : (a : Area) (w h k : ℕ) (t : MigrateType) → w < workers_of z → IsFound z.area.largest z.area.free k h → IsListedArea a → a.largest ≡ z.area.largest →
      a.free ≡ without z.area.free h k → length a.kinds ≡ length z.area.kinds → IsLawful (hand_out (record z { area = a }) w h k t)
  goes_out a w h k t lt f lists largest free kinds =
      let x : Holding = record { order = k; kind = t; worker = w } in
      let b : IsBlock z.area.largest (pages_of z) h k = found_block z.area.largest z.area.free k h f in
      let p = found_place k h f in
      changed a h (Some x) z.posted lists largest (ap length free ∙ length-without z.area.free h k) kinds p.0 (λ y e. rw (← same_Some x y e) (b, lt)) refl l.posted
      (λ i inside.
      once_out (has z.area.free i) (has a.free i) (in_run h k i) (times_out z.out i) (times_out (slice_set z.out h (Some x)) i) (times_posted z.posted i)
      (rw free (has-without z.area.free h k i inside))
      (λ e. let r = block-inside z.area.largest (pages_of z) h k i b e in found_free z.area.largest z.area.free k h f i r.0 r.1) (times_out-more z.out h i x p.0 p.1) (one_place i inside))

  -- the pages of a block out become free
  pub comes_back : (a : Area) (h : ℕ) (x : Holding) → holding_at z.out h ≡ Some x → IsListedArea a → a.largest ≡ z.area.largest → a.free ≡ with_run z.area.free h x.order →
      length a.kinds ≡ length z.area.kinds → IsLawful (take_back (record z { area = a }) h)
  comes_back a h x held lists largest free kinds =
      let below : h < length z.out = held_below z.out h x held in
      changed a h None z.posted lists largest (ap length free ∙ length-with z.area.free h x.order) kinds below (λ y e. absurd (none-some y e)) refl l.posted
      (λ i inside.
      once_back (has z.area.free i) (has a.free i) (in_run h x.order i) (times_out z.out i) (times_out (slice_set z.out h None) i) (times_posted z.posted i)
      (rw free (has-with z.area.free h x.order i inside)) (times_out-less z.out h i x below held) (one_place i inside))

  -- a block out is posted
  pub posted_lawful : (to h : ℕ) (x : Holding) → holding_at z.out h ≡ Some x → to < workers_of z → IsLawful (handed_on z to h (Some x))
  posted_lawful to h x held lt =
      let p : PostedBlock = record { head = h; order = x.order; kind = x.kind } in
      let ps : List PostedBlock = posted_to z to ++ p ∷ [] in
      let below : h < length z.out = held_below z.out h x held in
      changed z.area h None (slice_set z.posted to ps) l.lists refl refl refl below (λ y e. absurd (none-some y e)) (length-set z.posted to ps)
      (posted_set to ps lt (All-push (λ (q : PostedBlock). IsBlock z.area.largest (pages_of z) q.head q.order) (posted_to z to) p (l.posted to) (l.out h x held).0))
      (λ i inside.
      omega (
        arith,
        one_place i inside,
        times_out-less z.out h i x below held,
        times_posted-set z.posted to i ps lt,
        sum_by_push (λ (q : PostedBlock). one_if (in_run q.head q.order i)) (posted_to z to) p,
      ))

  -- the block in front of a worker's list
  module _ (w : ℕ) (p : PostedBlock) (ps : List PostedBlock) (e : posted_to z w ≡ p ∷ ps) (lt : w < workers_of z) where
    front_block : IsBlock z.area.largest (pages_of z) p.head p.order
    front_block = All-head (λ (q : PostedBlock). IsBlock z.area.largest (pages_of z) q.head q.order) p ps (rw e at (l.posted w))

    front_count : (i : ℕ) → count_posted (posted_to z w) i ≡ one_if (in_run p.head p.order i) + count_posted ps i
    front_count i = rw e (count-front p ps i)

    -- it starts at a page of the zone where none is out
    pub posted_place : (p.head < length z.out) × (holding_at z.out p.head ≡ None)
    posted_place =
        let head : one_if (in_run p.head p.order p.head) ≡ 1 = ap one_if (in_run-head p.head p.order) in
        let room : p.head < pages_of z = omega (arith, front_block.inside, pow_pos p.order) in
        (omega (arith, l.places), elsewhere-not_out p.head room (omega (arith, posted-has z.posted w p.head lt, front_count p.head)))

    pub front_lawful : IsLawful (collected z w (p ∷ ps)).zone
    front_lawful =
        let x : Holding = record { order = p.order; kind = p.kind; worker = w } in
        changed z.area p.head (Some x) (slice_set z.posted w ps) l.lists refl refl refl posted_place.0 (λ y e. rw (← same_Some x y e) (front_block, lt)) (length-set z.posted w ps)
        (posted_set w ps lt (All-tail (λ (q : PostedBlock). IsBlock z.area.largest (pages_of z) q.head q.order) p ps (rw e at (l.posted w))))
        (λ i inside. omega (arith, one_place i inside, times_out-more z.out p.head i x posted_place.0 posted_place.1, times_posted-set z.posted w i ps lt, front_count i))
