-- The last block of a run comes back, or a free buddy behind it leaves: what is left of the run leaves the same.
use Rattle.std.proofs.Common.{ℕ, ◌+◌, ◌-◌, ◌%◌, ◌^◌, ◌≡◌, ◌≤◌, ◌<◌, ◌⊎◌, ◌↔◌, inl, inr, refl, sym, ◌∙◌, ap, arith, Bool, false, set, List, [], length, get_or, Option, None, Some}
use Rattle.std.proofs.Math.Bool.{and-false}
use Rattle.std.proofs.Math.Nat.{add-mod_right, pow-le-pow_right}
use Rattle.std.proofs.lemmas.Bool.{both_ways, cases_lt, false_from_ne_true}
use Rattle.std.proofs.lemmas.List.{get_or-drop, set-get_or}
use Rattle.std.proofs.lemmas.Nat.{pow_pos}
use Rattle.zp_model.specs.declared.state.State.{State}
use Rattle.zp_model.specs.declared.state.State.TheVariants.{Tail, Free}
use Rattle.zp_model.specs.Area.{Area, lists_count}
use Rattle.zp_model.specs.Block.{has, head, in_run, size, with_run, without}
use Rattle.zp_model.specs.BlockSet.{Starts, cover, max_blocks}
use Rattle.zp_model.specs.Frames.{Frames, IsClear, given, restate, restated, with_area}
use Rattle.zp_model.specs.RunLaws.{IsFitting}
use Rattle.zp_model.specs.Rows.{state_at}
use Rattle.zp_model.specs.Take.{give, leave}
use Rattle.zp_model.proofs.Covers.{has_below, length-with, length-without, with-decides}
use Rattle.zp_model.proofs.Heads.{two, head_le, lt_head}
use Rattle.zp_model.proofs.Maximal.{Max, max-normal}
use Rattle.zp_model.proofs.MaximalBlocks.{max-unique, max_blocks-to, max_has, state-restated}
use Rattle.zp_model.proofs.Normal.{Filled}
use Rattle.zp_model.proofs.Pages.{In, in_run-from, in_run-to, is_max-to}
use Rattle.zp_model.proofs.Restating.{with_area-through}
use Rattle.zp_laws.proofs.Areas.{free-give, free-leave, largest-give, largest-leave}
use Rattle.zp_laws.proofs.Counting.{has-with_any, has-without_any, size-without}
use Rattle.zp_area.specs.Blocks.{Blocks, block_set}
use Rattle.zp_area.proofs.NotedBlocks.{starts-from, starts-to}
use Rattle.zp_buddy.specs.Choices.{area_in, frames_in}
use Rattle.zp_buddy.specs.FallingRuns.{AreTails, IsGivingAs, falling_run}
use Rattle.zp_buddy.specs.Runs.{AreClear, gives}
use Rattle.zp_buddy.specs.Sound.{IsSound}
use Rattle.zp_buddy.proofs.FallingRuns.{gives_behind, gives_last}
use Rattle.zp_buddy.proofs.GiveRuns.{round}
use Rattle.zp_buddy.proofs.Runs.{sound_listed}
use Rattle.zp_buddy.proofs.Settled.{length-pages}
use Rattle.zp_buddy.proofs.TakenBehind.{left_heads}
use Rattle.zp_buddy.proofs.Taking.{frames_stay}

-- a run leaves what it leaves
pub giving_begins : (m : ℕ) (a : Blocks) (h e : ℕ) → a.largest ≡ m → IsSound m a.rows.states a.kinds a.rows.lists → h ≤ e → AreClear (frames_in m a) h (e - h) → IsGivingAs m a a h e e
giving_begins m a h e same x le clear =
    record { largest = same; sound = x; pages = refl; kinds = refl; ahead = le; clear = clear; size = refl; leaves = refl; notes = λ y s. refl }

-- one change after the other
pub giving_then : (m : ℕ) (a b c : Blocks) (h e d f : ℕ) → IsGivingAs m a b h e d → IsGivingAs m b c h d f → IsGivingAs m a c h e f
giving_then m a b c h e d f x y = record {
  largest = y.largest;
  sound = y.sound;
  pages = y.pages ∙ x.pages;
  kinds = y.kinds ∙ x.kinds;
  ahead = y.ahead;
  clear = y.clear;
  size = omega (arith, x.size, y.size);
  leaves = y.leaves ∙ x.leaves;
  notes = λ z s. y.notes z s ∙ x.notes z s;
}

-- a page of which nothing is noted, and that is not free, stays so
pub tail_stays : (m : ℕ) (u : List Bool) (s : List State) (i : ℕ) → i < length s → has u i ≡ false → state_at s i ≡ Tail → state_at (restated m u s) i ≡ Tail
tail_stays m u s i lt off tail =
    state-restated m u s i lt ∙ ap (restate (get_or (max_blocks m u) i None)) tail ∙ none (get_or (max_blocks m u) i None) (λ k e. both_ways _ off (max_has m u i k (max_blocks-to m u i k e)))
  where
    none : (o : Option ℕ) → ((k : ℕ) → o ≡ Some k → ⊥) → restate o Tail ≡ Tail
    none None f = refl
    none (Some k) f = absurd (f k refl)

-- what is noted of the head of a free block
head_note : (m : ℕ) (b : Blocks) (g j : ℕ) → IsSound m b.rows.states b.kinds b.rows.lists → Max m (cover (block_set b)) g j → restate None (state_at b.rows.states g) ≡ Tail
head_note m b g j x e = ap (restate None) (starts-to b.rows.states g j ((max-unique m (Starts (block_set b)) (cover (block_set b)) x.normal g j).1 e))

-- the last block of a clear run is clear
pub last_clear : (m : ℕ) (b : Blocks) (h d k : ℕ) → AreClear (frames_in m b) h (d - h) → IsFitting m d (d - h) k → h < d → IsClear (frames_in m b) (d - 2 ^ k) k
last_clear m b h d k clear fit ahead =
    let at : ℕ = d - 2 ^ k in
    let place : at + 2 ^ k ≡ d = omega (arith, fit.inside) in
    record {
      block = record { order = fit.order; aligned = sym (add-mod_right at (2 ^ k)) ∙ rw place fit.aligned; inside = omega (arith, place, clear.inside) };
      free = λ i lo hi. clear.free i (omega (arith, fit.inside)) (omega (arith, place));
      aside = λ q i lo hi. clear.aside q i (omega (arith, fit.inside)) (omega (arith, place));
    }

-- once the end has moved behind a free buddy, the last block begins no later
pub last_before : (m h d k j : ℕ) → IsFitting m d (d - h) k → k < m → (d - 2 ^ k) % 2 ^ (k + 1) ≡ 0 → IsFitting m (d + 2 ^ k) (d + 2 ^ k - h) j → d + 2 ^ k - 2 ^ j ≤ d - 2 ^ k
last_before m h d k j fit lt double next =
    let up : d - 2 ^ k + 2 ^ (k + 1) ≡ d + 2 ^ k = omega (arith, fit.inside, two k) in
    let aligned : (d + 2 ^ k) % 2 ^ (k + 1) ≡ 0 = rw up at (add-mod_right (d - 2 ^ k) (2 ^ (k + 1)) ∙ double) in
    let more : k + 1 ≤ j = next.greatest (k + 1) (omega arith) aligned (omega (arith, fit.inside, two k)) in
    let larger : 2 ^ (k + 1) ≤ 2 ^ j = pow-le-pow_right (omega arith) more in
    omega (arith, larger, two k)

-- where no page is left, the run has come back
pub giving_ends : (m : ℕ) (a b : Blocks) (h n d : ℕ) → IsGivingAs m a b h (h + n) d → d ≤ h → frames_in m b ≡ with_area (frames_in m a) (gives (area_in m a) (falling_run h n))
giving_ends m a b h n d x le =
    let none : d - h ≡ 0 = omega arith in
    let all : h + n - h ≡ n = omega arith in
    let left : area_in m b ≡ gives (area_in m a) (falling_run h n) = ap (λ q. gives (area_in m b) (falling_run h q)) (sym none) ∙ x.leaves ∙ ap (λ q. gives (area_in m a) (falling_run h q)) all in
    frames_stay m b x.sound ∙ x.notes (area_in m b) refl ∙ ap (with_area (frames_in m a)) left

module _ (m : ℕ) (b c : Blocks) (h d k : ℕ) (x : IsSound m b.rows.states b.kinds b.rows.lists) (ahead : h < d) (clear : AreClear (frames_in m b) h (d - h)) (fit : IsFitting m d (d - h) k)
    (same : c.largest ≡ m) (sound : IsSound m c.rows.states c.kinds c.rows.lists) (pages : length c.rows.states ≡ length b.rows.states) (kinds : c.kinds ≡ b.kinds) where
  abbrev u : List Bool
  u = cover (block_set b)

  abbrev r : ℕ
  r = d - h - 2 ^ k

  -- the free block behind the last block leaves
  module _ (lt : k < m) (double : (d - 2 ^ k) % 2 ^ (k + 1) ≡ 0) (free : state_at b.rows.states d ≡ Free k) (after : frames_in m c ≡ with_area (frames_in m b) (leave (frames_in m b).area d k)) where
    starts : Starts (block_set b) d k
    starts = starts-from b.rows.states d k free

    top : Max m u d k
    top = (max-unique m (Starts (block_set b)) u x.normal d k).0 starts

    full : Filled (In u) d k
    full = x.normal.inside d k starts

    inside : d + 2 ^ k ≤ length u
    inside = omega (arith, has_below u (d + 2 ^ k - 1) (full (d + 2 ^ k - 1) (omega (arith, pow_pos k)) (omega (arith, pow_pos k))), pow_pos k)

    behind_at : h + r + 2 ^ k ≡ d
    behind_at = omega (arith, fit.inside)

    area_left : area_in m c ≡ leave (area_in m b) d k
    area_left = ap (λ (f : Frames). f.area) after

    left : cover (block_set c) ≡ without u d k
    left = ap (λ (a : Area). a.free) area_left ∙ free-leave (area_in m b) d k

    behind_leaves : gives (area_in m c) (falling_run h (d + 2 ^ k - h)) ≡ gives (area_in m b) (falling_run h (d - h))
    behind_leaves =
        let at : h + r ≡ d - 2 ^ k = omega (arith, fit.inside) in
        let more : r + 2 ^ (k + 1) ≡ d + 2 ^ k - h = omega (arith, fit.inside, two k) in
        let some : r + 2 ^ k ≡ d - h = omega (arith, fit.inside) in
        let out : (i : ℕ) → h ≤ i → i < h + (r + 2 ^ k) → has u i ≡ false = λ i lo hi. clear.free i lo (omega (arith, some)) in
        let law = gives_behind (area_in m b) h r k (sound_listed m b x) lt (rw at double) (rw behind_at top) out in
        ap (λ a. gives a (falling_run h (d + 2 ^ k - h))) area_left ∙ (rw (behind_at, more, some) at law)

    pub behind_goes : IsGivingAs m b c h d (d + 2 ^ k)
    behind_goes = record {
      largest = same;
      sound = sound;
      pages = pages;
      kinds = kinds;
      ahead = omega arith;
      clear = record {
        inside = omega (arith, ap length left, length-without u d k, inside);
        free = λ i lo hi. rw left (has-without_any u d k i ∙ elim (cases_lt i d) [
          | inl low ↦ rw (clear.free i lo (omega arith)) refl
          | inr high ↦ rw (in_run-from d k i high (omega arith)) (and-false (has u i))
        ]);
        aside = λ q i lo hi. rw (ap (λ (f : Frames). f.sides) after) (elim (cases_lt i d) [
          | inl low ↦ clear.aside q i lo (omega arith)
          | inr high ↦ false_from_ne_true _ (λ on. x.aside (lists_count m + q) i (omega arith) (rw (get_or-drop (lists_count m) b.rows.lists q []) at on) (full i high (omega arith)))
        ]);
      };
      size = let s = size-without u d k inside full in omega (arith, s, ap size left);
      leaves = behind_leaves;
      notes = λ y s.
          ap (λ f. with_area f y) after
          ∙ with_area-through (frames_in m b) (leave (area_in m b) d k) y (largest-leave (area_in m b) d k ∙ sym s) (λ g j e.
          let at : d - 2 ^ k + 2 ^ k ≡ d = omega (arith, fit.inside) in
          let now : Max m (leave (area_in m b) d k).free g j = rw (largest-leave (area_in m b) d k) at e in
          let was : Max m u g j = left_heads (area_in m b) (d - 2 ^ k) k lt double (rw at top) g j (rw at now) in
          head_note m b g j x was);
    }

    -- nothing is noted of the run still
    pub behind_tails : (e : ℕ) → e ≤ d → AreTails (frames_in m b) h e → AreTails (frames_in m c) h e
    behind_tails e le tails i lo hi =
        ap (λ (f : Frames). state_at f.states i) after
        ∙ ap (λ n. state_at (restated n (leave (area_in m b) d k).free b.rows.states) i) (largest-leave (area_in m b) d k)
        ∙ tail_stays m (leave (area_in m b) d k).free b.rows.states i (omega (arith, clear.inside, length-pages b.rows.states))
        (ap (λ v. has v i) (free-leave (area_in m b) d k) ∙ has-without_any u d k i ∙ rw (clear.free i lo (omega arith)) refl) (tails i lo hi)

  -- the last block comes back
  module _ (tail : state_at b.rows.states (d - 2 ^ k) ≡ Tail) (more : size (cover (block_set c)) ≡ size u + 2 ^ k) (after : frames_in m c ≡ given (frames_in m b) (d - 2 ^ k) k) where
    abbrev at : ℕ
    at = d - 2 ^ k

    place : at + 2 ^ k ≡ d
    place = omega (arith, fit.inside)

    room : at + 2 ^ k ≤ length u
    room = omega (arith, place, clear.inside)

    block : IsClear (frames_in m b) at k
    block = last_clear m b h d k clear fit ahead

    back : frames_in m c ≡ with_area (frames_in m b) (give (area_in m b) at k)
    back =
        let same_notes : set b.rows.states at Tail ≡ b.rows.states = ap (set b.rows.states at) (sym tail) ∙ set-get_or b.rows.states at Tail in
        after ∙ ap (λ s. with_area (record (frames_in m b) { states = s }) (give (area_in m b) at k)) same_notes

    area_back : area_in m c ≡ give (area_in m b) at k
    area_back = ap (λ (f : Frames). f.area) after

    came : cover (block_set c) ≡ with_run u at k
    came = ap (λ (a : Area). a.free) area_back ∙ free-give (area_in m b) at k

    last_leaves : gives (area_in m c) (falling_run h (at - h)) ≡ gives (area_in m b) (falling_run h (d - h))
    last_leaves =
        let start : h + r ≡ at = omega (arith, fit.inside) in
        let less : r ≡ at - h = omega (arith, fit.inside) in
        let some : r + 2 ^ k ≡ d - h = omega (arith, fit.inside) in
        let out : (i : ℕ) → h ≤ i → i < h + (r + 2 ^ k) → has u i ≡ false = λ i lo hi. clear.free i lo (omega (arith, some)) in
        let law = gives_last (area_in m b) h r k (sound_listed m b x) fit.order (rw start block.block.aligned) (rw start room) out in
        ap (λ a. gives a (falling_run h (at - h))) area_back ∙ sym (rw (start, some, less) at law)

    -- the heads of the free blocks at last: the last block's, or such as were heads
    head_blank : (g j : ℕ) → Max m (with_run u at k) g j → restate None (state_at b.rows.states g) ≡ Tail
    head_blank g j e =
        let v : List Bool = with_run u at k in
        let z = is_max-to m v g j e in
        let old : (i : ℕ) → In u i → In v i = λ i q. (with_decides i).1 (inl q) in
        elim ((with_decides g).0 (z.inside g (omega arith) (omega (arith, pow_pos j)))) [
          | inr new ↦
              let w = round m v at k block.block.aligned fit.order (λ i lo hi. (with_decides i).1 (inr (lo, hi))) g j g e (omega arith) (omega (arith, pow_pos j)) new.0 new.1 in
              let same_head : g ≡ at = omega (arith, w.0, new.0) in
              ap (λ i. restate None (state_at b.rows.states i)) same_head ∙ ap (restate None) tail
          | inl was ↦
              let p = (max-normal m u).covers g was in
              let o : ℕ = head g p.0 in
              let y = is_max-to m u o p.0 p.1 in
              let w = round m v o p.0 y.aligned y.order (λ i lo hi. old i (y.inside i lo hi)) g j g e (omega arith) (omega (arith, pow_pos j)) (head_le g p.0) (lt_head g p.0) in
              let same_head : o ≡ g = omega (arith, w.0, head_le g p.0) in
              head_note m b g p.0 x (rw same_head at p.1)
        ]
      where
        with_decides : (i : ℕ) → In (with_run u at k) i ↔ (In u i ⊎ ((at ≤ i) × (i < at + 2 ^ k)))
        with_decides i = (
          λ e. (with-decides u at k i (omega (arith, has_below (with_run u at k) i e, length-with u at k))).0 e,
          λ w. elim w [
            | inl old ↦ (with-decides u at k i (has_below u i old)).1 (inl old)
            | inr new ↦ (with-decides u at k i (omega (arith, new.1, room))).1 (inr new)
          ],
        )

    pub last_comes : IsGivingAs m b c h d at
    last_comes = record {
      largest = same;
      sound = sound;
      pages = pages;
      kinds = kinds;
      ahead = omega (arith, fit.inside);
      clear = record {
        inside = omega (arith, ap length came, length-with u at k, room, fit.inside);
        free = λ i lo hi.
            let off : in_run at k i ≡ false = false_from_ne_true _ (λ on. let q = in_run-to at k i on in omega (arith, q.0)) in
            rw came (has-with_any u at k i room ∙ rw (off, clear.free i lo (omega arith)) refl);
        aside = λ q i lo hi. rw (ap (λ (f : Frames). f.sides) after) (clear.aside q i lo (omega arith));
      };
      size = omega (arith, more, place);
      leaves = last_leaves;
      notes = λ y s.
          ap (λ f. with_area f y) back
          ∙ with_area-through (frames_in m b) (give (area_in m b) at k) y (largest-give (area_in m b) at k ∙ sym s) (λ g j e.
          let now : Max m (give (area_in m b) at k).free g j = rw (largest-give (area_in m b) at k) at e in
          head_blank g j (rw (free-give (area_in m b) at k) at now));
    }

    -- nothing is noted of what is left of the run still
    pub last_tails : AreTails (frames_in m b) h at → AreTails (frames_in m c) h at
    last_tails tails i lo hi =
        let off : in_run at k i ≡ false = false_from_ne_true _ (λ on. let q = in_run-to at k i on in omega (arith, q.0)) in
        ap (λ (f : Frames). state_at f.states i) back
        ∙ ap (λ n. state_at (restated n (give (area_in m b) at k).free b.rows.states) i) (largest-give (area_in m b) at k)
        ∙ tail_stays m (give (area_in m b) at k).free b.rows.states i (omega (arith, clear.inside, length-pages b.rows.states))
        (ap (λ v. has v i) (free-give (area_in m b) at k) ∙ has-with_any u at k i room ∙ rw (off, clear.free i lo (omega arith)) refl) (tails i lo hi)
