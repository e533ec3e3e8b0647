-- Taking whole: what is left, and which blocks may come back then.
use Rattle.std.proofs.Common.{ℕ, ◌+◌, ◌/◌, ◌^◌, ◌≡◌, ◌≤◌, ◌<◌, ◌&&◌, inl, inr, refl, sym, ◌∙◌, ap, arith, Bool, true, false, not, List, [], drop, length, Some}
use Rattle.std.specs.List.{count_by, range_with_len}
use Rattle.std.proofs.lemmas.Bool.{false_from_ne_true}
use Rattle.std.proofs.lemmas.Nat.{pow_pos}
use Rattle.std.proofs.lemmas.List.{get_or-drop}
use Rattle.std.proofs.Math.Bool.{and-false}
use Rattle.std.proofs.Math.Nat.{pow-le-pow_right}
use Rattle.zp_model.specs.declared.migrate_type.MigrateType.{MigrateType}
use Rattle.zp_model.specs.declared.pageblock_type.PageblockType.{PageblockType}
use Rattle.zp_model.specs.declared.pageblock_type.PageblockType.TheVariants as of
use Rattle.zp_model.specs.PageblockType.{is_isolate, noted_type, pageblock_type}
use Rattle.zp_model.specs.declared.state.State.{State}
use Rattle.zp_model.specs.Block.{IsBlock, has, size}
use Rattle.zp_model.specs.BlockSet.{Starts, cover, lowest}
use Rattle.zp_model.specs.Area.{available_blocks, lists_count, pageblock_pages}
use Rattle.zp_model.specs.Frames.{Frames, IsClear, with_area}
use Rattle.zp_model.specs.Runs.{IsFreeRun, is_within, without_pages}
use Rattle.zp_model.specs.Take.{leave, retype, taken, blocks_at_hand}
use Rattle.zp_model.proofs.Heads.{aligned_down}
use Rattle.zp_model.proofs.LowestRun.{has_pages-from}
use Rattle.zp_model.proofs.Pages.{In}
use Rattle.zp_model.proofs.RunParts.{length-without_pages, within-from, within-to, without_block}
use Rattle.zp_laws.proofs.Areas.{free-taken, free-leave}
use Rattle.zp_laws.proofs.Counting.{count-run, counts-add, has-left_any, one_if, size-range}
use Rattle.zp_area.specs.Available.{choosable}
use Rattle.zp_area.specs.Blocks.{Blocks, block_set}
use Rattle.zp_buddy.specs.Choices.{area_in, frames_in, chosen_of, IsFreeBlock}
use Rattle.zp_buddy.specs.Held.{IsHeld}
use Rattle.zp_buddy.specs.Runs.{AreClear, IsRunTaking}
use Rattle.zp_buddy.specs.Sound.{IsSound}
use Rattle.zp_buddy.specs.declared.choice.Choice.{Choice}
use Rattle.zp_buddy.proofs.Settled.{length-pages, restated_all, restated_same, set_maximal, starts_block}

-- with a claim the pageblock gets its type first, and what is noted stays
pub taken_claimed : (f g n : Frames) (k h b : ℕ) (t : MigrateType) (claims : Bool) → n ≡ with_area g (leave g.area h k) → claims ≡ true → b ≡ h / pageblock_pages f.area.largest →
    g ≡ with_area f (retype f.area b (pageblock_type t)) → g.states ≡ f.states → n ≡ with_area f (taken f.area k t (Some (record { head = h; claims = claims })))
unfolding taken
taken_claimed f g n k h b t claims en e eb eg es =
    let a : g.area ≡ retype f.area (h / pageblock_pages f.area.largest) (pageblock_type t) = ap (λ (q : Frames). q.area) eg ∙ ap (λ q. retype f.area q (pageblock_type t)) eb in
    let s : g.sides ≡ f.sides = ap (λ (q : Frames). q.sides) eg in
    rw (en, e) (cc)

-- the lowest block of a sound area outside isolated pageblocks
pub at_hand : (m : ℕ) (a : Blocks) → IsSound m a.rows.states a.kinds a.rows.lists → blocks_at_hand (area_in m a) ≡ choosable m a
at_hand m a x = ap (available_blocks m a.kinds) (sym (set_maximal m (block_set a) x.normal))

pub lowest_at : (m : ℕ) (a : Blocks) (k : ℕ) → IsSound m a.rows.states a.kinds a.rows.lists → lowest (blocks_at_hand (area_in m a)) k ≡ lowest (choosable m a) k
lowest_at m a k x = ap (λ s. lowest s k) (at_hand m a x)

-- its type, as it is noted, is that of its pageblock
pub noted_back : (s : PageblockType) → is_isolate s ≡ false → pageblock_type (noted_type s) ≡ s
noted_back of.Unmovable e = refl
noted_back of.Reclaimable e = refl
noted_back of.Movable e = refl
noted_back of.Isolate e = absurd cc

-- the n lowest pages of a block (h, o) have left an area with so many free pages
pub record IsRunTaken (m : ℕ) (a : Blocks) (free h o n : ℕ) (y : Blocks) : Type 0 where
  pub held : IsHeld m a free
  pub starts : Starts (block_set a) h o
  pub enough : n ≤ 2 ^ o
  pub left : cover (block_set y) ≡ without_pages (cover (block_set a)) h n
  pub sides : drop (lists_count m) y.rows.lists ≡ drop (lists_count m) a.rows.lists

pub run_taken : {m : ℕ} {a : Blocks} {free k : ℕ} (y : Blocks) (t : MigrateType) (c : Choice) → IsHeld m a free → IsFreeBlock a k c.block →
    frames_in m y ≡ with_area (frames_in m a) (taken (frames_in m a).area k t (Some (chosen_of c))) → IsRunTaken m a free c.block.head c.block.order (2 ^ k) y
run_taken {m} {a} {free} {k} y t c x b e = record {
  held = x;
  starts = b.starts;
  enough = pow-le-pow_right (omega arith) b.enough;
  left = ap (λ (f : Frames). f.area.free) e ∙ free-taken (area_in m a) k t (chosen_of c) ∙ without_block (cover (block_set a)) c.block.head k;
  sides = ap (λ (f : Frames). f.sides) e;
}

pub run_left : {m : ℕ} {a : Blocks} {free : ℕ} (y : Blocks) (h o k : ℕ) → IsHeld m a free → Starts (block_set a) h o → k ≤ o →
    frames_in m y ≡ with_area (frames_in m a) (leave (frames_in m a).area h k) → IsRunTaken m a free h o (2 ^ k) y
run_left {m} {a} {free} y h o k x st le e = record {
  held = x;
  starts = st;
  enough = pow-le-pow_right (omega arith) le;
  left = ap (λ (f : Frames). f.area.free) e ∙ free-leave (area_in m a) h k ∙ without_block (cover (block_set a)) h k;
  sides = ap (λ (f : Frames). f.sides) e;
}

pub run_off : {a y : Blocks} {free most h n : ℕ} {t : MigrateType} → IsHeld a.largest a free → (x : IsRunTaking a t most y h n) → IsRunTaken a.largest a free h x.order n y
run_off held x = record { held = held; starts = x.starts; enough = x.enough; left = x.left; sides = ap (λ (f : Frames). f.sides) x.after }

-- the pages of a run of the set leave it
size-left : (u : List Bool) (h n : ℕ) → h + n ≤ length u → ((i : ℕ) → h ≤ i → i < h + n → In u i) → size u ≡ size (without_pages u h n) + n
size-left u h n le f =
    let v : List Bool = without_pages u h n in
    let e : count_by (has u) (range_with_len 0 (length u)) ≡ count_by (has v) (range_with_len 0 (length u)) + count_by (is_within h n) (range_with_len 0 (length u)) =
    counts-add (has u) (has v) (is_within h n) 0 (length u) (λ i lo hi. rw (has-left_any u h n i) (parts (has u i) (is_within h n i) (λ on. let r = within-to h n i on in f i r.0 r.1))) in
    let c = count-run (is_within h n) h n 0 (length u) (within-from h n) (λ i w. false_from_ne_true _ (λ on. let r = within-to h n i on in elim w [ inl x ↦ omega (arith, r.0) | inr x ↦ omega (arith, r.1) ])) in
    let all : size v ≡ count_by (has v) (range_with_len 0 (length u)) = size-range v ∙ ap (λ m. count_by (has v) (range_with_len 0 m)) (length-without_pages u h n) in
    omega (arith, e, c, all, size-range u)
  where
    parts : (u r : Bool) → (r ≡ true → u ≡ true) → one_if u ≡ one_if (u && not r) + one_if r
    parts u r f = grind arith

-- n pages from h on, all of them free, have left an area with so many free pages
pub record AreGone (m : ℕ) (a : Blocks) (free h n : ℕ) (y : Blocks) : Type 0 where
  pub held : IsHeld m a free
  pub inside : h + n ≤ length (cover (block_set a))
  pub filled : (i : ℕ) → h ≤ i → i < h + n → In (cover (block_set a)) i
  pub left : cover (block_set y) ≡ without_pages (cover (block_set a)) h n
  pub sides : drop (lists_count m) y.rows.lists ≡ drop (lists_count m) a.rows.lists

module _ {m : ℕ} {a : Blocks} {free h n : ℕ} {y : Blocks} (x : AreGone m a free h n y) where
  -- the free pages are so many less
  pub fewer_pages : free ≡ size (cover (block_set y)) + n
  fewer_pages = x.held.counted ∙ size-left (cover (block_set a)) h n x.inside x.filled ∙ ap (λ u. size u + n) (sym x.left)

  length-left : length (cover (block_set y)) ≡ length (cover (block_set a))
  length-left = ap length x.left ∙ length-without_pages (cover (block_set a)) h n

  -- the pages are clear
  pub gone_clear : AreClear (frames_in m y) h n
  gone_clear = record {
    inside = rw length-left x.inside;
    free = λ i lo hi. rw x.left (has-left_any (cover (block_set a)) h n i ∙ rw (within-from h n i lo hi) (and-false _));
    aside = λ r i lo hi. rw x.sides (false_from_ne_true _ (λ on.
        x.held.sound.aside (lists_count m + r) i (omega arith) (rw (get_or-drop (lists_count m) a.rows.lists r []) at on) (x.filled i lo hi)));
  }

  -- and each block that might come back before still may
  pub gone_still : (g j : ℕ) → IsClear (frames_in m a) g j → IsClear (frames_in m y) g j
  gone_still g j c = record {
    block = rw length-left c.block;
    free = λ i lo hi. rw x.left (has-left_any (cover (block_set a)) h n i ∙ rw (c.free i lo hi) refl);
    aside = λ r i lo hi. rw x.sides (c.aside r i lo hi);
  }

module _ {m : ℕ} {a : Blocks} {free h o n : ℕ} {y : Blocks} (x : IsRunTaken m a free h o n y) where
  gone : AreGone m a free h n y
  gone = record {
    held = x.held;
    inside = omega (arith, (starts_block m a h o x.held.sound x.starts).inside, length-pages a.rows.states, x.enough);
    filled = λ i lo hi. x.held.sound.normal.inside h o x.starts i lo (omega (arith, x.enough));
    left = x.left;
    sides = x.sides;
  }

  pub fewer : free ≡ size (cover (block_set y)) + n
  fewer = fewer_pages gone

  pub are_clear : AreClear (frames_in m y) h n
  are_clear = gone_clear gone

  pub still_may : (g j : ℕ) → IsClear (frames_in m a) g j → IsClear (frames_in m y) g j
  still_may = gone_still gone

-- a run with as many pages as a block may come back as one
pub may_return : {m : ℕ} {a : Blocks} {free h o : ℕ} {y : Blocks} (k : ℕ) → k ≤ o → IsRunTaken m a free h o (2 ^ k) y → IsClear (frames_in m y) h k
may_return {m} {a} {free} {h} {o} k le x =
    let block = starts_block m a h o x.held.sound x.starts in
    let c = are_clear x in
    record { block = record { order = omega (arith, block.order, le); aligned = aligned_down k o h le block.aligned; inside = c.inside }; free = c.free; aside = c.aside }

-- it was such a block of the zone, and its pages were free
pub low_block : {m : ℕ} {a : Blocks} {free h o : ℕ} {y : Blocks} (k : ℕ) → k ≤ o → IsRunTaken m a free h o (2 ^ k) y → IsBlock m (length a.rows.states) h k
low_block {m} {a} {free} {h} {o} k le x =
    let block = starts_block m a h o x.held.sound x.starts in
    record { order = omega (arith, block.order, le); aligned = aligned_down k o h le block.aligned; inside = omega (arith, block.inside, x.enough) }

pub low_free : {m : ℕ} {a : Blocks} {free h o n : ℕ} {y : Blocks} → IsRunTaken m a free h o n y → IsFreeRun (area_in m a) h n
low_free {m} {a} {free} {h} {o} {n} x = has_pages-from (cover (block_set a)) h n (gone x).filled

-- the head of a block that may come back
pub clear_head : (m : ℕ) (n : Blocks) (h k : ℕ) → IsClear (frames_in m n) h k → (h < length n.rows.states) × (has (cover (block_set n)) h ≡ false)
clear_head m n h k x =
    let some : 0 < 2 ^ k = pow_pos k in
    let inside : h + 2 ^ k ≤ length (cover (block_set n)) = x.block.inside in
    (omega (arith, length-pages n.rows.states), x.free h (omega arith) (omega arith))

-- frames whose area stays are what they were
pub frames_stay : (m : ℕ) (a : Blocks) → IsSound m a.rows.states a.kinds a.rows.lists → frames_in m a ≡ with_area (frames_in m a) (area_in m a)
frames_stay m a x = ap (λ (q : List State). let f : Frames = record (frames_in m a) { states = q } in f) (restated_all m a.rows.states a.rows.states x.normal refl (λ g. restated_same _))
