-- A free block that leaves the free area whole.
use Rattle.std.proofs.Common.{ℕ, ◌+◌, ◌-◌, ◌^◌, ◌≡◌, ◌≤◌, ◌<◌, refl, sym, ◌∙◌, ap, subst, arith, [], length}
use Rattle.std.proofs.lemmas.Bool.{false_from_ne_true}
use Rattle.std.proofs.lemmas.List.{get_or-drop}
use Rattle.std.proofs.Math.Bool.{and-false}
use Rattle.zp_model.specs.Block.{size, without, IsBlock}
use Rattle.zp_model.specs.BlockSet.{Starts, cover}
use Rattle.zp_model.specs.Area.{lists_count}
use Rattle.zp_model.specs.Frames.{Frames, IsClear}
use Rattle.zp_model.specs.Runs.{IsFreeRun}
use Rattle.zp_model.proofs.LowestRun.{has_pages-to}
use Rattle.zp_model.proofs.Pages.{In}
use Rattle.zp_laws.proofs.Areas.{free-leave}
use Rattle.zp_laws.proofs.Counting.{has-without_any, in_run-yes, size-without}
use Rattle.zp_area.specs.Blocks.{Blocks, block_set, removed}
use Rattle.zp_area.specs.Chains.{halves_added}
use Rattle.zp_buddy.specs.Choices.{area_in, frames_in}
use Rattle.zp_buddy.specs.Held.{IsHeld}
use Rattle.zp_buddy.specs.Sound.{IsSound}
use Rattle.zp_buddy.proofs.Settled.{length-pages}
use Rattle.zp_buddy.proofs.SplitBlocks.{IsLeft, left_split}

-- a block of the set leaves it whole
pub left_whole : (m : ℕ) (a : Blocks) (h o : ℕ) → IsSound m a.rows.states a.kinds a.rows.lists → Starts (block_set a) h o → IsLeft m h o a (removed m a h o)
left_whole m a h o x st =
    let none_left : o - o ≡ 0 = omega arith in
    subst (λ d. IsLeft m h o a (halves_added m (removed m a h o) h o d)) none_left (left_split m a h o o x st (omega arith))

-- a block whose pages are free has left an area with so many free pages
pub record IsOutAt (m : ℕ) (a : Blocks) (free h k : ℕ) (n : Blocks) : Type 0 where
  pub held : IsHeld m a free
  pub block : IsBlock m (length a.rows.states) h k
  pub full : IsFreeRun (area_in m a) h (2 ^ k)
  pub left : IsLeft m h k a n

module _ {m : ℕ} {a : Blocks} {free h k : ℕ} {n : Blocks} (x : IsOutAt m a free h k n) where
  filled : (i : ℕ) → h ≤ i → i < h + 2 ^ k → In (cover (block_set a)) i
  filled = has_pages-to (cover (block_set a)) h (2 ^ k) x.full

  now_free : cover (block_set n) ≡ without (cover (block_set a)) h k
  now_free = ap (λ (f : Frames). f.area.free) x.left.after ∙ free-leave (area_in m a) h k

  now_pages : length (cover (block_set n)) ≡ length (cover (block_set a))
  now_pages = length-pages n.rows.states ∙ x.left.pages ∙ sym (length-pages a.rows.states)

  same_sides : (frames_in m n).sides ≡ (frames_in m a).sides
  same_sides = ap (λ (f : Frames). f.sides) x.left.after

  -- the free pages are so many less
  pub fewer_at : free ≡ size (cover (block_set n)) + 2 ^ k
  fewer_at =
      x.held.counted ∙ size-without (cover (block_set a)) h k (omega (arith, x.block.inside, length-pages a.rows.states)) filled ∙ ap (λ u. size u + 2 ^ k) (sym now_free)

  -- the block may come back
  pub clear_at : IsClear (frames_in m n) h k
  clear_at = record {
    block = record { order = x.block.order; aligned = x.block.aligned; inside = omega (arith, x.block.inside, now_pages, length-pages a.rows.states) };
    free = λ i lo hi. rw now_free (has-without_any (cover (block_set a)) h k i ∙ rw (in_run-yes h k i lo hi) (and-false _));
    aside = λ r i lo hi. rw same_sides (false_from_ne_true _ (λ on.
        x.held.sound.aside (lists_count m + r) i (omega arith) (rw (get_or-drop (lists_count m) a.rows.lists r []) at on) (filled i lo hi)));
  }

  -- and so may each that might before
  pub still_at : (g j : ℕ) → IsClear (frames_in m a) g j → IsClear (frames_in m n) g j
  still_at g j c = record {
    block = rw now_pages c.block;
    free = λ i lo hi. rw now_free (has-without_any (cover (block_set a)) h k i ∙ rw (c.free i lo hi) refl);
    aside = λ r i lo hi. rw same_sides (c.aside r i lo hi);
  }
