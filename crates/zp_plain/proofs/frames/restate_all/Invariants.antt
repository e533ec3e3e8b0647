use Rattle.std.proofs.Common.{ℕ, ◌≡◌, ◌≤◌, ◌<◌, length, None}
use Rattle.std.specs.Prelude.{slice_index_or}
use Rattle.zp_model.specs.BlockSet.{max_blocks}
use Rattle.zp_model.specs.Rows.{state_at}
use Rattle.zp_model.specs.Frames.{restate}
use Rattle.zp_plain.proofs.frames.restate_all.Given as goal

-- the notes before the index are restated, and the others are as they were
abbrev pub invariant-pages : goal.invariant-pages
invariant-pages l = record {
  pages : length l.notes.items ≡ length l.fn.notes.items;
  done : (j : ℕ) → j < l.i → state_at l.notes.items j ≡ restate (slice_index_or (max_blocks l.largest l.free) j None) (state_at l.fn.notes.items j);
  left : (j : ℕ) → l.i ≤ j → state_at l.notes.items j ≡ state_at l.fn.notes.items j;
}
