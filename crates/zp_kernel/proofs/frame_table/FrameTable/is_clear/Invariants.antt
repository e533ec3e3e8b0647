use Rattle.std.proofs.Common.{◌≡◌, ◌+◌}
use Rattle.zp_kernel.specs.Frames.{is_clear}
use Rattle.zp_kernel.proofs.frame_table.FrameTable.is_clear.Given as goal

-- the frames of the blocks before page `next` are clear
abbrev pub invariant-pieces : goal.invariant-pieces
invariant-pieces l = record {
  upto : l.next + l.left ≡ l.fn.from + l.fn.pages;
  clear : is_clear l.self l.frame l.next l.left ≡ is_clear l.self l.frame l.fn.from l.fn.pages;
}

abbrev pub decreases-pieces : goal.decreases-pieces
decreases-pieces l = l.left
