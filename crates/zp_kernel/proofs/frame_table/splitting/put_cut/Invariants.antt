use Rattle.std.specs.HashMap.{spare}
use Rattle.std.proofs.Common.{◌≡◌, ◌≤◌, ◌+◌, length}
use Rattle.zp_model.specs.declared.constants.TheConstants.{LARGEST_ORDER}
use Rattle.zp_model.specs.Runs.{cut}
use Rattle.zp_kernel.specs.Frames.{frames_of, with_cut}
use Rattle.zp_kernel.proofs.frame_table.splitting.put_cut.Given as goal

-- the blocks before page `next` are held, and `left` pages are to be
abbrev pub invariant-pieces : goal.invariant-pieces
invariant-pieces l = record {
  upto : l.next + l.left ≡ l.fn.from + l.fn.pages;
  after : with_cut l.frame l.held l.next l.left (frames_of l.table.entries) ≡ with_cut l.frame l.held l.fn.from l.fn.pages (frames_of l.fn.table.entries);
  places : length (cut LARGEST_ORDER l.next l.left) ≤ spare l.table;
  room : spare l.fn.table + length (cut LARGEST_ORDER l.next l.left) ≤ spare l.table + length (cut LARGEST_ORDER l.fn.from l.fn.pages);
}

abbrev pub decreases-pieces : goal.decreases-pieces
decreases-pieces l = l.left
