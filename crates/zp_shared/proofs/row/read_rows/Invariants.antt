use Rattle.std.proofs.Common.{◌≡◌, ◌≤◌, ℕ, get_or, take}
use Rattle.std.specs.Global.{Vec}
use Rattle.std.specs.List.{AllZip}
use Rattle.zp_counts.specs.CountBoards.{CountsSeen}
use Rattle.zp_shared.proofs.Readers.{HasReadRow}
use Rattle.zp_shared.proofs.row.read_rows.Given as goal

-- the reader of the place has read the board in each of the rows so far, and the others are as they were
abbrev pub invariant-loop-row : goal.invariant-loop-row
invariant-loop-row g l =
    record {
      same : l.guarded ≡ l.initial.guarded;
      read : AllZip (HasReadRow g.J.Naming.zones g.J.Naming.boards l.initial.guarded) (take l.row-index l.initial.readers) (take l.row-index l.readers);
      rest : (k : ℕ) (d : Vec CountsSeen) → l.row-index ≤ k → get_or l.readers k d ≡ get_or l.initial.readers k d;
    }
