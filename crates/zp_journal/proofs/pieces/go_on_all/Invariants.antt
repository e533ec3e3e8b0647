use Rattle.std.proofs.Common.{take}
use Rattle.zp_journal.specs.Asking.{AreSeatsOf}
use Rattle.zp_journal.specs.Pieces.{entries_of}
use Rattle.zp_journal.proofs.Replayed.{IsGoneOn}
use Rattle.zp_journal.proofs.pieces.go_on_all.Given as goal

-- the zone is that of the pieces before this one, with its seats
abbrev pub invariant-loop-piece : goal.invariant-loop-piece
invariant-loop-piece l = record {
  found : IsGoneOn l.fn.zone (entries_of (take l.piece-index l.pieces)) l.zone;
  seats : AreSeatsOf l.zone l.seats;
}
