use Rattle.std.proofs.Common.{take}
use Rattle.zp_journal.specs.Asking.{AreSeatsOf}
use Rattle.zp_journal.proofs.Replayed.{IsGoneOn}
use Rattle.zp_journal.proofs.replay.repeat_first.Given as goal

-- the entries so far are legal, and the zone is the one after them, with its seats
abbrev pub invariant-loop-number : goal.invariant-loop-number
invariant-loop-number l =
    record {
      found : IsGoneOn l.fn.zone (take l.number l.journal.entries) l.zone;
      seats : AreSeatsOf l.zone l.seats;
    }
