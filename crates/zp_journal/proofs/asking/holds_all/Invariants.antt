use Rattle.std.proofs.Common.{◌≡◌, true, take}
use Rattle.std.specs.List.{list_all}
use Rattle.zp_model.specs.Run.{is_out}
use Rattle.zp_zone.specs.Seats.{Agrees, HasPages}
use Rattle.zp_journal.proofs.asking.holds_all.Given as goal

-- the pages so far are out to the worker
abbrev pub invariant-loop-page : goal.invariant-loop-page
invariant-loop-page l =
    record {
      out : list_all (λ page. is_out l.zone.plain l.seat.worker page 0) (take l.page-index l.pages) ≡ true;
      has : Agrees l.zone l.seat → HasPages l.seat (take l.page-index l.pages);
    }
