-- What a slot ends as, once the worker in it was lent.
use Rattle.std.specs.Prelude.{Some}
use Rattle.std.specs.Borrow.{Fml, MutBor, Lends}
use Rattle.zp_gate.specs.contracts.gated_worker.GatedWorker as held
use Rattle.zonealloc.specs.contracts.slots.WorkerSlot as slot

-- it has the worker as that was written last
abbrev pub LendsWorker : MutBor (slot.the_row).Denot → MutBor (held.the_row).Denot → Fml
LendsWorker s r = Lends slot.the_row held.the_row s r (λ w. record s.now { value = Some w })
