use Rattle.std.proofs.Common.{ℕ, ◌≡◌, ◌<◌, ◌+◌, length, slice_index_or, Some, Box, Global}
use Rattle.zp_gate.specs.declared.gated_worker.GatedWorker.{GatedWorker}
use Rattle.zonealloc.specs.declared.handles.WorkerHandle.{WorkerHandle}
use Rattle.zonealloc.proofs.making.put_all.Given as goal

abbrev pub invariant-loop-place : goal.invariant-loop-place
invariant-loop-place l = record {
  each : length l.workers ≡ length l.fn.workers;
  left : length l.crew.items + l.place ≡ length l.workers;
  same : (k : ℕ) (d : Box GatedWorker Global) → k < length l.crew.items → slice_index_or l.crew.items k d ≡ slice_index_or l.fn.crew.items k d;
  put : (w k : ℕ) (d : Box GatedWorker Global) (none : WorkerHandle) → w < l.place → k + w + 1 ≡ length l.workers → (slice_index_or l.workers w none).slot.value ≡ Some (slice_index_or l.fn.crew.items k d).value;
}
