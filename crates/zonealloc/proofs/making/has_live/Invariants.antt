use Rattle.std.proofs.Common.{ℕ, ◌<◌, slice_index_or}
use Rattle.zonealloc.specs.declared.handles.WorkerHandle.{WorkerHandle}
use Rattle.zonealloc.specs.Rows.{IsEmpty}
use Rattle.zonealloc.proofs.making.has_live.Given as goal

abbrev pub invariant-loop-worker : goal.invariant-loop-worker
invariant-loop-worker l = (k : ℕ) (d : WorkerHandle) → k < l.worker-index → IsEmpty (slice_index_or l.workers k d)
