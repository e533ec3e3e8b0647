use Rattle.std.proofs.Common.{◌≡◌, ◌<◌, ◌%◌, ◌∙◌, length, ap, sym, arith}
use Rattle.zp_share.proofs.Crews.{worker_at}
use Rattle.zp_kernel.proofs.Crews.{shares-length}
use Rattle.zp_kernel.proofs.kernel_zones.KernelZones.worker_of.Goals as goal

many : (c : goal.After-worker) → length c.args.self.now.shares ≡ c.len.result
many c = omega (arith, shares-length c.self.inside.zones c.self.inside.shares.items c.args.self.now c.self.view_is, c.len.ensures)

below : (c : goal.After-worker) → c.args.cpu % c.len.result < c.len.result
below c = let some : 0 < c.len.result = omega (arith, c.len.ensures, c.self.invariant.0) in omega (arith, some)

pub returns-clause-worker : goal.returns-clause-worker
returns-clause-worker c =
    c.worker.ensures.worker
    ∙ worker_at c.self.inside.zones c.self.inside.shares.items _ c.index.result.now c.index.result.now c.self.invariant.1 (omega (arith, below c, c.len.ensures)) c.index.ensures
    ∙ ap (λ n. c.args.cpu % n) (sym (many c))

pub returns-clause-there : goal.returns-clause-there
returns-clause-there c =
    let same : c.worker.result ≡ c.args.cpu % c.len.result =
    c.worker.ensures.worker
    ∙ worker_at c.self.inside.zones c.self.inside.shares.items _ c.index.result.now c.index.result.now c.self.invariant.1 (omega (arith, below c, c.len.ensures)) c.index.ensures in
    omega (arith, same, below c, many c)
