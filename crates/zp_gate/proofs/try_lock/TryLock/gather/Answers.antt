use Rattle.std.proofs.Common.{Some, ap, ◌∙◌}
use Rattle.zp_gate.specs.declared.visit_view.VisitView.{VisitView}
use Rattle.zp_gate.specs.GatedZones.{GatedState}
use Rattle.zp_gate.proofs.Steps.{visited}
use Rattle.zp_gate.proofs.try_lock.TryLock.gather.Goals as goal

pub returns-in-None-clause-missed : goal.returns-in-None-clause-missed
returns-in-None-clause-missed c =
    let p = c.in-Ok.visitor in let y = c.slot_mut-zone.result.now in
    let left = c.leave-visit.ensures ∙ ap (λ (z : GatedState). let v : VisitView = record { key = p.me.0.key; found = p.me.0.found; left = Some z } in v) c.gather-totals.ensures.same in
    (y, visited c.args.self.now.table.shared.table_id c.args.self.now.table.shared.key p y y c.leave-visit.result c.in-Ok.ensures c.slot_mut-zone.ensures.value left, c.in-None.ensures.none)
