use Rattle.std.proofs.Common.{◌∙◌}
use Rattle.zp_laws.proofs.Origins.{granted_origin}
use Rattle.zp_zone.proofs.zone.Zone.alloc_told.Goals as goal

-- what was granted came from somewhere
pub unreachable-requires : goal.unreachable-requires
unreachable-requires c =
    let r = rw c.origin-origin.ensures.same at c.in_ok-page.ensures.reply in
    let from = granted_origin c.args.self.now.plain c.args.seat.now.worker c.args.order c.args.kind c.args.mark c.in_ok-page.page r in
    c.in_default.not-Some from.0 (c.origin-origin.ensures.answer ∙ from.1)
