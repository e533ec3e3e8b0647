use Rattle.std.proofs.Common.{◌≡◌, ◌∙◌, sym, length}
use Rattle.zp_zone.specs.Kept.{plain_of}
use Rattle.zp_zone.proofs.RunsGiven.{may_not}
use Rattle.zp_zone.proofs.untied_zone.UntiedZone.holds_run.Goals as goal

pub returns-in-None : goal.returns-in-None
returns-in-None c =
    let size : c.pages.result ≡ length c.self.inside.buddy.area.free = c.pages.ensures.pages ∙ sym c.pages.ensures.framed.pages in
    rw (← c.self.view_is)
    (sym (may_not (plain_of c.self.inside.buddy c.self.inside.base c.self.inside.min) c.args.worker c.args.page c.args.pages c.self.invariant.lawful (λ le some room. c.in-None.ensures.none le some (rw size room))))
