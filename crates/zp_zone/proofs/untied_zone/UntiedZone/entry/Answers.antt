use Rattle.std.proofs.Common.{◌≡◌, ◌-◌}
use Rattle.zp_model.specs.Described.{IsDescribedAt}
use Rattle.zp_zone.specs.Kept.{plain_of}
use Rattle.zp_zone.proofs.Described.{entry_described}
use Rattle.zp_zone.proofs.untied_zone.UntiedZone.entry.Goals as goal

pub returns-clause-described : goal.returns-clause-described
returns-clause-described c =
    let f = c.self.inside.buddy in
    let at : c.in_ok-at.at ≡ c.args.page - c.self.inside.base = c.in_ok-at.ensures.some.1 in
    let described : IsDescribedAt (plain_of f c.self.inside.base c.self.inside.min) c.in_ok-at.at c.entry-entry.result.state c.entry-entry.result.back c.entry-entry.result.forward =
    entry_described f c.self.inside.base c.self.inside.min c.in_ok-at.at _ _ _ c.pages.ensures.framed c.self.invariant.aside c.entry-entry.ensures.state c.entry-entry.ensures.linked in
    rw (← c.self.view_is)
    (record {
      back_place = c.entry-entry.result.back;
      forward_place = c.entry-entry.result.forward;
      back_at = c.absolute.ensures;
      forward_at = c.absolute-2.ensures;
      described = rw at at described;
    })
