use Rattle.std.proofs.Common.{ap, ◌∙◌}
use Rattle.zp_model.specs.Frames.{Frames}
use Rattle.zp_model.specs.Zone.{zone_opening}
use Rattle.zp_zone.specs.Kept.{plain_of}
use Rattle.zp_zone.specs.Making.{wanted, IsGoodWithin}
use Rattle.zp_zone.proofs.BlockSteps.{named}
use Rattle.zp_zone.proofs.OpeningZone.{plain-opening, opening_kept}
use Rattle.zp_zone.proofs.untied_zone.UntiedZone.new.Goals as goal

pub invariant_of-zone : goal.invariant_of-zone
invariant_of-zone c =
    let good : IsGoodWithin c.args.bounds (wanted c.in_ok-name.name c.args.config.base c.args.config.pages c.args.config.min c.args.workers) = rw c.in_ok-name.ensures.ok c.in_ok-name.ensures.good in
    rw c.in-Ok.ensures (opening_kept _ _ _ _ _ _ _ c.requires good)

pub returns-clause-zone : goal.returns-clause-zone
returns-clause-zone c =
    ap (λ (f : Frames). named c.in_ok-name.name (plain_of f c.args.config.base c.args.config.min)) c.in-Ok.ensures
    ∙ ap (λ z. named c.in_ok-name.name z) (plain-opening c.args.config.largest c.args.config.base c.args.config.pages c.args.config.min c.args.workers)
    ∙ ap (λ q. named q (zone_opening c.args.config.largest c.args.config.base c.args.config.pages c.args.config.min c.args.workers)) c.in_ok-name.ensures.ok
