use Rattle.std.proofs.Common.{◌∙◌, sym}
use Rattle.zp_share.proofs.Crews.{fits_there, places}
use Rattle.zp_kernel.proofs.Crews.{zones-length}
use Rattle.zp_kernel.proofs.kernel_zones.KernelZones.places.Goals as goal

pub returns-clause-zones : goal.returns-clause-zones
returns-clause-zones c =
    let zones = c.self.inside.zones in
    let shares = c.self.inside.shares.items in
    c.zones.ensures.zones
    ∙ places zones c.index.result.now (fits_there zones shares 0 c.index.result.now c.index.result.now c.self.invariant.1 c.self.invariant.0 c.index.ensures)
    ∙ sym (zones-length zones shares c.args.self.now c.self.view_is)
