use Rattle.std.proofs.Common.{◌≡◌, ◌<◌, length}
use Rattle.zp_model.specs.Lawful.{IsLawful}
use Rattle.zp_model.specs.Zone.{workers_of}
use Rattle.zp_zone.proofs.DrainSteps.{IsLeft}
use Rattle.zp_zone.proofs.untied_zone.UntiedZone.drain.Given as goal

-- these pages are left
abbrev pub invariant-parts : goal.invariant-parts
invariant-parts l = record {
  name : l.self.name ≡ l.fn.self.name;
  left : IsLeft l.fn.self.plain l.self.plain l.worker l.pages l.rest;
  lawful : IsLawful l.self.plain;
  worker : l.worker < workers_of l.self.plain;
}

abbrev pub decreases-parts : goal.decreases-parts
decreases-parts l = length l.rest
