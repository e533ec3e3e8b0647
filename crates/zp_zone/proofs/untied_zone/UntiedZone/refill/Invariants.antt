use Rattle.std.proofs.Common.{◌≡◌, ◌<◌, ◌≤◌, ◌-◌, length, take}
use Rattle.zp_model.specs.declared.constants.TheConstants.{MAX_BATCH}
use Rattle.zp_model.specs.Zone.{workers_of}
use Rattle.zp_zone.proofs.RefillSteps.{IsGot}
use Rattle.zp_zone.proofs.untied_zone.UntiedZone.refill.Given as goal

-- the pages so far are those that the refill got
abbrev pub invariant-parts : goal.invariant-parts
invariant-parts l = record {
  name : l.self.name ≡ l.fn.self.name;
  got : IsGot l.fn.self.plain l.self.plain l.worker l.kind l.mark l.count (take l.got l.pages);
  all : length l.pages ≡ MAX_BATCH;
  some : 0 < l.got;
  most : l.got ≤ l.count;
  worker : l.worker < workers_of l.self.plain;
}

abbrev pub decreases-parts : goal.decreases-parts
decreases-parts l = l.count - l.got
