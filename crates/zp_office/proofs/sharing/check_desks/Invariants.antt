use Rattle.std.proofs.Common.{◌≡◌, All, take}
use Rattle.zp_office.specs.Runs.{HaveShare}
use Rattle.zp_office.proofs.sharing.check_desks.Given as goal

-- each desk so far has a share that agrees with the zones, and all is as it was
abbrev pub invariant-loop-desk : goal.invariant-loop-desk
invariant-loop-desk l =
    record {
      zones : l.zones ≡ l.initial.zones;
      desks : l.desks ≡ l.initial.desks;
      agree : All (HaveShare l.initial.zones) (take l.desk-index l.initial.desks);
    }
