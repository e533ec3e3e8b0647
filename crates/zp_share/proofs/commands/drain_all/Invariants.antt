use Rattle.std.proofs.Common.{◌≡◌, ◌≤◌, ◌*◌, List, length, Some}
use Rattle.zp_model.specs.declared.constants.TheConstants.{LONGEST_LIST, TYPES}
use Rattle.zp_zone.specs.NamedZone.{NamedZone}
use Rattle.zp_share.specs.Readings.{CoversOwn}
use Rattle.zp_share.specs.Shares.{AreDrained, DrainsOnce, IsShareOf, IsSameShare, HasSameLent, world}
use Rattle.zp_share.proofs.DrainingAll.{IsDrainedTo}
use Rattle.zp_share.proofs.commands.drain_all.Given as goal

-- the zones before this one are drained
abbrev pub invariant-loop-zone : goal.invariant-loop-zone
invariant-loop-zone g l =
    (g.Z.Zones.keys l.zones ≡ g.Z.Zones.keys l.fn.zones)
    × IsShareOf (g.Z.Zones.keys l.zones) l.share
    × IsSameShare l.fn.share l.share
    × (l.drained ≤ l.zone * (TYPES * LONGEST_LIST))
    × AreDrained 0 (l.zone * TYPES) l.fn.share l.share
    × ((rows : List NamedZone) → g.Z.Zones.told l.fn.zones ≡ Some rows → IsDrainedTo (world rows l.fn.share) (length l.fn.share.zones) l.drained l.zone (g.Z.Zones.told l.zones) l.share)
    × HasSameLent l.fn.share l.share
    × DrainsOnce l.fn.share l.share
    × CoversOwn (g.Z.Zones.covers l.fn.zones) (g.Z.Zones.covers l.zones) l.fn.share l.share
