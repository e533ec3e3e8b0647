use Rattle.std.proofs.Common.{◌≡◌, map, take}
use Rattle.zp_share.specs.Shares.{named_zone}
use Rattle.zp_pictures.specs.Tables.{largest_of}
use Rattle.zp_pictures.proofs.pagetypeinfo.largest_of.Given as goal

-- of the zones so far
abbrev pub invariant-loop-zone : goal.invariant-loop-zone
invariant-loop-zone l = l.largest ≡ largest_of (take l.zone-index (map named_zone l.zones))
