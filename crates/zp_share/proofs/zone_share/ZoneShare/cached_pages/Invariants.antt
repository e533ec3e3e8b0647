use Rattle.std.proofs.Common.{◌≡◌, ◌≤◌, ◌*◌, length, take}
use Rattle.std.specs.List.{sum_by}
use Rattle.zp_model.specs.declared.constants.TheConstants.{LONGEST_LIST}
use Rattle.zp_share.proofs.zone_share.ZoneShare.cached_pages.Given as goal

abbrev pub invariant-loop-list : goal.invariant-loop-list
invariant-loop-list l = (l.pages ≡ sum_by length (take l.list-index l.list-items)) × (l.pages ≤ LONGEST_LIST * l.list-index)
