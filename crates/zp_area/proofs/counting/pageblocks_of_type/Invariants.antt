use Rattle.std.proofs.Common.{◌≡◌, ◌≤◌, take}
use Rattle.zp_model.specs.Info.{pageblocks_of_type}
use Rattle.zp_area.proofs.counting.pageblocks_of_type.Given as goal

abbrev pub invariant-pageblocks : goal.invariant-pageblocks
invariant-pageblocks l = record { within : l.pageblocks ≤ l.other-index; counted : l.pageblocks ≡ pageblocks_of_type (take l.other-index l.kinds) l.kind }
