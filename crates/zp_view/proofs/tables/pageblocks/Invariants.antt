use Rattle.std.proofs.Common.{◌≡◌, ◌≤◌, take}
use Rattle.std.specs.List.{count_by}
use Rattle.zp_view.specs.Tables.{is_kind}
use Rattle.zp_view.proofs.tables.pageblocks.Given as goal

-- the pageblocks of the type so far were counted
abbrev pub invariant-pageblocks : goal.invariant-pageblocks
invariant-pageblocks l = record {
  within : l.count ≤ l.number;
  counted : l.count ≡ count_by (is_kind l.kind) (take l.number l.zone.plain.area.kinds);
}
