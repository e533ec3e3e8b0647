use Rattle.std.proofs.Common.{◌≡◌, ◌≤◌}
use Rattle.std.specs.List.{range_with_len, count_by}
use Rattle.zp_view.specs.Tables.{is_typed_block}
use Rattle.zp_view.proofs.tables.free_blocks.Given as goal

-- the blocks that begin so far were counted
abbrev pub invariant-places : goal.invariant-places
invariant-places l = record {
  within : l.blocks ≤ l.place;
  counted : l.blocks ≡ count_by (is_typed_block l.zone.plain.area l.order l.kind) (range_with_len 0 l.place);
}
