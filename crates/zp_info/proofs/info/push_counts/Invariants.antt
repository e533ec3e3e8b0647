use Rattle.std.proofs.Common.{◌≡◌, ◌≤◌, ◌+◌, ◌*◌, ◌++◌, length, take}
use Rattle.std.specs.List.{flat_map}
use Rattle.zp_model.specs.Info.{number_field}
use Rattle.zp_info.proofs.info.push_counts.Given as goal

abbrev pub invariant-numbers : goal.invariant-numbers
invariant-numbers g l = record {
  bytes : l.text ≡ l.initial.text ++ flat_map number_field (take l.count-index l.count-items);
  len : length l.text ≤ length l.initial.text + 11 * l.count-index;
}
