use Rattle.std.proofs.Common.{◌≡◌, ◌<◌, ◌^◌, length, map, take}
use Rattle.std.specs.List.{AllByRecursion}
use Rattle.std.specs.Fmt.{decimal}
use Rattle.zp_buddyinfo.specs.Rows.{spelled}
use Rattle.zp_buddyinfo.proofs.row.blocks_of.Given as goal

-- the numbers so far are those that the words so far write
abbrev pub invariant-loop-word : goal.invariant-loop-word
invariant-loop-word l = record {
  written : map decimal l.by_order.items ≡ take l.word-index (spelled l.words);
  small : AllByRecursion (λ n. n < 2 ^ 64) l.by_order.items;
  as_many : length l.by_order.items ≡ l.word-index;
}
