use Rattle.std.proofs.Common.{◌-◌, ◌≤◌}
use Rattle.zp_tree.specs.Blocks.{IsWhole}
use Rattle.zp_tree.proofs.tree.OrderTree.whole_until.Given as goal

-- the groups before `next` are one block each
abbrev pub invariant-groups : goal.invariant-groups
invariant-groups l = (l.group ≤ l.next) × (l.next ≤ l.end) × IsWhole l.self l.group l.next

abbrev pub decreases-groups : goal.decreases-groups
decreases-groups l = l.end - l.next
