use Rattle.std.proofs.Common.{◌≡◌}
use Rattle.zp_tree.specs.RankRows.{best_from}
use Rattle.zp_tree.proofs.ranks.best_of_eight.Given as goal

abbrev pub invariant-nodes : goal.invariant-nodes
invariant-nodes l = l.best ≡ best_from l.nodes l.node l.place
