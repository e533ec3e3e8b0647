use Rattle.std.proofs.Common.{◌≡◌}
use Rattle.zp_links_tests.proofs.tree.expect_blocks.Given as goal

-- the questions leave the tree's set as it was
abbrev pub invariant-orders : goal.invariant-orders
invariant-orders g l = l.tree ≡ l.fn.tree
