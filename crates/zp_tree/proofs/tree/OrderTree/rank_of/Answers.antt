use Rattle.zp_tree.proofs.Spelling.{tree_in}
use Rattle.zp_tree.proofs.TreeReads.{kept_exact, words_exact}
use Rattle.zp_tree.proofs.tree.OrderTree.rank_of.Goals as goal

pub returns-then-group-self : goal.returns-then-group-self
returns-then-group-self c = words_exact _ _ _ _ _ _ _ _ _ (tree_in _ _ _ _ _ _ _ c.self.view_is c.self.invariant) c.rank_of.ensures

pub returns : goal.returns
returns c = rw c.rank.ensures (kept_exact _ _ _ _ _ _ _ _ (tree_in _ _ _ _ _ _ _ c.self.view_is c.self.invariant) c.if-group-self.false)
