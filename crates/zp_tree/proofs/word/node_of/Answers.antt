use Rattle.zp_tree.proofs.Nodes.{node_within}
use Rattle.zp_tree.proofs.word.node_of.Goals as goal

pub returns-clause-within : goal.returns-clause-within
returns-clause-within c = node_within _ _ c.requires
