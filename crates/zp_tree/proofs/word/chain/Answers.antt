use Rattle.zp_tree.proofs.Chains.{chain_bits}
use Rattle.zp_tree.proofs.word.chain.Goals as goal

pub returns : goal.returns
returns c = chain_bits _ _ _ c.requires.place c.requires.up c.requires.levels
