use Rattle.std.proofs.Common.{ℕ, subst}
use Rattle.zp_tree.specs.declared.constants.TheConstants.{WORD_LEVELS}
use Rattle.zp_tree.specs.Words.{IsLargestIn}
use Rattle.zp_tree.proofs.GroupBlocks.{large_told}
use Rattle.zp_tree.proofs.groups.has_large.Goals as goal

pub returns : goal.returns
returns c =
    let P : ℕ → Type 0 = λ w. IsLargestIn w 0 WORD_LEVELS c.largest.result in
    rw c.is_some.ensures (large_told c.args.high.now c.args.group c.largest.result c.requires (subst P (c.read.ensures.node 0) c.largest.ensures))
