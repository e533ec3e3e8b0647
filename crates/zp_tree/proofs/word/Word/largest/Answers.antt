use Rattle.std.proofs.Common.{rules, arith}
use Rattle.zp_tree.proofs.Rows.{lowest_is_largest}
use Rattle.zp_tree.proofs.word.Word.largest.Goals as goal

pub overflow_sub-result-2 : goal.overflow_sub-result-2
overflow_sub-result-2 c = (lowest_is_largest _ (omega arith) (search rules) c.self.invariant).0

pub returns : goal.returns
returns c = rw (← c.self.view_is) (lowest_is_largest _ (omega arith) (search rules) c.self.invariant).1
