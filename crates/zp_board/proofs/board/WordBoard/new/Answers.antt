use Rattle.std.proofs.Common.{rules}
use Rattle.zp_board.proofs.Steps.{begins}
use Rattle.zp_board.proofs.board.WordBoard.new.Goals as goal

pub of_words-requires : goal.of_words-requires
of_words-requires g c = begins g.row.W c.len.result c.deref.result.now (search rules) (search rules) (search rules)
