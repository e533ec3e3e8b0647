use Rattle.zp_tree.proofs.FirstPlaces.{IsFirstUpTo}
use Rattle.zp_tree.proofs.word.Word.first.Given as goal

abbrev pub invariant-levels : goal.invariant-levels
invariant-levels l = IsFirstUpTo l.fn.self l.fn.least l.level l.first l.end
