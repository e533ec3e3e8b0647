use Rattle.zp_tree.specs.Marks.{AreEmptied}
use Rattle.zp_tree.proofs.marks.empty_words.Given as goal

-- the first words are emptied
abbrev pub invariant-words : goal.invariant-words
invariant-words l = AreEmptied l.initial.words l.words l.fn.from l.place
