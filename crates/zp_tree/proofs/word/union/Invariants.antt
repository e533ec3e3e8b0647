use Rattle.std.proofs.Common.{◌+◌, ◌≡◌}
use Rattle.std.specs.Int.{bit_at}
use Rattle.zp_tree.specs.Words.{IsUnion}
use Rattle.zp_tree.proofs.word.union.Given as goal

abbrev pub invariant-words : goal.invariant-words
invariant-words l = record { union : IsUnion l.words l.fn.from l.place l.bits; none : bit_at l.bits 0 ≡ 0; counted : l.meter ≡ l.initial.meter + l.place }
