use Rattle.std.proofs.Common.{◌≡◌, nat_lt, length, filter, take}
use Rattle.zp_buddyinfo.specs.Rows.{spelled}
use Rattle.zp_buddyinfo.proofs.words.words_of.Given as goal

-- the words so far are those of the pieces so far that are not empty
abbrev pub invariant-loop-piece : goal.invariant-loop-piece
invariant-loop-piece l = spelled l.words.items ≡ filter (λ word. nat_lt 0 (length word)) (take l.piece-index (spelled l.piece-items))
