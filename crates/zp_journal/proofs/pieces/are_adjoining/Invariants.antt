use Rattle.zp_journal.proofs.Together.{IsAdjoiningTo}
use Rattle.zp_journal.proofs.pieces.are_adjoining.Given as goal

-- the pieces before this one adjoin
abbrev pub invariant-loop-piece : goal.invariant-loop-piece
invariant-loop-piece l = IsAdjoiningTo l.pieces l.piece-index l.before
