use Rattle.zp_journal.proofs.Together.{illegal_piece}
use Rattle.zp_journal.proofs.pieces.go_on.Goals as goal

pub returns-in-Some-clause-gone : goal.returns-in-Some-clause-gone
returns-in-Some-clause-gone c = illegal_piece c.args.zone.now.plain c.args.piece.now.journal.entries c.in-Some.field-0 c.in-Some.ensures.replayed.0
