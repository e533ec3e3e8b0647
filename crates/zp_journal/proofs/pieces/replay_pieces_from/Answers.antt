use Rattle.zp_journal.specs.Pieces.{entries_of}
use Rattle.zp_journal.proofs.Together.{replayed_whole}
use Rattle.zp_journal.proofs.pieces.replay_pieces_from.Goals as goal

pub returns-then-go_on_all : goal.returns-then-go_on_all
returns-then-go_on_all c =
    replayed_whole c.args.zone.name c.args.zone c.go_on_all.new.zone c.args.zone.plain (entries_of c.args.pieces.now)
    (λ i. record c.args.zone { entries = c.requires.unasked i }) c.if-go_on_all.ensures.gone
