use Rattle.zp_shared.proofs.Readers.{rows_same}
use Rattle.zp_shared.proofs.row.close_with.Goals as goal

pub returns-then-place-clause-readers : goal.returns-then-place-clause-readers
returns-then-place-clause-readers g c = rows_same g.J.Naming.zones g.J.Naming.boards c.args.readers.now c.requires.readers
