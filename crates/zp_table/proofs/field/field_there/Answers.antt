use Rattle.zp_table.proofs.Masks.{left_there}
use Rattle.zp_table.proofs.field.field_there.Goals as goal

pub returns : goal.returns
returns c = left_there c.args.word c.args.bits c.args.from c.requires.1 c.requires.2
