use Rattle.zp_table.proofs.Masks.{replaced}
use Rattle.zp_table.proofs.field.with_field.Goals as goal

pub returns : goal.returns
returns c = replaced c.args.word c.args.from c.args.bits c.args.value c.requires.place.1 c.requires.place.2 c.ranges.word.fits c.requires.fits
