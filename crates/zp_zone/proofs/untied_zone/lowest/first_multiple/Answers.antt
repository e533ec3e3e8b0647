use Rattle.zp_zone.proofs.LowestRuns.{shifted}
use Rattle.zp_zone.proofs.untied_zone.lowest.first_multiple.Goals as goal

pub returns : goal.returns
returns c = shifted c.args.base c.args.from c.args.align c.requires.base c.requires.from c.requires.align
