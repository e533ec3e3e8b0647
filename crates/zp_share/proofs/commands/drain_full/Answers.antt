use Rattle.std.proofs.Common.{rules}
use Rattle.zp_share.proofs.DrainingAll.{same_lent_drained, same_kind_drained}
use Rattle.zp_share.proofs.commands.drain_full.Goals as goal

pub returns-clause-lent : goal.returns-clause-lent
returns-clause-lent g c =
    same_lent_drained c.args.share.now c.drain.new.share c.args.zone c.from.result c.args.kind c.drain.result c.requires.zone c.requires.share
    (search rules)
    c.drain.ensures.asked.share

pub returns-clause-kinds : goal.returns-clause-kinds
returns-clause-kinds g c =
    same_kind_drained c.args.share.now c.drain.new.share c.args.zone c.from.result c.args.kind c.drain.result c.requires.zone c.requires.share
    (search rules)
    c.drain.ensures.asked.share
