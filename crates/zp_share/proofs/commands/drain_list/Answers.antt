use Rattle.std.proofs.Common.{rules}
use Rattle.zp_share.proofs.Drained.{one_drained}
use Rattle.zp_share.proofs.DrainingAll.{same_lent_drained, drained_list}
use Rattle.zp_share.proofs.commands.drain_list.Goals as goal

pub returns-clause-lent : goal.returns-clause-lent
returns-clause-lent g c =
    same_lent_drained c.args.share.now c.drain.new.share c.args.zone c.cached_len-count.result c.args.kind c.drain.result c.requires.zone c.cached_len-count.ensures.share
    (search rules)
    c.drain.ensures.asked.share

pub returns-clause-told : goal.returns-clause-told
returns-clause-told g c =
    λ rows e.
    drained_list rows c.args.share.now c.drain.new.share c.args.zone c.cached_len-count.result c.args.before c.args.kind _ c.if-count-eq0.false c.cached_len-count.ensures.same
    (c.in_ok-drain.ensures.asked.told rows e)

pub returns-clause-once : goal.returns-clause-once
returns-clause-once g c =
    (one_drained c.args.share.now c.drain.new.share c.args.zone c.cached_len-count.result c.args.kind c.requires.zone c.cached_len-count.ensures.share c.if-count-eq0.false c.cached_len-count.ensures.same
    c.in_ok-drain.ensures.asked.share).once
