use Rattle.std.proofs.Common.{arith}
use Rattle.zp_office.proofs.OpenedDesks.{desks_more, share_over}
use Rattle.zp_office.proofs.making.desks_of.Goals as goal

pub loop-share-preserved : goal.loop-share-preserved
loop-share-preserved c =
    record {
      whole = share_over c.loop-share.yielded _ _ _ _ c.loop-share.invariant.whole c.in-Some.ensures.steps.0;
      desks = desks_more c.args.trace.now c.loop-share.yielded c.in-Some.share c.loop-share.desks.items c.push_reserved.new.self.items _ c.loop-share.invariant.desks c.push_reserved.ensures.items c.in_ok-desk_for.ensures.desk;
      room = omega (arith, c.loop-share.invariant.room, c.push_reserved.ensures.capacity);
    }
