use Rattle.std.proofs.Common.{refl}
use Rattle.zp_buddy.proofs.TakenWhole.{left_whole}
use Rattle.zp_buddy.proofs.at.take_whole.Goals as goal

pub returns : goal.returns
returns c =
    let y = left_whole c.args.area.now.largest c.args.area.now c.args.at c.args.order c.requires.sound c.requires.free in
    rw c.remove.ensures (record {
      largest = refl;
      sound = y.sound;
      pages = y.pages;
      kinds = y.kinds;
      after = y.after;
    })
