use Rattle.std.proofs.Common.{ap}
use Rattle.zp_buddy.proofs.Framed.{clear_is}
use Rattle.zp_buddy.proofs.JoinBlocks.{back_noted, clear_below, given_joined, joining_none}
use Rattle.zp_area.specs.Blocks.{Blocks}
use Rattle.zp_area.proofs.SameLargest.{largest-joined}
use Rattle.zp_buddy.proofs.join.join.Goals as goal

pub hold-requires-clause-page : goal.hold-requires-clause-page
hold-requires-clause-page c = clear_below c.args.area.now.largest c.args.at c.args.order c.args.area.now c.requires.clear

pub join_up-requires-clause-block : goal.join_up-requires-clause-block
join_up-requires-clause-block c = rw c.hold.ensures.after (back_noted c.args.area.now.largest c.args.at c.args.order c.args.area.now c.requires.sound c.requires.clear).block

pub join_up-requires-clause-clear : goal.join_up-requires-clause-clear
join_up-requires-clause-clear c = rw (ap (λ (q : Blocks). q.largest) c.hold.ensures.after) (c.hold.ensures.still_clear c.args.at c.args.order ((clear_is c.args.area.now.largest c.args.area.now c.args.at c.args.order).0 c.requires.clear).1)

pub returns : goal.returns
returns c =
    let z = joining_none c.args.area.now.largest c.args.at c.args.order _ (back_noted c.args.area.now.largest c.args.at c.args.order c.args.area.now c.requires.sound c.requires.clear) in
    let w = rw c.hold.ensures.after at c.join_up.ensures in
    let y = given_joined w.0 c.args.area.now.largest c.args.at c.args.order c.args.at c.args.order c.args.area.now _ c.join_up.new.self c.requires.sound c.requires.clear z w.1 in
    record { largest = largest-joined w.0 c.args.area.now.largest _ c.args.at c.args.order c.join_up.new.self w.1; sound = y.sound; pages = y.pages; kinds = y.kinds; size = y.size; after = y.after }
