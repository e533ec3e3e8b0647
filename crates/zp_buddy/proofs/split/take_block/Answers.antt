use Rattle.std.proofs.Common.{◌-◌}
use Rattle.zp_buddy.proofs.SplitBlocks.{left_split}
use Rattle.zp_area.specs.Blocks.{removed}
use Rattle.zp_area.proofs.SameLargest.{largest-halves}
use Rattle.zp_buddy.proofs.split.take_block.Goals as goal

pub returns : goal.returns
returns c =
    let y = left_split c.args.area.now.largest c.args.area.now c.args.head c.args.order c.args.found c.requires.sound c.requires.free c.requires.down in
    rw c.split_off.ensures (record { largest = largest-halves c.args.area.now.largest (removed c.args.area.now.largest c.args.area.now c.args.head c.args.found) c.args.head c.args.order (c.args.found - c.args.order); sound = y.sound; pages = y.pages; kinds = y.kinds; after = y.after })
