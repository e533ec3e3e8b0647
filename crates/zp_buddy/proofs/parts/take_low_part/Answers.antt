use Rattle.std.proofs.Common.{◌+◌, ◌^◌, ◌≤◌, arith}
use Rattle.std.proofs.Math.Nat.{pow-le-pow_right}
use Rattle.zp_model.specs.Block.{head}
use Rattle.zp_model.proofs.Heads.{head_self}
use Rattle.zp_area.proofs.Indexing.{started_there}
use Rattle.zp_buddy.proofs.PartsTaken.{left_low}
use Rattle.zp_buddy.proofs.Settled.{starts_block}
use Rattle.zp_buddy.proofs.parts.take_low_part.Goals as goal

pub type_of-requires : goal.type_of-requires
type_of-requires c =
    rw (c.pageblock_of-pageblock.ensures, c.largest.ensures) (started_there c.args.area.now.largest c.args.area.now c.args.at c.args.found c.pages-pages.ensures.one c.requires.free)

pub take_part-requires-clause-within : goal.take_part-requires-clause-within
take_part-requires-clause-within c =
    let block = starts_block c.args.area.now.largest c.args.area.now c.args.at c.args.found c.requires.sound c.requires.free in
    let small : 2 ^ c.args.order ≤ 2 ^ c.args.found = pow-le-pow_right (omega arith) c.requires.down in
    omega (arith, c.pages.ensures.pages, head_self c.args.at c.args.found block.aligned, small)

pub returns-clause-after : goal.returns-clause-after
returns-clause-after c =
    left_low c.args.area.now c.take_part.new.area c.args.at c.args.order c.pages.result (head c.args.at c.args.found) (head c.args.at c.args.found + 2 ^ c.args.found) (omega (arith, c.pages.ensures.pages)) c.take_part.ensures
