use Rattle.std.proofs.Common.{◌^◌, ◌∙◌, ap, arith, length, sym}
use Rattle.zp_model.specs.Area.{pageblocks_of}
use Rattle.zp_model.specs.BlockSet.{Starts}
use Rattle.zp_area.specs.Blocks.{block_set}
use Rattle.zp_area.proofs.NotedBlocks.{starts-from}
use Rattle.zp_buddy.proofs.Settled.{length-pages}
use Rattle.zp_buddy.proofs.Taking.{IsRunTaken, clear_head, fewer, low_block, low_free, may_return, run_left, still_may}
use Rattle.zp_buddy.proofs.buddy.Buddy.take_low_part.Goals.{After-take_low_part}
use Rattle.zp_buddy.proofs.buddy.Buddy.take_low_part.Goals as goal

pub take_low_part-requires-clause-free : goal.take_low_part-requires-clause-free
take_low_part-requires-clause-free c = starts-from c.self.inside.area.rows.states c.args.at c.args.found (rw (← c.self.view_is) at c.requires.free)

-- the low part has left the block
gone : (c : After-take_low_part) → IsRunTaken c.self.inside.area.largest c.self.inside.area c.self.inside.free c.args.at c.args.found (2 ^ c.args.order) c.take_low_part.new.area
gone c =
    let starts : Starts (block_set c.self.inside.area) c.args.at c.args.found = starts-from c.self.inside.area.rows.states c.args.at c.args.found (rw (← c.self.view_is) at c.requires.free) in
    run_left c.take_low_part.new.area c.args.at c.args.found c.args.order c.self.invariant starts c.requires.down c.take_low_part.ensures.after

pub overflow_sub-self : goal.overflow_sub-self
overflow_sub-self c = omega (arith, fewer (gone (goal.at.overflow_sub-self c).After-take_low_part), c.pages-pages.ensures.pages)

pub invariant_of-self : goal.invariant_of-self
invariant_of-self c =
    let x = gone (goal.at.invariant_of-self c).After-take_low_part in
    rw c.take_low_part.ensures.largest (record {
      sound = c.take_low_part.ensures.sound;
      typed = ap length c.take_low_part.ensures.kinds ∙ c.self.invariant.typed ∙ ap (pageblocks_of c.self.inside.area.largest) (sym c.take_low_part.ensures.pages);
      counted = omega (arith, fewer x, c.pages-pages.ensures.pages);
    })

pub returns-clause-block : goal.returns-clause-block
returns-clause-block c =
    rw (← c.self.view_is) (rw (length-pages c.self.inside.area.rows.states) (low_block c.args.order c.requires.down (gone (goal.at.returns-clause-block c).After-take_low_part)))

pub returns-clause-free : goal.returns-clause-free
returns-clause-free c = rw (← c.self.view_is) (low_free (gone (goal.at.returns-clause-free c).After-take_low_part))

pub returns-clause-after : goal.returns-clause-after
returns-clause-after c = rw (← c.self.view_is, c.take_low_part.ensures.largest) c.take_low_part.ensures.after

pub returns-clause-clear : goal.returns-clause-clear
returns-clause-clear c = rw c.take_low_part.ensures.largest (may_return c.args.order c.requires.down (gone (goal.at.returns-clause-clear c).After-take_low_part))

pub returns-clause-kept : goal.returns-clause-kept
returns-clause-kept c = rw (← c.self.view_is, c.take_low_part.ensures.largest) (still_may (gone (goal.at.returns-clause-kept c).After-take_low_part))

pub returns-clause-head : goal.returns-clause-head
returns-clause-head c = clear_head c.take_low_part.new.area.largest c.take_low_part.new.area c.args.at c.args.order (returns-clause-clear c)
