use Rattle.std.proofs.Common.{◌^◌, ◌∙◌, ap, arith, length, sym}
use Rattle.zp_model.specs.Area.{pageblocks_of}
use Rattle.zp_model.specs.BlockSet.{Starts, cover}
use Rattle.zp_model.specs.Runs.{IsFreeRun}
use Rattle.zp_model.proofs.LowestRun.{has_pages-from}
use Rattle.zp_area.specs.Blocks.{block_set}
use Rattle.zp_area.proofs.NotedBlocks.{starts-from}
use Rattle.zp_area.proofs.OneBlock.{around_covered}
use Rattle.zp_buddy.specs.Choices.{area_in}
use Rattle.zp_buddy.proofs.Settled.{length-pages, starts_block}
use Rattle.zp_buddy.proofs.Taking.{clear_head}
use Rattle.zp_buddy.proofs.TakenWhole.{IsOutAt, clear_at, fewer_at, still_at}
use Rattle.zp_buddy.proofs.buddy.Buddy.take_whole.Goals.{After-take_whole}
use Rattle.zp_buddy.proofs.buddy.Buddy.take_whole.Goals as goal

pub take_whole-requires-clause-free : goal.take_whole-requires-clause-free
take_whole-requires-clause-free c = starts-from c.self.inside.area.rows.states c.args.at c.args.order (rw (← c.self.view_is) at c.requires)

starts : (c : After-take_whole) → Starts (block_set c.self.inside.area) c.args.at c.args.order
starts c = starts-from c.self.inside.area.rows.states c.args.at c.args.order (rw (← c.self.view_is) at c.requires)

-- its pages are free
full : (c : After-take_whole) → IsFreeRun (area_in c.self.inside.area.largest c.self.inside.area) c.args.at (2 ^ c.args.order)
full c =
    has_pages-from (cover (block_set c.self.inside.area)) c.args.at (2 ^ c.args.order) (λ i lo hi.
    around_covered c.self.inside.area.largest (block_set c.self.inside.area) i c.args.at c.args.order c.pages-pages.ensures.one.blocks (record { starts = starts c; from = lo; to = hi }))

-- the block has left
out : (c : After-take_whole) → IsOutAt c.self.inside.area.largest c.self.inside.area c.self.inside.free c.args.at c.args.order c.take_whole.new.area
out c = record {
  held = c.self.invariant;
  block = starts_block c.self.inside.area.largest c.self.inside.area c.args.at c.args.order c.self.invariant.sound (starts c);
  full = full c;
  left = record { sound = c.take_whole.ensures.sound; pages = c.take_whole.ensures.pages; kinds = c.take_whole.ensures.kinds; after = c.take_whole.ensures.after };
}

pub overflow_sub-self : goal.overflow_sub-self
overflow_sub-self c = omega (arith, fewer_at (out (goal.at.overflow_sub-self c).After-take_whole), c.pages-pages.ensures.pages)

pub invariant_of-self : goal.invariant_of-self
invariant_of-self c =
    let x = out (goal.at.invariant_of-self c).After-take_whole in
    rw c.take_whole.ensures.largest (record {
      sound = c.take_whole.ensures.sound;
      typed = ap length c.take_whole.ensures.kinds ∙ c.self.invariant.typed ∙ ap (pageblocks_of c.self.inside.area.largest) (sym c.take_whole.ensures.pages);
      counted = omega (arith, fewer_at x, c.pages-pages.ensures.pages);
    })

pub returns-clause-block : goal.returns-clause-block
returns-clause-block c = rw (← c.self.view_is) (rw (length-pages c.self.inside.area.rows.states) (out (goal.at.returns-clause-block c).After-take_whole).block)

pub returns-clause-free : goal.returns-clause-free
returns-clause-free c = rw (← c.self.view_is) (full (goal.at.returns-clause-free c).After-take_whole)

pub returns-clause-after : goal.returns-clause-after
returns-clause-after c = rw (← c.self.view_is, c.take_whole.ensures.largest) c.take_whole.ensures.after

pub returns-clause-clear : goal.returns-clause-clear
returns-clause-clear c = rw c.take_whole.ensures.largest (clear_at (out (goal.at.returns-clause-clear c).After-take_whole))

pub returns-clause-kept : goal.returns-clause-kept
returns-clause-kept c = rw (← c.self.view_is, c.take_whole.ensures.largest) (still_at (out (goal.at.returns-clause-kept c).After-take_whole))

pub returns-clause-head : goal.returns-clause-head
returns-clause-head c = clear_head c.take_whole.new.area.largest c.take_whole.new.area c.args.at c.args.order (returns-clause-clear c)
