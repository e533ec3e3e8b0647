use Rattle.std.proofs.Common.{◌^◌, sym, ◌∙◌, ap, arith, length}
use Rattle.zp_model.specs.Area.{pageblocks_of}
use Rattle.zp_model.specs.BlockSet.{cover}
use Rattle.zp_model.specs.Frames.{Frames, IsClear}
use Rattle.zp_model.proofs.LowestRun.{has_pages-to}
use Rattle.zp_laws.proofs.Areas.{free-leave_run}
use Rattle.zp_area.specs.Blocks.{block_set}
use Rattle.zp_area.proofs.NotedBlocks.{starts-to}
use Rattle.zp_buddy.specs.Choices.{area_in, frames_in}
use Rattle.zp_buddy.specs.Parts.{IsLeftRun}
use Rattle.zp_buddy.proofs.Taking.{AreGone, clear_head, fewer_pages, gone_clear, gone_still}
use Rattle.zp_buddy.proofs.buddy.Buddy.take_inside.Goals.{Else-not-take_inside}
use Rattle.zp_buddy.proofs.buddy.Buddy.take_inside.Goals as goal

pub take_inside-requires-clause-aligned : goal.take_inside-requires-clause-aligned
take_inside-requires-clause-aligned c = c.requires.block.aligned

pub take_inside-requires-clause-within : goal.take_inside-requires-clause-within
take_inside-requires-clause-within c = rw (← c.self.view_is) at c.requires.block.order

pub take_inside-requires-clause-beside : goal.take_inside-requires-clause-beside
take_inside-requires-clause-beside c = λ k st. (rw (← c.self.view_is) at c.requires.beside) k (starts-to c.self.inside.area.rows.states c.args.at k st)

left : (c : Else-not-take_inside) → IsLeftRun c.self.inside.area c.take_inside.new.area c.args.at (2 ^ c.args.order)
left c = c.take_inside.ensures.taken c.if-not-take_inside.false

-- the pages have left
gone : (c : Else-not-take_inside) → AreGone c.self.inside.area.largest c.self.inside.area c.self.inside.free c.args.at (2 ^ c.args.order) c.take_inside.new.area
gone c = record {
  held = c.self.invariant;
  inside = rw (← c.self.view_is) at c.requires.block.inside;
  filled = has_pages-to (cover (block_set c.self.inside.area)) c.args.at (2 ^ c.args.order) (sym c.take_inside.ensures.when ∙ c.if-not-take_inside.false);
  left = ap (λ (f : Frames). f.area.free) (left c).after ∙ free-leave_run (area_in c.self.inside.area.largest c.self.inside.area) c.args.at (2 ^ c.args.order);
  sides = ap (λ (f : Frames). f.sides) (left c).after;
}

pub overflow_sub-self : goal.overflow_sub-self
overflow_sub-self c = omega (arith, fewer_pages (gone (goal.at.overflow_sub-self c).Else-not-take_inside))

pub invariant_of-self-2 : goal.invariant_of-self-2
invariant_of-self-2 c =
    let s = (goal.at.invariant_of-self-2 c).Else-not-take_inside in
    let x = left s in
    rw x.largest (record {
      sound = x.sound;
      typed = ap length x.kinds ∙ c.self.invariant.typed ∙ ap (pageblocks_of c.self.inside.area.largest) (sym x.pages);
      counted = omega (arith, fewer_pages (gone s));
    })

-- the block may come back
clear : (c : Else-not-take_inside) → IsClear (frames_in c.self.inside.area.largest c.take_inside.new.area) c.args.at c.args.order
clear c =
    let x = gone_clear (gone c) in
    let block = rw (← c.self.view_is) at c.requires.block in
    record { block = record { order = block.order; aligned = block.aligned; inside = x.inside }; free = x.free; aside = x.aside }

pub returns-clause-head : goal.returns-clause-head
returns-clause-head c = λ yes. let s = (goal.at.returns-clause-head c).Else-not-take_inside in clear_head c.self.inside.area.largest c.take_inside.new.area c.args.at c.args.order (clear s)

pub returns-clause-clear : goal.returns-clause-clear
returns-clause-clear c = λ yes. let s = (goal.at.returns-clause-clear c).Else-not-take_inside in rw (left s).largest (clear s)

pub returns-clause-kept : goal.returns-clause-kept
returns-clause-kept c = let s = (goal.at.returns-clause-kept c).Else-not-take_inside in rw (← c.self.view_is, (left s).largest) (gone_still (gone s))
