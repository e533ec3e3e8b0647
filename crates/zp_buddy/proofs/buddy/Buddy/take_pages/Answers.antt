use Rattle.std.proofs.Common.{sym, ◌∙◌, ap, arith, length}
use Rattle.zp_model.specs.Area.{pageblocks_of}
use Rattle.zp_model.specs.BlockSet.{cover}
use Rattle.zp_model.specs.Frames.{Frames}
use Rattle.zp_model.proofs.LowestRun.{has_pages-to}
use Rattle.zp_laws.proofs.Areas.{free-leave_run}
use Rattle.zp_area.specs.Blocks.{block_set}
use Rattle.zp_buddy.specs.Choices.{area_in}
use Rattle.zp_buddy.specs.Parts.{IsLeftRun}
use Rattle.zp_buddy.proofs.Settled.{length-pages}
use Rattle.zp_buddy.proofs.Taking.{AreGone, fewer_pages, gone_clear, gone_still}
use Rattle.zp_buddy.proofs.buddy.Buddy.take_pages.Goals.{Else-not-take_pages}
use Rattle.zp_buddy.proofs.buddy.Buddy.take_pages.Goals as goal

pub take_pages-requires-clause-inside : goal.take_pages-requires-clause-inside
take_pages-requires-clause-inside c = rw (← length-pages c.self.inside.area.rows.states) (rw (← c.self.view_is) at c.requires.inside)

left : (c : Else-not-take_pages) → IsLeftRun c.self.inside.area c.take_pages.new.area c.args.at c.args.pages
left c = c.take_pages.ensures.taken c.if-not-take_pages.false

-- the pages have left
gone : (c : Else-not-take_pages) → AreGone c.self.inside.area.largest c.self.inside.area c.self.inside.free c.args.at c.args.pages c.take_pages.new.area
gone c = record {
  held = c.self.invariant;
  inside = rw (← c.self.view_is) at c.requires.inside;
  filled = has_pages-to (cover (block_set c.self.inside.area)) c.args.at c.args.pages (sym c.take_pages.ensures.when ∙ c.if-not-take_pages.false);
  left = ap (λ (f : Frames). f.area.free) (left c).after ∙ free-leave_run (area_in c.self.inside.area.largest c.self.inside.area) c.args.at c.args.pages;
  sides = ap (λ (f : Frames). f.sides) (left c).after;
}

pub overflow_sub-self : goal.overflow_sub-self
overflow_sub-self c = omega (arith, fewer_pages (gone (goal.at.overflow_sub-self c).Else-not-take_pages))

pub invariant_of-self-2 : goal.invariant_of-self-2
invariant_of-self-2 c =
    let s = (goal.at.invariant_of-self-2 c).Else-not-take_pages in
    let x = left s in
    rw x.largest (record {
      sound = x.sound;
      typed = ap length x.kinds ∙ c.self.invariant.typed ∙ ap (pageblocks_of c.self.inside.area.largest) (sym x.pages);
      counted = omega (arith, fewer_pages (gone s));
    })

pub returns-clause-clear : goal.returns-clause-clear
returns-clause-clear c = λ yes. let s = (goal.at.returns-clause-clear c).Else-not-take_pages in rw (left s).largest (gone_clear (gone s))

pub returns-clause-kept : goal.returns-clause-kept
returns-clause-kept c = let s = (goal.at.returns-clause-kept c).Else-not-take_pages in rw (← c.self.view_is, (left s).largest) (gone_still (gone s))
