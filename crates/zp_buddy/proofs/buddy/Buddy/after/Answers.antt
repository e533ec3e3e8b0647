use Rattle.std.proofs.Common.{List, ℕ, ap, ◌∙◌}
use Rattle.zp_model.specs.Rows.{after}
use Rattle.zp_model.specs.Area.{free_list}
use Rattle.zp_buddy.proofs.Walks.{next_after}
use Rattle.zp_buddy.proofs.Choosing.{list_of_frames}
use Rattle.zp_buddy.proofs.buddy.Buddy.after.Goals as goal

pub after-requires : goal.after-requires
after-requires c = rw (list_of_frames _ c.self.inside.area _ c.args.order c.args.kind c.self.view_is) c.requires

pub returns-clause-answer : goal.returns-clause-answer
returns-clause-answer c =
    c.after.ensures.answer ∙ ap (λ (xs : List ℕ). after c.args.at xs) (list_of_frames _ c.self.inside.area _ c.args.order c.args.kind c.self.view_is)

pub returns-clause-on : goal.returns-clause-on
returns-clause-on c = rw (returns-clause-answer c) (next_after c.args.at (free_list c.args.self.now.area c.args.order c.args.kind))
