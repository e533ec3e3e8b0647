use Rattle.std.proofs.Common.{ap, ◌∙◌}
use Rattle.zp_model.specs.Rows.{front}
use Rattle.zp_model.specs.Area.{free_list}
use Rattle.zp_buddy.proofs.Walks.{next_front}
use Rattle.zp_buddy.proofs.Choosing.{list_of_frames}
use Rattle.zp_buddy.proofs.buddy.Buddy.front.Goals as goal

pub returns-clause-answer : goal.returns-clause-answer
returns-clause-answer c = c.front.ensures.answer ∙ ap front (list_of_frames _ c.self.inside.area _ c.args.order c.args.kind c.self.view_is)

pub returns-clause-on : goal.returns-clause-on
returns-clause-on c = rw (returns-clause-answer c) (next_front (free_list c.args.self.now.area c.args.order c.args.kind))
