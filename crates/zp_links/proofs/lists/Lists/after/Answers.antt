use Rattle.std.proofs.Common.{◌∙◌}
use Rattle.zp_links.proofs.Writes.{linked_in}
use Rattle.zp_links.proofs.Telling.{within, forward_on, forward_stands}
use Rattle.zp_links.proofs.lists.Lists.after.Goals as goal

pub forward-requires : goal.forward-requires
forward-requires c = within _ _ _ (linked_in _ _ _ c.self.view_is c.self.invariant) c.args.list c.args.at c.requires

pub returns-clause-answer : goal.returns-clause-answer
returns-clause-answer c =
    c.page.ensures ∙ c.forward.ensures ∙ forward_on _ _ _ (linked_in _ _ _ c.self.view_is c.self.invariant) c.args.list c.args.at c.requires

pub returns-clause-on : goal.returns-clause-on
returns-clause-on c =
    forward_stands _ _ _ (linked_in _ _ _ c.self.view_is c.self.invariant) c.args.list c.args.at _ c.requires (c.page.ensures ∙ c.forward.ensures)
