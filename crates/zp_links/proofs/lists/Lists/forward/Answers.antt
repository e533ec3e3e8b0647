use Rattle.std.proofs.Common.{◌∙◌}
use Rattle.zp_links.proofs.Writes.{linked_in}
use Rattle.zp_links.proofs.Telling.{forward_on, unlinked}
use Rattle.zp_links.proofs.lists.Lists.forward.Goals as goal

pub returns-clause-next : goal.returns-clause-next
returns-clause-next c r o =
    c.page.ensures ∙ c.forward.ensures ∙ forward_on _ _ _ (linked_in _ _ _ c.self.view_is c.self.invariant) r c.args.at o

pub returns-clause-loose : goal.returns-clause-loose
returns-clause-loose c none =
    c.page.ensures ∙ c.forward.ensures ∙ (unlinked _ _ _ (linked_in _ _ _ c.self.view_is c.self.invariant) c.args.at none).1
