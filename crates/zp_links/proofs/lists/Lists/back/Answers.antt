use Rattle.std.proofs.Common.{◌∙◌}
use Rattle.zp_links.proofs.Writes.{linked_in}
use Rattle.zp_links.proofs.Telling.{back_of_next, unlinked}
use Rattle.zp_links.proofs.lists.Lists.back.Goals as goal

pub returns-clause-previous : goal.returns-clause-previous
returns-clause-previous c r p o e =
    c.page.ensures ∙ c.back.ensures ∙ back_of_next _ _ _ (linked_in _ _ _ c.self.view_is c.self.invariant) r p c.args.at o e

pub returns-clause-first : goal.returns-clause-first
returns-clause-first c r e =
    c.page.ensures ∙ c.back.ensures ∙ (linked_in _ _ _ c.self.view_is c.self.invariant).first r 0 c.args.at e

pub returns-clause-loose : goal.returns-clause-loose
returns-clause-loose c none =
    c.page.ensures ∙ c.back.ensures ∙ (unlinked _ _ _ (linked_in _ _ _ c.self.view_is c.self.invariant) c.args.at none).0
