use Rattle.zp_links.proofs.Telling.{row_in}
use Rattle.zp_links.proofs.lists.Lists.pages.Goals as goal

pub returns-clause-row : goal.returns-clause-row
returns-clause-row c = row_in _ _ _ c.self.view_is c.self.invariant
