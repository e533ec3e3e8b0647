use Rattle.zp_links.proofs.Writes.{restated}
use Rattle.zp_links.proofs.lists.Lists.set_state.Goals as goal

pub invariant_of-self : goal.invariant_of-self
invariant_of-self c = (restated _ _ _ _ c.args.at c.args.state c.self.view_is c.self.invariant c.set_state.ensures).0

pub returns : goal.returns
returns c = (restated _ _ _ _ c.args.at c.args.state c.self.view_is c.self.invariant c.set_state.ensures).1
