use Rattle.std.proofs.Common.{arith}
use Rattle.zp_model.specs.Rows.{Rows, with_run}
use Rattle.zp_links.proofs.Writes.{Spell, noted_run, pages_in}
use Rattle.zp_links.proofs.lists.Lists.set_run.Goals.{After-set_run}
use Rattle.zp_links.proofs.lists.Lists.set_run.Goals as goal

pub set_run-requires : goal.set_run-requires
set_run-requires c = omega (arith, c.requires.run, pages_in _ _ _ c.self.view_is)

wrote : (c : After-set_run) → Spell c.set_run.new.self c.self.inside.ends.items (let w : Rows = c.args.self.now in record w { states = with_run w.states c.args.at c.args.pages c.args.state })
wrote c = rw (c.set_run.ensures, c.none-nowhere.ensures) (noted_run c.args.pages c.args.self.now c.self.inside.table c.self.inside.ends.items c.args.at c.args.state c.self.view_is c.self.invariant c.requires.loose)

pub invariant_of-self : goal.invariant_of-self
invariant_of-self c = (wrote c).0

pub returns : goal.returns
returns c = (wrote c).1
