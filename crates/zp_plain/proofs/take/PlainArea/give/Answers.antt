use Rattle.std.proofs.Common.{sym, ◌∙◌}
use Rattle.zp_model.proofs.RunGiven.{give_block}
use Rattle.zp_plain.proofs.take.PlainArea.give.Goals as goal

pub returns-clause-after : goal.returns-clause-after
returns-clause-after c = rw c.pages.ensures.pages at c.give_run.ensures.after ∙ sym (give_block c.args.self.now c.args.head c.args.order)
