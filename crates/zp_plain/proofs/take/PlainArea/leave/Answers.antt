use Rattle.std.proofs.Common.{sym, ◌∙◌}
use Rattle.zp_model.proofs.RunGiven.{leave_block}
use Rattle.zp_plain.proofs.take.PlainArea.leave.Goals as goal

pub returns : goal.returns
returns c = rw c.pages.ensures.pages at c.leave_run.ensures.after ∙ sym (leave_block c.args.self.now c.args.head c.args.order)
