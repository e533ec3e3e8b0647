use Rattle.std.proofs.Common.{◌∙◌, sym, ap}
use Rattle.zp_model.specs.contracts.entry.AnsweredPartialEq.TheImpl.{eq-value}
use Rattle.zp_journal.proofs.SameReply.{same_answer, answer_itself}
use Rattle.zp_journal.proofs.replay.is_same.Goals as goal

pub returns : goal.returns
returns c = (
  λ e. same_answer c.args.reply.now c.args.other.now (sym c.eq.ensures ∙ e),
  λ e. c.eq.ensures ∙ ap (λ b. eq-value.it c.args.reply.now b) (sym e) ∙ answer_itself c.args.reply.now,
)
