use Rattle.std.proofs.Common.{◌∙◌, sym, ap}
use Rattle.std.specs.Cmp.Lexicographic.{bytes_decides}
use Rattle.zp_model.specs.declared.request.Reply.TheVariants as reply
use Rattle.zp_zone.specs.NamedZone.{pages_reply}
use Rattle.zp_journal.proofs.SameReply.{other_pages}
use Rattle.zp_journal.proofs.asking.pages_answer.Goals as goal

pub returns-in-Ok : goal.returns-in-Ok
returns-in-Ok c =
    ap reply.Pages (sym ((bytes_decides c.as_slice.result.now c.args.pages.now).0 (sym c.if-eq.ensures)) ∙ c.as_slice.ensures.value)
    ∙ ap pages_reply (sym c.in-Ok.is)

pub returns-in-Ok-2 : goal.returns-in-Ok-2
returns-in-Ok-2 c =
    λ a e. other_pages a c.args.pages.now c.in-Ok.got.items
    (λ same. let yes = (bytes_decides c.as_slice.result.now c.args.pages.now).1 (c.as_slice.ensures.value ∙ sym same) in let told = c.eq.ensures in let no = c.if-eq.false in cc)
    (e ∙ ap pages_reply c.in-Ok.is)
