use Rattle.std.proofs.Common.{◌∙◌, ◌++◌, ◌∷◌, ap, ap₂}
use Rattle.std.specs.Fmt.{decimal}
use Rattle.zp_model.specs.Entries.{Entry}
use Rattle.zp_trace.specs.Spelling.{space}
use Rattle.zp_text.specs.JournalText.{is_low, reply_words, request_words, spaced}
use Rattle.zp_text.proofs.Words.{line_is}
use Rattle.zp_text.proofs.line.push_entry.Goals as goal

pub returns-clause-bytes : goal.returns-clause-bytes
returns-clause-bytes g c =
    let asked = ap (λ (e : Entry). e.request) c.parts-asked.ensures.same in
    let answered = ap (λ (e : Entry). e.reply) c.parts-asked.ensures.same in
    line_is c.args.line.now c.args.name.now (decimal c.args.number) (decimal c.args.entry.now.worker) (request_words c.args.entry.now.request) _ _ _ _ _ _ _
    c.push.ensures.bytes
    c.push_spaced_number.ensures.bytes
    (c.push_spaced_number-2.ensures.bytes ∙ ap (λ w. c.push_spaced_number.new.line ++ space ∷ decimal w) (c.from.ensures ∙ c.number.ensures.same ∙ c.worker.ensures))
    (c.push_request.ensures.bytes ∙ ap (λ r. c.push_spaced_number-2.new.line ++ spaced (request_words r)) asked)
    (c.push_answer.ensures.bytes ∙ ap₂ (λ low q. c.push_request.new.line ++ spaced (reply_words low q)) (c.is_low.ensures _ ∙ ap is_low asked) answered)
    c.push-2.ensures.bytes
