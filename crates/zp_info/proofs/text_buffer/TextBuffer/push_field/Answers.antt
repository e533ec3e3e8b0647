use Rattle.std.proofs.Common.{◌++◌, ◌∷◌, [], ap, sym, ◌∙◌, append_assoc, arith}
use Rattle.std.specs.Fmt.{decimal}
use Rattle.zp_info.proofs.Fields.{long_field}
use Rattle.zp_info.proofs.text_buffer.TextBuffer.push_field.Goals as goal

pub returns-else-number-lt-LONG-clause-bytes : goal.returns-else-number-lt-LONG-clause-bytes
returns-else-number-lt-LONG-clause-bytes g c =
    c.push.ensures.bytes
    ∙ ap (λ q. q ++ 32 ∷ []) c.push_number.ensures.bytes
    ∙ append_assoc c.args.self.now (decimal c.args.number) (32 ∷ [])
    ∙ ap (λ q. c.args.self.now ++ q) (sym (long_field c.args.number c.if-number-lt-LONG.false (omega arith)))
