use Rattle.std.proofs.Common.{◌≡◌, ◌≤◌, ◌+◌, ◌-◌, ◌++◌, length, take, ap, ◌∙◌, arith}
use Rattle.std.specs.Fmt.{decimal}
use Rattle.std.proofs.lemmas.Fmt.{length-decimal-le}
use Rattle.std.proofs.lemmas.List.{length-take-le}
use borrow.Rule.Slice.PartMut.{same_len_mid}
use Rattle.zp_model.specs.Info.{number_field}
use Rattle.zp_info.proofs.Fields.{field_is}
use Rattle.zp_info.proofs.text_buffer.TextBuffer.push_short_field.Goals as goal

pub write_digits-requires : goal.write_digits-requires
write_digits-requires g c =
    let same : c.from.result ≡ c.args.number = c.from.ensures in
    let short : length (decimal c.from.result) ≤ 6 = length-decimal-le 6 c.from.result (omega arith) (omega (arith, c.requires.short)) (omega (arith, c.requires.short)) in
    let room : length c.args.self.now + 6 + 1 ≤ g.row.CAP = c.requires.room in
    let size : length (take c.self.inside.len c.self.inside.bytes) ≡ c.self.inside.len = length-take-le _ _ (omega (arith, c.self.invariant)) in
    let same_size = same_len_mid c.self.inside.len (c.self.inside.len + 6 + 1 - c.self.inside.len) c.self.inside.bytes c.copy_from_slice.new.self c.copy_from_slice.ensures.len in
    (omega arith, omega (arith, same_size, c.self.told, ap length c.self.view_is))

pub returns-clause-bytes : goal.returns-clause-bytes
returns-clause-bytes g c =
    let i = c.self.invariant in
    let same : c.from.result ≡ c.args.number = c.from.ensures in
    let short : length (decimal c.from.result) ≤ 6 = length-decimal-le 6 c.from.result (omega arith) (omega (arith, c.requires.short)) (omega (arith, c.requires.short)) in
    let room : length c.args.self.now + 6 + 1 ≤ g.row.CAP = c.requires.room in
    let size : length (take c.self.inside.len c.self.inside.bytes) ≡ c.self.inside.len = length-take-le _ _ (omega arith) in
    field_is (take c.self.inside.len c.self.inside.bytes) c.copy_from_slice.new.self _ (decimal c.from.result) c.write_digits.new.buf c.self.inside.len c.write_digits.result _
    size (c.copy_from_slice.ensures.after ∙ c.as_bytes.ensures.value) (omega (arith, short, c.write_digits.ensures.start)) c.write_digits.ensures.start (omega arith) c.write_digits.ensures.written c.write_digits.ensures.before
    ∙ ap (λ q. q ++ number_field c.from.result) c.self.view_is
    ∙ ap (λ m. c.args.self.now ++ number_field m) c.from.ensures
