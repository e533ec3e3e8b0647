use Rattle.std.proofs.Common.{◌∙◌, sym, arith, length, replicate}
use Rattle.std.proofs.lemmas.List.{ext_get_or, get_or-replicate, length-replicate}
use Rattle.zp_table.specs.Entries.{blank}
use Rattle.zp_table.proofs.table.write_each.Goals as goal

pub returns : goal.returns
returns c =
    let n = length c.args.entries.now in
    ext_get_or blank c.loop-it.entries (replicate n c.args.entry) (omega (arith, c.loop-it.auto.entries, length-replicate n c.args.entry))
    (λ k lt. c.loop-it.invariant k (omega (arith, lt, c.loop-it-test.false, c.loop-it.auto.entries)) ∙ sym (get_or-replicate n k c.args.entry blank (omega (arith, lt, c.loop-it.auto.entries))))
