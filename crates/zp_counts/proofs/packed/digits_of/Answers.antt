use Rattle.std.proofs.Common.{sym, ◌∙◌, arith, length-set}
use Rattle.zp_counts.proofs.Digits.{digits_all, digits_step}
use Rattle.zp_counts.proofs.packed.digits_of.Goals as goal

pub loop-place-preserved : goal.loop-place-preserved
loop-place-preserved g c =
    let i = c.loop-place.invariant in
    record {
      within = omega (arith, c.loop-place-test.true);
      long = length-set _ _ _ ∙ i.long;
      all = digits_step c.args.base c.loop-place.rest c.loop-place.place g.row.N c.loop-place.digits c.loop-place-test.true i.long ∙ i.all;
    }

pub returns : goal.returns
returns g c =
    let i = c.loop-place.invariant in
    sym (digits_all c.args.base c.loop-place.rest c.loop-place.place g.row.N c.loop-place.digits (omega (arith, c.loop-place-test.false)) i.within i.long) ∙ i.all
