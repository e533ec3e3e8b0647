use Rattle.std.proofs.Common.{◌∙◌, sym, arith, length}
use Rattle.std.specs.List.{range_with_len}
use Rattle.std.proofs.lemmas.List.{ext_get_or}
use Rattle.std.proofs.lemmas.List.FromFn.{get_or-range_with_len, length-range_with_len}
use Rattle.zp_zone.proofs.untied_zone.parts.put_pages.Goals as goal

pub returns : goal.returns
returns c =
    let n = length c.args.pages.now in
    ext_get_or 0 c.loop-page.pages (range_with_len c.args.first n) (omega (arith, c.loop-page.auto.pages, length-range_with_len c.args.first n))
    (λ k lt. c.loop-page.invariant.1 k (omega (arith, lt, c.loop-page-test.false, c.loop-page.auto.pages)) ∙ sym (get_or-range_with_len c.args.first n k 0 (omega (arith, lt, c.loop-page.auto.pages))))
