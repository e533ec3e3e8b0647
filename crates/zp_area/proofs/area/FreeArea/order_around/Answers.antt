use Rattle.std.proofs.Common.{◌≡◌, inl, inr, arith}
use Rattle.std.proofs.lemmas.Bool.{cases_eq, false_from_ne_true}
use Rattle.zp_model.specs.Block.{head}
use Rattle.zp_model.proofs.Covers.{cover-to}
use Rattle.zp_model.proofs.Heads.{head_self}
use Rattle.zp_area.specs.Blocks.{block_set}
use Rattle.zp_area.proofs.area.FreeArea.order_around.Goals as goal

pub returns-in-Some-clause-some : goal.returns-in-Some-clause-some
returns-in-Some-clause-some c =
    let st = c.in-Some.ensures.some in
    rw (head_self c.args.at c.in-Some.headed (c.pages-pages.ensures.one.blocks.block c.args.at c.in-Some.headed st).aligned) st

pub returns-in_default-order_above-clause-none : goal.returns-in_default-order_above-clause-none
returns-in_default-order_above-clause-none c = false_from_ne_true _ (λ on.
    let w = cover-to (block_set c.args.self.now) c.args.at on in
    elim (cases_eq w.0 0) [
      | inl zero ↦
          let own : head c.args.at w.0 ≡ c.args.at = rw zero (head_self c.args.at 0 (omega arith)) in
          c.in_default.ensures.none w.0 (rw own at w.1)
      | inr ne ↦ c.in_default-order_above.ensures.none w.0 (omega (arith, c.zero.ensures)) w.1
    ])
