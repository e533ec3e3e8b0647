use Rattle.std.proofs.Common.{◌≡◌, ap, ◌∙◌, arith}
use Rattle.std.proofs.lemmas.List.{length-set}
use Rattle.std.proofs.lemmas.List.FromFn.{fill_by_all}
use Rattle.zp_model.specs.declared.constants.TheConstants.{ORDERS}
use Rattle.zp_share.specs.Commands.{zone_at}
use Rattle.zp_states.specs.Replays.{office_at}
use Rattle.zp_view.specs.Tables.{typed_blocks}
use Rattle.zp_pictures.proofs.Counted.{count_more}
use Rattle.zp_pictures.proofs.pagetypeinfo.free_of.Goals as goal

pub loop-number-preserved : goal.loop-number-preserved
loop-number-preserved c = record {
  long = omega (arith, length-set c.loop-number.by_order c.loop-number.number c.free_blocks.result, c.loop-number.invariant.long);
  counts =
      let area = (zone_at (office_at c.args.replay.now).zones c.args.zone).plain.area in
      let order : c.at.result ≡ c.loop-number.number = omega (arith, c.at.ensures) in
      count_more (λ k. typed_blocks area k c.args.kind) c.loop-number.by_order c.loop-number.number c.free_blocks.result (omega (arith, c.loop-number.invariant.long))
      (c.free_blocks.ensures ∙ ap (λ k. typed_blocks area k c.args.kind) order) c.loop-number.invariant.counts;
}

pub returns : goal.returns
returns c =
    let area = (zone_at (office_at c.args.replay.now).zones c.args.zone).plain.area in
    fill_by_all (λ k. typed_blocks area k c.args.kind) c.loop-number.by_order ORDERS 0 c.loop-number.invariant.long
    (λ k below. c.loop-number.invariant.counts k (omega (arith, c.loop-number-test.false)))
