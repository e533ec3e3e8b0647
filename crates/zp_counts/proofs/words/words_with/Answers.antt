use Rattle.std.proofs.Common.{[], ◌∷◌, ◌∙◌, sym, ap, arith}
use Rattle.zp_model.specs.declared.constants.TheConstants.{ORDERS}
use Rattle.zp_counts.specs.Packing.{paired_in, pairs_of}
use Rattle.zp_counts.proofs.CountLists.{each_element}
use Rattle.zp_counts.proofs.Digits.{paired_back}
use Rattle.zp_counts.proofs.words.words_with.Goals as goal

pub returns-clause-words : goal.returns-clause-words
returns-clause-words c =
    (λ j. c.pair.ensures j ∷ (c.pair-2.ensures j ∷ (c.pair-3.ensures j ∷ (c.pair-4.ensures j ∷ (c.pair-5.ensures j ∷ (c.pair-6.ensures j ∷ []))))))
    ∙ ap (λ l. pairs_of (c.args.free ∷ l)) (sym (each_element c.args.by_order.now 0 ORDERS (omega (arith, c.told-by_order))))

pub returns-clause-back : goal.returns-clause-back
returns-clause-back c = ap paired_in (returns-clause-words c) ∙ paired_back c.args.by_order.now c.args.free c.told-by_order c.fits-by_order c.ranges.free.fits
