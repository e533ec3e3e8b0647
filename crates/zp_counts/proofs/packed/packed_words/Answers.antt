use Rattle.std.proofs.Common.{◌+◌, ◌*◌, [], ◌∷◌, ◌∙◌, arith, rules}
use Rattle.zp_model.specs.declared.constants.TheConstants.{ORDERS}
use Rattle.zp_counts.specs.declared.packed.TheConstants.{WIDE, MIDDLE, NARROW}
use Rattle.zp_counts.specs.Packing.{packed_in}
use Rattle.zp_counts.proofs.Digits.{orders_low, packed_back}
use Rattle.zp_counts.proofs.packed.packed_words.Goals as goal

pub number_of-requires-clause-digits : goal.number_of-requires-clause-digits
number_of-requires-clause-digits c = orders_low c.args.counts.now 0 2 2 WIDE (omega arith) c.requires.1

pub number_of-requires-2-clause-digits : goal.number_of-requires-2-clause-digits
number_of-requires-2-clause-digits c = orders_low c.args.counts.now 2 4 6 MIDDLE (omega arith) c.requires.2

pub number_of-requires-3-clause-digits : goal.number_of-requires-3-clause-digits
number_of-requires-3-clause-digits c = orders_low c.args.counts.now 6 5 ORDERS NARROW (omega arith) c.requires.3

pub returns-clause-back : goal.returns-clause-back
returns-clause-back c =
    (λ j. packed_in ((c.number_of.ensures.number j * WIDE + c.from.ensures j) ∷ c.number_of-2.ensures.number j ∷ c.number_of-3.ensures.number j ∷ []))
    ∙ packed_back c.args.counts.now (search rules) c.requires
