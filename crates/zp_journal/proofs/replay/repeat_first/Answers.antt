use Rattle.std.proofs.Common.{arith}
use Rattle.zp_journal.proofs.Replayed.{replayed_more, first_illegal, left_at, gone_none}
use Rattle.zp_journal.proofs.replay.repeat_first.Goals as goal

pub returns-then-not-repeat-clause-repeated : goal.returns-then-not-repeat-clause-repeated
returns-then-not-repeat-clause-repeated c =
    let told = c.if-not-repeat.ensures.repeated in
    let was = c.loop-number.invariant.found in (
      omega arith,
      (
        first_illegal c.args.zone.now c.args.journal.now.entries c.loop-number.number _ _ c.entry.result.now c.loop-number.zone
            (omega arith) (omega arith) (omega arith) c.entry.ensures was told.0,
        left_at c.args.zone.now c.args.journal.now.entries c.loop-number.number _ _ c.entry.result.now c.loop-number.zone c.repeat.new.zone
            (omega arith) (omega arith) c.entry.ensures was told.1,
      ),
    )

pub loop-number-init : goal.loop-number-init
loop-number-init c = record { found = gone_none c.args.zone.now c.args.journal.now.entries; seats = c.requires.seats }

pub loop-number-preserved : goal.loop-number-preserved
loop-number-preserved c =
    let told = c.if-not-repeat.ensures.repeated in
    record {
      found =
          replayed_more c.args.zone.now c.args.journal.now.entries c.loop-number.number _ c.entry.result.now c.loop-number.zone c.repeat.new.zone
          (omega arith) (omega arith) c.entry.ensures c.loop-number.invariant.found told.0 told.1;
      seats = c.if-not-repeat.ensures.seats;
    }
