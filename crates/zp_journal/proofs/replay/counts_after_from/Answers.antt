use Rattle.std.proofs.Common.{refl, arith}
use Rattle.zp_journal.proofs.FirstEntries.{not_counted}
use Rattle.zp_journal.proofs.replay.counts_after_from.Goals as goal

pub returns : goal.returns
returns c =
    let told = c.in-Some.ensures.repeated in
    not_counted c.args.zone.plain c.args.zone.plain c.args.journal.now.entries c.args.place c.in-Some.field-0 refl (omega (arith, told.0)) (told.1).0
