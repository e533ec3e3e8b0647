use Rattle.std.proofs.Common.{arith, None, Some, get_or, ap, subst}
use Rattle.zp_model.specs.Entries.{Entry}
use Rattle.zp_journal.specs.Asking.{IsAnsweredWith}
use Rattle.zp_journal.proofs.Repeating.{no_worker, seats_count, seat_there, seats_after, answered_alike, not_answered}
use Rattle.zp_journal.proofs.replay.repeat.Goals as goal

pub returns-then-place-workers-clause-repeated : goal.returns-then-place-workers-clause-repeated
returns-then-place-workers-clause-repeated c = no_worker c.args.zone.now c.args.seats.now c.args.entry.now c.requires (omega arith)

pub ask-requires-clause-workers : goal.ask-requires-clause-workers
ask-requires-clause-workers c = seats_count c.args.zone.now c.args.seats.now c.requires

pub returns-in-Some-clause-repeated : goal.returns-in-Some-clause-repeated
returns-in-Some-clause-repeated c =
    let e = c.args.entry.now in
    let mine = seat_there c.args.zone.now c.args.seats.now c.from-place.result e.worker c.index-seats-place.result c.requires c.if-place-workers.false (omega (arith, c.from-place.ensures, c.number.ensures.same)) in
    answered_alike c.args.zone.now c.ask.new.zone _ e c.parts-request.result.2.now c.in-Some.reply _ c.is_same.result mine (ap (λ (x : Entry). x.reply) c.parts-request.ensures.same)
    (subst (λ r. IsAnsweredWith c.args.zone.now (get_or c.args.seats.now c.from-place.result c.index-seats-place.result).worker r c.parts-request.result.2.now (Some c.in-Some.reply) c.ask.new.zone) (ap (λ (x : Entry). x.request) c.parts-request.ensures.same) c.in-Some.ensures.answered)
    c.is_same.ensures

pub returns-in-Some-clause-seats : goal.returns-in-Some-clause-seats
returns-in-Some-clause-seats c =
    seats_after c.args.zone.now c.ask.new.zone c.args.seats.now c.from-place.result c.index-seats-place.result c.ask.new.seat _ _ (Some c.in-Some.reply)
    c.requires c.if-place-workers.false c.in-Some.ensures.answered c.in-Some.ensures.seat

pub returns-in-None-clause-repeated : goal.returns-in-None-clause-repeated
returns-in-None-clause-repeated c =
    let e = c.args.entry.now in
    let mine = seat_there c.args.zone.now c.args.seats.now c.from-place.result e.worker c.index-seats-place.result c.requires c.if-place-workers.false (omega (arith, c.from-place.ensures, c.number.ensures.same)) in
    not_answered c.args.zone.now c.ask.new.zone _ e c.parts-request.result.2.now c.parts-request.result.1 mine (ap (λ (x : Entry). x.reply) c.parts-request.ensures.same)
    (subst (λ r. IsAnsweredWith c.args.zone.now (get_or c.args.seats.now c.from-place.result c.index-seats-place.result).worker r c.parts-request.result.2.now None c.ask.new.zone) (ap (λ (x : Entry). x.request) c.parts-request.ensures.same) c.in-None.ensures.answered)

pub returns-in-None-clause-seats : goal.returns-in-None-clause-seats
returns-in-None-clause-seats c =
    seats_after c.args.zone.now c.ask.new.zone c.args.seats.now c.from-place.result c.index-seats-place.result c.ask.new.seat _ _ None
    c.requires c.if-place-workers.false c.in-None.ensures.answered c.in-None.ensures.seat
