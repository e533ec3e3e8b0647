use Rattle.zp_zone.specs.Seats.{Agrees}
use Rattle.zp_journal.proofs.asking.ask.Goals as goal

pub answer-requires-clause-may : goal.answer-requires-clause-may
answer-requires-clause-may c =
    let agrees : Agrees c.check.new.self c.check.new.seat = rw (c.check.ensures.same.0, c.check.ensures.same.1) c.check.ensures.agrees in
    c.may_ask.ensures.seat agrees c.if-not-may_ask.false
