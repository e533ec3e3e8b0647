use Rattle.std.proofs.Common.{inl}
use Rattle.zp_events.proofs.Texts.{told_ok}
use Rattle.zp_events.proofs.text.take_line.Goals as goal

pub returns-in-Event-clause-taken : goal.returns-in-Event-clause-taken
returns-in-Event-clause-taken g c =
    told_ok c.event.result c.told.result c.told.ensures (λ carried. inl (c.in-Event.event, (c.read_line.ensures.event c.in-Event.event).0 c.in-Event.is, carried)) c.event.ensures.carried
