use Rattle.std.proofs.Common.{ℕ, List, subst, arith}
use Rattle.zp_events.specs.Lines.{IsMark}
use Rattle.zp_events.proofs.Marks.{from_place, last_made}
use Rattle.zp_events.proofs.head.last_mark.Goals as goal

pub returns-in-Some-clause-some : goal.returns-in-Some-clause-some
returns-in-Some-clause-some c =
    (c.in-Some._rest.now, last_made c.args.text.now c.places.at _ c.in-Some.cpu c.in-Some._rest.now (omega arith) c.places.invariant.none (subst (λ (text : List ℕ). IsMark text c.in-Some.cpu c.in-Some._rest.now) (from_place c.args.text.now _) c.in-Some.ensures.some))
