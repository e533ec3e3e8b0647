use Rattle.std.proofs.Common.{◌≡◌, ◌<◌, length, arith}
use Rattle.std.proofs.lemmas.Bool.Decides.{nat_tests}
use Rattle.zp_events.specs.Lines.{IsNamed, IsSpacedName}
use Rattle.zp_events.proofs.Options.{at_none, some_weaker, none_weaker}
use Rattle.zp_events.proofs.Marks.{NoSpacedName, none_spaced, none_unspaced, none_in_spaces, spaced_made}
use Rattle.zp_events.proofs.head.spaced_name.Goals as goal

pub returns-in_err-spaces-clause-none : goal.returns-in_err-spaces-clause-none
returns-in_err-spaces-clause-none c =
    at_none _ {P = NoSpacedName c.args.text.now} (none_in_spaces c.args.text.now c.in_err-spaces.ensures.none)

pub returns-then-is_empty-clause-none : goal.returns-then-is_empty-clause-none
returns-then-is_empty-clause-none c =
    let none : length c.in_ok-spaces.spaces.now ≡ 0 = grind (arith, nat_tests, c.if-is_empty.ensures) in
    none_unspaced c.args.text.now c.in_ok-spaces.spaces.now c.in_ok-spaces.named.now c.in_ok-spaces.ensures.some.0 none c.in_ok-spaces.ensures.word

pub returns-clause-some : goal.returns-clause-some
returns-clause-some c =
    let some : 0 < length c.in_ok-spaces.spaces.now = grind (arith, nat_tests, c.if-is_empty.ensures) in
    some_weaker c.event_name.result {P = λ x. IsNamed c.in_ok-spaces.named.now x.0 x.1.now} {Q = λ x. IsSpacedName c.args.text.now x.0 x.1.now}
    (λ x is. spaced_made c.args.text.now c.in_ok-spaces.spaces.now c.in_ok-spaces.named.now x.0 x.1.now c.in_ok-spaces.ensures.some.0 c.in_ok-spaces.ensures.some.1 some is) c.event_name.ensures.some

pub returns-clause-none : goal.returns-clause-none
returns-clause-none c =
    none_weaker c.event_name.result {Q = NoSpacedName c.args.text.now}
    (none_spaced c.args.text.now c.in_ok-spaces.spaces.now c.in_ok-spaces.named.now c.in_ok-spaces.ensures.some.0 c.in_ok-spaces.ensures.some.1 c.in_ok-spaces.ensures.word) c.event_name.ensures.none
