use Rattle.std.proofs.Common.{sym, ap, subst, ◌∙◌}
use Rattle.zp_trace.specs.declared.line.ZoneLine.{ZoneLine}
use Rattle.zp_trace.specs.Spelling.{spelled, zone_words}
use Rattle.zp_trace.specs.Grammar.{IsNextZone}
use Rattle.zp_trace.proofs.BadLines.{NoZoneLine}
use Rattle.zp_trace.proofs.OneReading.{same_zone}
use Rattle.zp_trace.proofs.WordLists.{at_none, zone_are_words, front}
use Rattle.zp_trace.proofs.parser.zone_line.Goals as goal

pub returns-in_err-words-clause-none : goal.returns-in_err-words-clause-none
returns-in_err-words-clause-none c =
    at_none _ {P = NoZoneLine c.args.before.now c.args.text.now} (λ z more is e. c.in_err-words.ensures.none (zone_words z) more (zone_are_words z is.1) (front (zone_words z) c.args.text.now more e))

pub returns-in_err-zone-clause-none : goal.returns-in_err-zone-clause-none
returns-in_err-zone-clause-none c =
    at_none _ {P = NoZoneLine c.args.before.now c.args.text.now} (λ z more is e.
    let only = c.in_ok-words.ensures.only (zone_words z) more (zone_are_words z is.1) (front (zone_words z) c.args.text.now more e) in
    c.in_err-zone.ensures.none z is.1 (ap spelled c.deref.ensures.0 ∙ only.0))

pub returns-else-may_follow-clause-none : goal.returns-else-may_follow-clause-none
returns-else-may_follow-clause-none c = λ z more is e.
    let only = c.in_ok-words.ensures.only (zone_words z) more (zone_are_words z is.1) (front (zone_words z) c.args.text.now more e) in
    let read = c.in_ok-zone.ensures.some in
    let same = same_zone z c.in_ok-zone.zone is.1 read.0 (sym (ap spelled c.deref.ensures.0 ∙ only.0) ∙ read.1) in
    let next = subst (λ (w : ZoneLine). IsNextZone c.args.before.now w) same is in
    let yes = c.may_follow.ensures.1 (next.0, next.2) in
    cc
