use Rattle.std.proofs.Common.{sym, ap, subst, ◌∙◌}
use Rattle.zp_trace.specs.declared.line.CommandLine.{CommandLine}
use Rattle.zp_trace.specs.Spelling.{spelled, command_words}
use Rattle.zp_trace.specs.Grammar.{HasLabel}
use Rattle.zp_trace.proofs.BadLines.{NoCommandLine}
use Rattle.zp_trace.proofs.WordLists.{at_none, command_are_words, front}
use Rattle.zp_trace.proofs.OneReading.{same_command}
use Rattle.zp_trace.proofs.parser.command_line.Goals as goal

pub returns-in_err-words-clause-none : goal.returns-in_err-words-clause-none
returns-in_err-words-clause-none c =
    at_none _ {P = NoCommandLine c.args.header.now c.args.before.now c.args.text.now} (λ d more is e. c.in_err-words.ensures.none (command_words d) more (command_are_words c.args.header.now d c.requires is.0) (front (command_words d) c.args.text.now more e))

pub returns-in_err-command-clause-none : goal.returns-in_err-command-clause-none
returns-in_err-command-clause-none c =
    at_none _ {P = NoCommandLine c.args.header.now c.args.before.now c.args.text.now} (λ d more is e.
    let only = c.in_ok-words.ensures.only (command_words d) more (command_are_words c.args.header.now d c.requires is.0) (front (command_words d) c.args.text.now more e) in
    c.in_err-command.ensures.none d is.0 (ap spelled c.deref.ensures.0 ∙ only.0))

pub returns-else-has_label-clause-none : goal.returns-else-has_label-clause-none
returns-else-has_label-clause-none c = λ d more is e.
    let only = c.in_ok-words.ensures.only (command_words d) more (command_are_words c.args.header.now d c.requires is.0) (front (command_words d) c.args.text.now more e) in
    let read = c.in_ok-command.ensures.some in
    let same = same_command c.args.header.now d c.in_ok-command.command c.requires is.0 read.0 (sym (ap spelled c.deref.ensures.0 ∙ only.0) ∙ read.1) in
    let yes = c.has_label.ensures.1 (subst (λ (f : CommandLine). HasLabel c.args.before.now f.worker f.call) same is.1) in
    cc
