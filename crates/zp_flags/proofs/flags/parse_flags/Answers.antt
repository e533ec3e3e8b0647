use Rattle.std.proofs.Common.{◌≡◌, ◌≢◌, ◌∙◌, ap, ap₂, [], codes, map, rules, inl, inr, subst, true, false}
use Rattle.std.proofs.lemmas.List.Elements.{All-map}
use Rattle.clap.specs.declared.error.ErrorKind.TheVariants.{OutOfMemory}
use Rattle.clap.specs.Words.{App, IsAmong, app_of, kind_of, rule_of, with_rule, new_app, fault_of, is_simple, is_simple_and_free, count_of, matches_of}
use Rattle.zp_flags.proofs.CommandLine.{command, rule, Serial, Journal, command_simple, command_free, set_up, good_flags, bad_flags}
use Rattle.zp_flags.proofs.flags.parse_flags.Given.{Over}
use Rattle.zp_flags.proofs.flags.parse_flags.Goals as goal
use Rattle.zp_flags.proofs.flags.parse_flags.Goals.{After-try_get_matches_from}

command_is : (g : Over) (c : After-try_get_matches_from g) → app_of c.in_ok-command.command ≡ command
command_is g c =
    let bare : app_of c.disable_help_subcommand-bare.result ≡ set_up (new_app (codes "zonereplay")) = rw (c.disable_help_subcommand-bare.ensures, c.disable_version_flag.ensures, c.disable_help_flag.ensures, c.no_binary_name.ensures) (ap set_up c.new-3.ensures.app) in
    let first : rule_of c.action-serial.result ≡ rule Serial = search rules in
    let second : rule_of c.action-journal.result ≡ rule Journal = search rules in
    let one : app_of c.in_ok-one.one ≡ with_rule (set_up (new_app (codes "zonereplay"))) (rule Serial) = c.in_ok-one.ensures.shape (search rules) ∙ ap₂ with_rule bare first in
    c.in_ok-command.ensures.shape (search rules) ∙ ap₂ with_rule one second

pub returns-in-Ok : goal.returns-in-Ok
returns-in-Ok g c =
    let is = command_is g (goal.at.returns-in-Ok g c).After-try_get_matches_from in
    let words = map g.S.AsStr.text c.args.words.now in
    let ends = All-map (λ w. w ≢ codes "--") g.S.AsStr.text c.args.words.now c.requires in
    let none : fault_of command words ≡ [] = subst (λ (a : App). fault_of a words ≡ []) is (c.in-Ok.ensures.kinds (ap is_simple_and_free is ∙ command_free)) in
    let found = (c.in-Ok.ensures.matches (ap is_simple is ∙ command_simple)).0 ∙ ap (λ (a : App). matches_of a words) is in
    let serial : c.get_count-serial.result ≡ count_of (codes "serial") (matches_of command words) = c.get_count-serial.ensures.value ∙ ap (count_of (codes "serial")) found in
    let journal : c.get_count.result ≡ count_of (codes "journal") (matches_of command words) = c.get_count.ensures.value ∙ ap (count_of (codes "journal")) found in
    inl (c.flags_together.ensures ∙ good_flags words c.get_count-serial.result c.get_count.result ends none serial journal)

pub returns-in-Err-2 : goal.returns-in-Err-2
returns-in-Err-2 g c =
    let is = command_is g (goal.at.returns-in-Err-2 g c).After-try_get_matches_from in
    let words = map g.S.AsStr.text c.args.words.now in
    let error : c.in-Err.error ≡ c.in-Err-2.field-0 = cc in
    let k = kind_of c.in-Err-2.field-0 in
    elim (c.in-Err-2.ensures.kinds (ap is_simple_and_free is ∙ command_free)) [
      | inl memory ↦
          let kind : c.kind.result ≡ OutOfMemory = c.kind.ensures ∙ ap kind_of error ∙ memory in
          let bad : false ≡ true = rw kind at c.if-eq.ensures in
          cc
      | inr among ↦ inl (bad_flags words k (subst (λ (a : App). IsAmong k (fault_of a words)) is among))
    ]
