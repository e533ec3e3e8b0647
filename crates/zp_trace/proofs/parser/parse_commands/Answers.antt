use Rattle.std.proofs.Common.{◌<◌, ◌++◌, List, [], ◌∷◌, length, length-append, refl, sym, ap, subst, ◌∙◌, arith}
use Rattle.std.proofs.lemmas.Bool.Decides.{nat_tests}
use Rattle.zp_trace.specs.declared.bounds.TheConstants.{MOST_LINES}
use Rattle.zp_trace.specs.Lines.{Line}
use Rattle.zp_trace.specs.Lines as line
use Rattle.zp_trace.specs.Spelling.{text_of, header_of}
use Rattle.zp_trace.specs.Grammar.{IsBeginning}
use Rattle.zp_trace.proofs.HeaderLines.{lines_with, read_more}
use Rattle.zp_trace.proofs.CommandLines.{lines_count, header_count, lines_more, no_commands}
use Rattle.zp_trace.proofs.BadLines.{line_of_fault, bad_command}
use Rattle.zp_trace.proofs.parser.parse_commands.Goals as goal

pub loop-rest-init : goal.loop-rest-init
loop-rest-init c =
    let h = c.args.header.now in
    let lines = no_commands h ∙ ap (lines_with h) (sym c.new-commands.ensures) in
    record {
      parts = ap (λ (ls : List Line). text_of ls ++ c.args.text.now) lines;
      allowed = subst IsBeginning lines c.requires.begins;
      few = omega (arith, ap length c.new-commands.ensures, header_count h, c.requires.header.few);
    }

pub returns-then-lines-eq-MOST_LINES-clause-bad : goal.returns-then-lines-eq-MOST_LINES-clause-bad
returns-then-lines-eq-MOST_LINES-clause-bad c n e =
    let h = c.args.header.now in
    let count = line_of_fault _ n e in
    bad_command h c.loop-rest.commands (text_of (header_of h) ++ c.args.text.now) c.loop-rest.rest.now n c.loop-rest.invariant.parts c.loop-rest.invariant.allowed (omega (arith, count, c.lines.ensures.same, c.len.ensures)) (λ empty. grind (arith, nat_tests, ap length empty))
    (λ few. absurd (omega (arith, lines_count h c.loop-rest.commands, few, c.lines.ensures.same, c.len.ensures, c.if-lines-eq-MOST_LINES.true)))

pub returns-in_default-clause-bad : goal.returns-in_default-clause-bad
returns-in_default-clause-bad c n e =
    let h = c.args.header.now in
    let count = line_of_fault _ n e in
    bad_command h c.loop-rest.commands (text_of (header_of h) ++ c.args.text.now) c.loop-rest.rest.now n c.loop-rest.invariant.parts c.loop-rest.invariant.allowed (omega (arith, count, c.lines.ensures.same, c.len.ensures)) (λ empty. grind (arith, nat_tests, ap length empty))
    (λ few. c.in_default.ensures.none)

pub loop-rest-preserved : goal.loop-rest-preserved
loop-rest-preserved c =
    let h = c.args.header.now in
    let cs = c.loop-rest.commands in
    let d = c.in-Some.command in
    let room : length (lines_with h cs) < MOST_LINES = omega (arith, lines_count h cs, c.lines.ensures.same, c.len.ensures, c.if-lines-eq-MOST_LINES.false, c.loop-rest.invariant.few) in
    let more = ap (lines_with h) c.in_ok-push.ensures.ok ∙ lines_more h cs d in
    let read = read_more _ _ (line.CommandLine d) _ _ _ more c.loop-rest.invariant.parts c.loop-rest.invariant.allowed c.in-Some.ensures.some.1 (record { header = h; commands = cs }, refl, room, c.in-Some.ensures.some.0) in
    record { parts = read.0; allowed = read.1; few = omega (arith, room, lines_count h cs, ap length c.in_ok-push.ensures.ok, length-append cs (d ∷ [])) }
