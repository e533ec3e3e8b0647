use Rattle.std.proofs.Common.{◌≡◌, ◌<◌, [], ◌∷◌, ◌++◌, length, map, append_assoc, refl, sym, ap, arith}
use Rattle.zp_trace.specs.Lines as line
use Rattle.zp_trace.specs.Spelling.{text_of}
use Rattle.zp_trace.specs.Grammar.{IsBeginning}
use Rattle.zp_trace.proofs.HeaderLines.{header_is, read_more}
use Rattle.zp_trace.proofs.CommandLines.{no_commands}
use Rattle.zp_trace.proofs.BadLines.{line_of_fault, bad_second, bad_third}
use Rattle.zp_trace.proofs.parser.parse_header.Goals.{In-Some}
use Rattle.zp_trace.proofs.parser.parse_header.Goals as goal

pub returns-in_default-clause-bad : goal.returns-in_default-clause-bad
returns-in_default-clause-bad c n e =
    let number = line_of_fault _ n e in
    let zs = c.in_ok-zones.zones in
    let rest = c.in_ok-zones.rest.now in
    bad_second zs c.args.text.now rest n c.in_ok-zones.ensures.zones.1 c.in_ok-zones.ensures.zones.0 (omega (arith, number, ap length c.as_slice.ensures.same)) c.in_ok-zones.ensures.all (λ some. c.in_default.ensures.none)

-- the lines up to the workers line
up_to_workers : (c : In-Some) → (c.args.text.now ≡ text_of (map line.Zone c.in_ok-zones.zones ++ (line.Workers c.in-Some.workers ∷ [])) ++ c.in-Some.rest.now) × IsBeginning (map line.Zone c.in_ok-zones.zones ++ (line.Workers c.in-Some.workers ∷ []))
up_to_workers c =
    let some : 0 < length c.in_ok-zones.zones = omega (arith, c.if-lines-eq0.false, ap length c.as_slice.ensures.same) in
    read_more _ _ (line.Workers c.in-Some.workers) _ _ _ refl c.in_ok-zones.ensures.zones.1 c.in_ok-zones.ensures.zones.0 c.in-Some.ensures.some.1 (c.in_ok-zones.zones, refl, some, c.in-Some.ensures.some.0)

pub returns-in_default-lists_line-clause-bad : goal.returns-in_default-lists_line-clause-bad
returns-in_default-lists_line-clause-bad c n e =
    let read = up_to_workers (goal.at.returns-in_default-lists_line-clause-bad c).In-Some in
    bad_third c.in_ok-zones.zones c.in-Some.workers c.args.text.now c.in-Some.rest.now n read.0 read.1 (omega (arith, line_of_fault _ n e, ap length c.as_slice.ensures.same)) c.in_default-lists_line.ensures.none

pub returns-clause-good : goal.returns-clause-good
returns-clause-good c =
    let read = up_to_workers (goal.at.returns-clause-good c).In-Some in
    let zs = c.in_ok-zones.zones in
    let lists = line.Lists c.in-Some-lists_line.batch c.in-Some-lists_line.high in
    let whole = read_more _ _ lists _ _ _ (sym (append_assoc (map line.Zone zs) (line.Workers c.in-Some.workers ∷ []) (lists ∷ []))) read.0 read.1 c.in-Some-lists_line.ensures.some.1 (zs, c.in-Some.workers, refl, c.in-Some-lists_line.ensures.some.0) in
    (whole.1, whole.0)

pub returns-clause-header : goal.returns-clause-header
returns-clause-header c = header_is _ [] (rw no_commands at (returns-clause-good c).0)
