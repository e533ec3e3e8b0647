-- Where no line that may stand next stands, the next line is the bad one.
use Rattle.std.proofs.Common.{ℕ, ◌≡◌, ◌<◌, ◌+◌, List, [], ◌∷◌, ◌++◌, map, length, length-append, sym, ap, subst, ◌∙◌, arith, Result, Err}
use Rattle.std.proofs.lemmas.List.{length-map}
use Rattle.zp_model.specs.Bounds.{IsCrew, AreLists}
use Rattle.zp_trace.specs.declared.bounds.TheConstants.{MOST_LINES}
use Rattle.zp_trace.specs.declared.line.ZoneLine.{ZoneLine}
use Rattle.zp_trace.specs.declared.line.CommandLine.{CommandLine}
use Rattle.zp_trace.specs.declared.trace.Header.{Header}
use Rattle.zp_trace.specs.declared.trace.Trace.{Trace}
use Rattle.zp_trace.specs.declared.trace.TraceFault.{TraceFault}
use Rattle.zp_trace.specs.declared.trace.TraceFault.TheVariants as fault
use Rattle.zp_trace.specs.Lines.{Line}
use Rattle.zp_trace.specs.Lines as line
use Rattle.zp_trace.specs.Spelling.{line_text, text_of, header_of}
use Rattle.zp_trace.specs.Grammar.{IsNextZone, IsNextCommand, IsAllowedAfter, IsBeginning, IsBadLine, lines_of}
use Rattle.zp_trace.proofs.HeaderLines.{zones_alone, no_workers_yet, up_to_workers, lines_with, lines_split}
use Rattle.zp_trace.proofs.CommandLines.{same_trace, lines_count}

-- no line that may stand after these begins the rest
abbrev NoLine : List Line → List ℕ → Type 0
NoLine before rest = (l : Line) (more : List ℕ) → IsAllowedAfter before l → rest ≡ line_text l ++ more → ⊥

abbrev pub NoZoneLine : List ZoneLine → List ℕ → Type 0
NoZoneLine zs rest =
    (z : ZoneLine) (more : List ℕ) → IsNextZone zs z → rest ≡ line_text (line.Zone z) ++ more → ⊥

abbrev pub NoWorkersLine : List ℕ → Type 0
NoWorkersLine rest = (n : ℕ) (more : List ℕ) → IsCrew n → rest ≡ line_text (line.Workers n) ++ more → ⊥

abbrev pub NoListsLine : List ℕ → Type 0
NoListsLine rest =
    (batch high : ℕ) (more : List ℕ) → AreLists batch high → rest ≡ line_text (line.Lists batch high) ++ more → ⊥

abbrev pub NoCommandLine : Header → List CommandLine → List ℕ → Type 0
NoCommandLine h cs rest =
    (c : CommandLine) (more : List ℕ) → IsNextCommand h cs c → rest ≡ line_text (line.CommandLine c) ++ more → ⊥

-- the lines of a trace are more than zones, and more than its zones and workers
pub zones_are_no_trace : (zs : List ZoneLine) (t : Trace) → map line.Zone zs ≡ lines_of t → ⊥
zones_are_no_trace zs t e =
    no_workers_yet zs t.header.zones t.header.workers (line.Lists t.header.batch t.header.high ∷ map line.CommandLine t.commands) (e ∙ lines_split t.header t.commands)

pub workers_are_no_trace : (zs : List ZoneLine) (n : ℕ) (t : Trace) → map line.Zone zs ++ (line.Workers n ∷ []) ≡ lines_of t → ⊥
workers_are_no_trace zs n t e =
    let after = (up_to_workers zs t.header.zones n t.header.workers [] (line.Lists t.header.batch t.header.high ∷ map line.CommandLine t.commands) (e ∙ lines_split t.header t.commands)).2 in
    cc

no_second : (zs : List ZoneLine) (rest : List ℕ) → NoZoneLine zs rest → (0 < length zs → NoWorkersLine rest) → NoLine (map line.Zone zs) rest
no_second zs rest zone workers (line.Zone z) more allowed e =
    zone z more (subst (λ (ws : List ZoneLine). IsNextZone ws z) (sym (zones_alone zs allowed.0 allowed.1)) allowed.2) e
no_second zs rest zone workers (line.Workers n) more allowed e =
    workers (omega (arith, allowed.2, ap length (zones_alone zs allowed.0 allowed.1))) n more allowed.3 e
no_second zs rest zone workers (line.Lists batch high) more allowed e =
    no_workers_yet zs allowed.0 allowed.1 [] allowed.2
no_second zs rest zone workers (line.CommandLine c) more allowed e = zones_are_no_trace zs allowed.0 allowed.1

no_third : (zs : List ZoneLine) (n : ℕ) (rest : List ℕ) → NoListsLine rest → NoLine (map line.Zone zs ++ (line.Workers n ∷ [])) rest
no_third zs n rest none (line.Zone z) more allowed e = no_workers_yet allowed.0 zs n [] (sym allowed.1)
no_third zs n rest none (line.Workers m) more allowed e = no_workers_yet allowed.0 zs n [] (sym allowed.1)
no_third zs n rest none (line.Lists batch high) more allowed e = none batch high more allowed.3 e
no_third zs n rest none (line.CommandLine c) more allowed e = workers_are_no_trace zs n allowed.0 allowed.1

-- a worker line may stand next only if there are not too many lines
no_command : (h : Header) (cs : List CommandLine) (rest : List ℕ) → (length (lines_with h cs) < MOST_LINES → NoCommandLine h cs rest) → NoLine (lines_with h cs) rest
no_command h cs rest none (line.Zone z) more allowed e =
    zones_are_no_trace allowed.0 (record { header = h; commands = cs }) (sym allowed.1)
no_command h cs rest none (line.Workers n) more allowed e =
    zones_are_no_trace allowed.0 (record { header = h; commands = cs }) (sym allowed.1)
no_command h cs rest none (line.Lists batch high) more allowed e =
    workers_are_no_trace allowed.0 allowed.1 (record { header = h; commands = cs }) (sym allowed.2)
no_command h cs rest none (line.CommandLine c) more allowed e =
    let trace = same_trace allowed.0 (record { header = h; commands = cs }) (sym allowed.1) in
    none allowed.2 c more (subst (λ (t : Trace). IsNextCommand t.header t.commands c) trace allowed.3) e

-- which line a fault says
pub line_of_fault : {T : Type 0} (m n : ℕ) → ◌≡◌ {A = Result T TraceFault} (Err (fault.BadLine m)) (Err (fault.BadLine n)) → m ≡ n
line_of_fault m n e = cc

-- after zones
pub bad_second : (zs : List ZoneLine) (text rest : List ℕ) (n : ℕ) → text ≡ text_of (map line.Zone zs) ++ rest → IsBeginning (map line.Zone zs) → n ≡ length zs + 1 → NoZoneLine zs rest → (0 < length zs → NoWorkersLine rest) → IsBadLine text n
bad_second zs text rest n e begins count zone workers = record {
  before = map line.Zone zs;
  allowed = begins;
  number = omega (arith, count, length-map zs line.Zone);
  rest = rest;
  parts = e;
  bad = no_second zs rest zone workers;
  unfinished = λ empty t whole. zones_are_no_trace zs t whole;
}

-- after zones and workers
pub bad_third : (zs : List ZoneLine) (workers : ℕ) (text rest : List ℕ) (n : ℕ) → text ≡ text_of (map line.Zone zs ++ (line.Workers workers ∷ [])) ++ rest → IsBeginning (map line.Zone zs ++ (line.Workers workers ∷ [])) → n ≡ length zs + 2 → NoListsLine rest → IsBadLine text n
bad_third zs workers text rest n e begins count none = record {
  before = map line.Zone zs ++ (line.Workers workers ∷ []);
  allowed = begins;
  number = omega (arith, count, length-map zs line.Zone, length-append (map line.Zone zs) (line.Workers workers ∷ []));
  rest = rest;
  parts = e;
  bad = no_third zs workers rest none;
  unfinished = λ empty t whole. workers_are_no_trace zs workers t whole;
}

-- after a header and commands
pub bad_command : (h : Header) (cs : List CommandLine) (text rest : List ℕ) (n : ℕ) → text ≡ text_of (lines_with h cs) ++ rest → IsBeginning (lines_with h cs) → n ≡ length (header_of h) + length cs + 1 → (rest ≡ [] → ⊥) → (length (lines_with h cs) < MOST_LINES → NoCommandLine h cs rest) → IsBadLine text n
bad_command h cs text rest n e begins count more none = record {
  before = lines_with h cs;
  allowed = begins;
  number = count ∙ ap (λ (m : ℕ). m + 1) (sym (lines_count h cs));
  rest = rest;
  parts = e;
  bad = no_command h cs rest none;
  unfinished = λ empty. absurd (more empty);
}
