-- The lines of a whole trace: a header, and commands after it.
use Rattle.std.proofs.Common.{◌≡◌, ◌+◌, List, [], ◌∷◌, ◌++◌, map, length, length-append, refl, sym, ap, subst, ◌∙◌, arith, append_assoc}
use Rattle.std.proofs.lemmas.List.{map-append, append-nil, length-map}
use Rattle.std.proofs.lemmas.List.Elements.{All-from_recursion}
use Rattle.std.specs.List.{All, AllByRecursion}
use Rattle.zp_trace.specs.declared.line.CommandLine.{CommandLine}
use Rattle.zp_trace.specs.declared.trace.Header.{Header}
use Rattle.zp_trace.specs.declared.trace.Trace.{Trace}
use Rattle.zp_trace.specs.Lines.{Line}
use Rattle.zp_trace.specs.Lines as line
use Rattle.zp_trace.specs.Spelling.{header_of}
use Rattle.zp_trace.specs.Grammar.{IsCommandOf, IsBeginning, lines_of}
use Rattle.zp_trace.proofs.HeaderLines.{up_to_workers, lines_with, lines_split}

-- lines are those of one trace at most
same_commands : (cs ds : List CommandLine) → map line.CommandLine cs ≡ map line.CommandLine ds → cs ≡ ds
same_commands [] [] e = refl
same_commands [] (d ∷ ds) e = cc
same_commands (c ∷ cs) [] e = cc
same_commands (c ∷ cs) (d ∷ ds) e =
    let first : c ≡ d = cc in
    let rest = same_commands cs ds cc in
    cc

pub same_trace : (t u : Trace) → lines_of t ≡ lines_of u → t ≡ u
same_trace t u e =
    let same = up_to_workers t.header.zones u.header.zones t.header.workers u.header.workers (line.Lists t.header.batch t.header.high ∷ map line.CommandLine t.commands) (line.Lists u.header.batch u.header.high ∷ map line.CommandLine u.commands) (sym (lines_split t.header t.commands) ∙ e ∙ lines_split u.header u.commands) in
    let zones = same.0 in
    let workers = same.1 in
    let after = same.2 in
    let batch : t.header.batch ≡ u.header.batch = cc in
    let high : t.header.high ≡ u.header.high = cc in
    let commands = same_commands t.commands u.commands cc in
    λ i. record { header = record { zones = zones i; workers = workers i; batch = batch i; high = high i }; commands = commands i }

pub lines_more : (h : Header) (cs : List CommandLine) (c : CommandLine) → lines_with h (cs ++ (c ∷ [])) ≡ lines_with h cs ++ (line.CommandLine c ∷ [])
lines_more h cs c = rw (map-append line.CommandLine cs (c ∷ [])) (sym (append_assoc (header_of h) (map line.CommandLine cs) (line.CommandLine c ∷ [])))

pub lines_count : (h : Header) (cs : List CommandLine) → length (lines_with h cs) ≡ length (header_of h) + length cs
lines_count h cs = omega (arith, length-append (header_of h) (map line.CommandLine cs), length-map cs line.CommandLine)

pub header_count : (h : Header) → length (header_of h) ≡ length h.zones + 2
header_count h =
    omega (arith, length-append (map line.Zone h.zones) (line.Workers h.workers ∷ line.Lists h.batch h.high ∷ []), length-map h.zones line.Zone)

pub no_commands : (h : Header) → header_of h ≡ lines_with h []
no_commands h = sym (append-nil (header_of h))

-- each command may be asked for after the header
each_after : (h : Header) (done cs : List CommandLine) → IsBeginning (lines_with h done ++ map line.CommandLine cs) → AllByRecursion (IsCommandOf h) cs
each_after h done [] begins = tt
each_after h done (c ∷ cs) begins =
    let next = begins (lines_with h done) (line.CommandLine c) (map line.CommandLine cs) refl in
    let trace = same_trace next.0 (record { header = h; commands = done }) (sym next.1) in
    let moved : lines_with h done ++ map line.CommandLine (c ∷ cs) ≡ lines_with h (done ++ (c ∷ [])) ++ map line.CommandLine cs = rw (lines_more h done c) (sym (append_assoc (lines_with h done) (line.CommandLine c ∷ []) (map line.CommandLine cs))) in
    (subst (λ (t : Trace). IsCommandOf t.header c) trace next.3.0, each_after h (done ++ (c ∷ [])) cs (rw moved at begins))

pub each_command : (h : Header) (cs : List CommandLine) → IsBeginning (lines_with h cs) → All (IsCommandOf h) cs
each_command h cs begins =
    All-from_recursion (IsCommandOf h) cs (each_after h [] cs (subst IsBeginning (ap (λ (ls : List Line). ls ++ map line.CommandLine cs) (no_commands h)) begins))
