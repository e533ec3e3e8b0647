-- No line of a trace has more than 40 bytes, and no trace more than 4,096 lines.
use Rattle.std.proofs.Common.{ℕ, ◌+◌, ◌*◌, ◌≡◌, ◌≤◌, ◌<◌, Option, Some, None, IfSome, List, [], ◌∷◌, ◌++◌, length, map, codes, refl, sym, ap, subst, ◌∙◌, append_assoc, arith, length-append}
use Rattle.std.specs.Fmt.{decimal}
use Rattle.std.proofs.lemmas.Fmt.{length-decimal-le}
use Rattle.std.proofs.lemmas.List.{append-nil, length-map}
use Rattle.zp_model.specs.declared.migrate_type.MigrateType.{MigrateType}
use Rattle.zp_model.specs.declared.migrate_type.MigrateType.TheVariants.{Unmovable, Reclaimable, Movable}
use Rattle.zp_model.specs.declared.mark.Mark.{Mark}
use Rattle.zp_model.specs.declared.mark.Mark.TheVariants as mark
use Rattle.zp_model.specs.Bounds.{IsCrew, IsLargest, AreLists}
use Rattle.zp_model.specs.declared.constants.TheConstants.{LARGEST_ORDER, NARROW_PAGES, MAX_WORKERS, NARROW_BASE_LIMIT, LONGEST_NAME}
use Rattle.zp_trace.specs.declared.bounds.TheConstants.{LARGEST_PAGEBLOCK, MOST_LINES}
use Rattle.zp_trace.specs.declared.line.ZoneLine.{ZoneLine}
use Rattle.zp_trace.specs.declared.line.Call.{Call}
use Rattle.zp_trace.specs.declared.line.Call.TheVariants.{Info, Alloc, Low, Free, Post, Collect, Drain, Isolate, Release}
use Rattle.zp_trace.specs.declared.line.CommandLine.{CommandLine}
use Rattle.zp_trace.specs.declared.trace.Header.{Header}
use Rattle.zp_trace.specs.declared.trace.Trace.{Trace}
use Rattle.zp_trace.specs.Lines.{Line}
use Rattle.zp_trace.specs.Lines as line
use Rattle.zp_trace.specs.Spelling.{space, line_feed, joined, largest_words, kind_word, call_words, header_of, mark_word, line_text, text_of}
use Rattle.zp_trace.specs.Grammar.{IsZoneLine, IsHeader, IsDeclared, IsCallOf, IsCommandOf, IsAllowedAfter, IsBeginning, lines_of}
use Rattle.zp_trace.proofs.HeaderLines.{header_is, zones_are_few}

-- the bytes of words with one byte more after each
abbrev spaced : List (List ℕ) → ℕ
spaced [] = 0
spaced (w ∷ ws) = (length w + 1) + spaced ws

length-joined : (w : List ℕ) (ws : List (List ℕ)) → length (joined (w ∷ ws)) + 1 ≡ spaced (w ∷ ws)
length-joined w [] = omega arith
length-joined w (v ∷ ws) =
    let rest = length-joined v ws in
    omega (arith, length-append w (space ∷ joined (v ∷ ws)))

length-line : (w : List ℕ) (ws : List (List ℕ)) → length (joined (w ∷ ws) ++ line_feed ∷ []) ≡ spaced (w ∷ ws)
length-line w ws = omega (arith, length-append (joined (w ∷ ws)) (line_feed ∷ []), length-joined w ws)

order_short : (k : ℕ) → k ≤ LARGEST_ORDER → length (decimal k) ≤ 2
order_short k le = length-decimal-le 2 k (omega arith) (omega arith) (omega arith)

-- the word of a largest order and the space before it
largest_short : (named : Option ℕ) → IfSome named IsLargest → spaced (largest_words named) ≤ 3
largest_short None is = omega arith
largest_short (Some m) is = omega (arith, order_short m is.1)

pageblock_short : (b : ℕ) → b ≤ LARGEST_PAGEBLOCK → length (decimal b) ≤ 5
pageblock_short b le = length-decimal-le 5 b (omega arith) (omega arith) (omega arith)

zone_short : (z : ZoneLine) → IsZoneLine z → length (line_text (line.Zone z)) ≤ 40
zone_short z is =
    let name : length z.name ≤ LONGEST_NAME = is.0.1 in
    let base : z.base ≤ NARROW_BASE_LIMIT = is.1.1 in
    let pages : z.pages ≤ NARROW_PAGES = is.2.1 in
    let min : z.min ≤ z.pages = is.3 in
    let b : length (decimal z.base) ≤ 8 = length-decimal-le 8 z.base (omega arith) (omega arith) (omega arith) in
    let p : length (decimal z.pages) ≤ 5 = length-decimal-le 5 z.pages (omega arith) (omega arith) (omega arith) in
    let m : length (decimal z.min) ≤ 5 = length-decimal-le 5 z.min (omega arith) (omega arith) (omega arith) in
    omega (arith, largest_short z.largest is.4, length-line (codes "zone") (z.name ∷ decimal z.base ∷ decimal z.pages ∷ decimal z.min ∷ largest_words z.largest))

worker_short : (w : ℕ) → w ≤ MAX_WORKERS → length (decimal w) ≤ 2
worker_short w le = length-decimal-le 2 w (omega arith) (omega arith) (omega arith)

workers_short : (n : ℕ) → IsCrew n → length (line_text (line.Workers n)) ≤ 40
workers_short n is = omega (arith, worker_short n is.1, length-line (codes "workers") (decimal n ∷ []))

lists_short : (batch high : ℕ) → AreLists batch high → length (line_text (line.Lists batch high)) ≤ 40
lists_short batch high is =
    let b : length (decimal batch) ≤ 2 = length-decimal-le 2 batch (omega arith) (omega (arith, is.most)) (omega arith) in
    let h : length (decimal high) ≤ 2 = length-decimal-le 2 high (omega arith) (omega (arith, is.longest)) (omega arith) in
    omega (arith, length-line (codes "lists") (decimal batch ∷ decimal high ∷ []))

length-kind_word : (kind : MigrateType) → length (kind_word kind) ≡ 1
length-kind_word Unmovable = refl
length-kind_word Reclaimable = refl
length-kind_word Movable = refl

length-mark_word : (m : Mark) → length (mark_word m) ≡ 3
length-mark_word mark.Low = refl
length-mark_word mark.Min = refl
length-mark_word mark.Any = refl

-- a declared zone has a name
declared_short : (h : Header) (name : List ℕ) → IsHeader h → IsDeclared h name → length name ≤ LONGEST_NAME
declared_short h name good is =
    let z = subst IsZoneLine is.3 (good.zones is.0 is.1 is.2) in
    omega (arith, z.0.1, ap length is.4)

call_short : (h : Header) (worker : ℕ) (call : Call) → IsHeader h → worker < h.workers → IsCallOf h call → spaced (decimal worker ∷ call_words call) ≤ 40
call_short h worker Info good at is =
    let w : length (decimal worker) ≤ 2 = worker_short worker (omega (arith, good.workers.1)) in
    omega arith
call_short h worker Drain good at is =
    let w : length (decimal worker) ≤ 2 = worker_short worker (omega (arith, good.workers.1)) in
    omega arith
call_short h worker (Alloc label order kind zone m) good at is =
    let w : length (decimal worker) ≤ 2 = worker_short worker (omega (arith, good.workers.1)) in
    let l : length label ≤ LONGEST_NAME = is.0.1 in
    let k = order_short order is.1 in
    let n = declared_short h zone good is.2 in
    omega (arith, length-kind_word kind, length-mark_word m)
call_short h worker (Low label order zone) good at is =
    let w : length (decimal worker) ≤ 2 = worker_short worker (omega (arith, good.workers.1)) in
    let l : length label ≤ LONGEST_NAME = is.0.1 in
    let k = order_short order is.1 in
    let n = declared_short h zone good is.2 in
    omega arith
call_short h worker (Free label) good at is =
    let w : length (decimal worker) ≤ 2 = worker_short worker (omega (arith, good.workers.1)) in
    let l : length label ≤ LONGEST_NAME = is.1 in
    omega arith
call_short h worker (Post label to) good at is =
    let w : length (decimal worker) ≤ 2 = worker_short worker (omega (arith, good.workers.1)) in
    let l : length label ≤ LONGEST_NAME = is.0.1 in
    let t : length (decimal to) ≤ 2 = worker_short to (omega (arith, good.workers.1, is.1)) in
    omega arith
call_short h worker (Collect label zone) good at is =
    let w : length (decimal worker) ≤ 2 = worker_short worker (omega (arith, good.workers.1)) in
    let l : length label ≤ LONGEST_NAME = is.0.1 in
    let n = declared_short h zone good is.1 in
    omega arith
call_short h worker (Isolate zone pageblock) good at is =
    let w : length (decimal worker) ≤ 2 = worker_short worker (omega (arith, good.workers.1)) in
    let n = declared_short h zone good is.0 in
    let b = pageblock_short pageblock is.1 in
    omega arith
call_short h worker (Release zone pageblock kind) good at is =
    let w : length (decimal worker) ≤ 2 = worker_short worker (omega (arith, good.workers.1)) in
    let n = declared_short h zone good is.0 in
    let b = pageblock_short pageblock is.1 in
    omega (arith, length-kind_word kind)

command_short : (h : Header) (c : CommandLine) → IsHeader h → IsCommandOf h c → length (line_text (line.CommandLine c)) ≤ 40
command_short h c good is =
    let s = call_short h c.worker c.call good is.0 is.1 in
    omega (arith, length-line (decimal c.worker) (call_words c.call))

pub allowed_short : (before : List Line) (l : Line) → IsBeginning before → IsAllowedAfter before l → length (line_text l) ≤ 40
allowed_short before (line.Zone z) begins allowed = zone_short z allowed.2.1
allowed_short before (line.Workers n) begins allowed = workers_short n allowed.3
allowed_short before (line.Lists batch high) begins allowed = lists_short batch high allowed.3
allowed_short before (line.CommandLine c) begins allowed =
    command_short allowed.0.header c (header_is allowed.0.header allowed.0.commands (subst IsBeginning allowed.1 begins)) allowed.3.0

begins_front : (lines ls : List Line) → IsBeginning (lines ++ ls) → IsBeginning lines
begins_front lines ls begins before l after e =
    begins before l (after ++ ls) (ap (λ (ks : List Line). ks ++ ls) e ∙ append_assoc before (l ∷ after) ls)

-- a line stands only after fewer lines than a trace may have
allowed_few : (before : List Line) (l : Line) → IsBeginning before → IsAllowedAfter before l → length before < MOST_LINES
allowed_few before (line.Zone z) begins allowed = omega (arith, ap length allowed.1, length-map allowed.0 line.Zone, allowed.2.0)
allowed_few before (line.Workers n) begins allowed =
    let few = zones_are_few [] allowed.0 [] (omega arith) (subst IsBeginning (allowed.1 ∙ sym (append-nil (map line.Zone allowed.0))) begins) in
    omega (arith, few, ap length allowed.1, length-map allowed.0 line.Zone)
allowed_few before (line.Lists batch high) begins allowed =
    let few = zones_are_few [] allowed.0 (line.Workers allowed.1 ∷ []) (omega arith) (subst IsBeginning allowed.2 begins) in
    omega (arith, few, ap length allowed.2, length-append (map line.Zone allowed.0) (line.Workers allowed.1 ∷ []), length-map allowed.0 line.Zone)
allowed_few before (line.CommandLine c) begins allowed = allowed.2

-- what lines add to those before them
lines_short : (before ls : List Line) → length before ≤ MOST_LINES → IsBeginning (before ++ ls) → (length before + length ls ≤ MOST_LINES) × (length (text_of ls) ≤ 40 * length ls)
lines_short before [] few begins = (omega arith, omega arith)
lines_short before (l ∷ ls) few begins =
    let allowed = begins before l ls refl in
    let less : length before < MOST_LINES = allowed_few before l (begins_front before (l ∷ ls) begins) allowed in
    let short : length (line_text l) ≤ 40 = allowed_short before l (begins_front before (l ∷ ls) begins) allowed in
    let count : length (before ++ l ∷ []) ≡ length before + 1 = length-append before (l ∷ []) in
    let more = lines_short (before ++ l ∷ []) ls (omega arith) (subst IsBeginning (sym (append_assoc before (l ∷ []) ls)) begins) in
    (omega (arith, more.0), omega (arith, more.1, length-append (line_text l) (text_of ls)))

-- no beginning of a trace has more than 4,096 lines of 40 bytes
pub beginning_short : (lines : List Line) → IsBeginning lines → length (text_of lines) ≤ 40 * MOST_LINES
beginning_short lines begins =
    let s = lines_short [] lines (omega arith) begins in
    omega (arith, s.0, s.1)

-- nor more commands than lines
pub commands_few : (t : Trace) → IsBeginning (lines_of t) → length t.commands ≤ MOST_LINES
commands_few t begins =
    let s = lines_short [] (lines_of t) (omega arith) begins in
    omega (arith, s.0, length-append (header_of t.header) (map line.CommandLine t.commands), length-map t.commands line.CommandLine)
