-- Lines that may stand one after another, and the lines of a header: zone lines, and what stands after them.
use Rattle.std.proofs.Common.{ℕ, ◌≡◌, ◌⊎◌, inl, inr, List, [], ◌∷◌, ◌++◌, refl, sym, append_assoc, ◌≤◌, ◌+◌, map, length, length-append, ap, subst, ◌∙◌, arith}
use Rattle.std.proofs.lemmas.List.{append-nil, map-append}
use Rattle.std.proofs.lemmas.List.Concat.{flat_map-append}
use Rattle.zp_trace.specs.Lines.{Line}
use Rattle.zp_trace.specs.Spelling.{line_text, text_of}
use Rattle.zp_trace.specs.Grammar.{IsAllowedAfter, IsBeginning, IsZoneLine, IsHeader, lines_of}
use Rattle.std.proofs.lemmas.List.Elements.{All-from_recursion}
use Rattle.std.specs.List.{AllByRecursion}
use Rattle.zp_model.specs.declared.constants.TheConstants.{TRACE_ZONES}
use Rattle.zp_trace.specs.declared.line.ZoneLine.{ZoneLine}
use Rattle.zp_trace.specs.declared.line.CommandLine.{CommandLine}
use Rattle.zp_trace.specs.declared.trace.Header.{Header}
use Rattle.zp_trace.specs.Lines as line

-- nothing ends in something
no_end : (before after : List Line) (l : Line) → [] ≡ before ++ (l ∷ after) → ⊥
no_end [] after l e = cc
no_end (m ∷ before) after l e = cc

-- a line of lines with one more is the last one, or a line of the lines before
last_or_before : (lines before after : List Line) (l m : Line) → lines ++ (l ∷ []) ≡ before ++ (m ∷ after) → ((lines ≡ before) × (l ≡ m)) ⊎ ((rest : List Line) × (lines ≡ before ++ (m ∷ rest)))
last_or_before [] [] after l m e = inl (refl, cc)
last_or_before [] (n ∷ before) after l m e =
    let rest : [] ≡ before ++ (m ∷ after) = cc in absurd (no_end before after m rest)
last_or_before (k ∷ lines) [] after l m e = inr (lines, cc)
last_or_before (k ∷ lines) (n ∷ before) after l m e =
    let first : k ≡ n = cc in
    let rest : lines ++ (l ∷ []) ≡ before ++ (m ∷ after) = cc in
    elim (last_or_before lines before after l m rest) [
      | inl here ↦ (let same : lines ≡ before = here.0 in inl (cc, here.1))
      | inr further ↦ (let same : lines ≡ before ++ (m ∷ further.0) = further.1 in inr (further.0, cc))
    ]

-- one line more
begin_more : (lines : List Line) (l : Line) → IsBeginning lines → IsAllowedAfter lines l → IsBeginning (lines ++ (l ∷ []))
begin_more lines l begins allowed before m after e = elim (last_or_before lines before after l m e) [
  | inl here ↦ rw (here.0, here.1) at allowed
  | inr further ↦ begins before m further.0 further.1
]

text_more : (lines : List Line) (l : Line) (after : List ℕ) → text_of (lines ++ (l ∷ [])) ++ after ≡ text_of lines ++ (line_text l ++ after)
text_more lines l after = rw (flat_map-append line_text lines (l ∷ []), append-nil (line_text l)) (append_assoc (text_of lines) (line_text l) after)

-- one line more of a text whose lines so far may stand one after another
pub read_more : (lines new : List Line) (l : Line) (whole rest after : List ℕ) → new ≡ lines ++ (l ∷ []) → whole ≡ text_of lines ++ rest → IsBeginning lines → rest ≡ line_text l ++ after → IsAllowedAfter lines l →
    (whole ≡ text_of new ++ after) × IsBeginning new
read_more lines new l whole rest after more parts begins e allowed = rw more (rw (parts, e) (sym (text_more lines l after)), begin_more lines l begins allowed)

-- lines of which the first is no zone's
abbrev NoZone : List Line → Type 0
NoZone lines = (z : ZoneLine) (rest : List Line) → lines ≡ line.Zone z ∷ rest → ⊥

none_first : NoZone []
none_first z rest e = cc

workers_first : (n : ℕ) (lines : List Line) → NoZone (line.Workers n ∷ lines)
workers_first n lines z rest e = cc

-- zones are read back from their lines, with what stands after them
same_zones : (zs ws : List ZoneLine) (r s : List Line) → NoZone r → NoZone s → map line.Zone zs ++ r ≡ map line.Zone ws ++ s → (zs ≡ ws) × (r ≡ s)
same_zones [] [] r s p q e = (refl, e)
same_zones [] (w ∷ ws) r s p q e = absurd (p w (map line.Zone ws ++ s) e)
same_zones (z ∷ zs) [] r s p q e = absurd (q z (map line.Zone zs ++ r) (sym e))
same_zones (z ∷ zs) (w ∷ ws) r s p q e =
    let first : z ≡ w = cc in
    let rest : map line.Zone zs ++ r ≡ map line.Zone ws ++ s = cc in
    let same = same_zones zs ws r s p q rest in
    let zones : zs ≡ ws = same.0 in
    (cc, same.1)

pub zones_alone : (zs ws : List ZoneLine) → map line.Zone zs ≡ map line.Zone ws → zs ≡ ws
zones_alone zs ws e =
    (same_zones zs ws [] [] none_first none_first (append-nil (map line.Zone zs) ∙ e ∙ sym (append-nil (map line.Zone ws)))).0

-- lines of zones alone are no lines with a workers line, and those up to the workers line none with a lists line
pub no_workers_yet : (zs ws : List ZoneLine) (n : ℕ) (after : List Line) → map line.Zone zs ≡ map line.Zone ws ++ (line.Workers n ∷ after) → ⊥
no_workers_yet zs ws n after e =
    let end = (same_zones zs ws [] (line.Workers n ∷ after) none_first (workers_first n after) (append-nil (map line.Zone zs) ∙ e)).1 in
    cc

pub up_to_workers : (zs ws : List ZoneLine) (m n : ℕ) (before after : List Line) → map line.Zone zs ++ (line.Workers m ∷ before) ≡ map line.Zone ws ++ (line.Workers n ∷ after) → (zs ≡ ws) × (m ≡ n) × (before ≡ after)
up_to_workers zs ws m n before after e =
    let same = same_zones zs ws (line.Workers m ∷ before) (line.Workers n ∷ after) (workers_first m before) (workers_first n after) e in
    let lines = same.1 in
    (same.0, cc, cc)

-- the lines of a header and its commands
abbrev pub lines_with : Header → List CommandLine → List Line
lines_with h cs = lines_of (record { header = h; commands = cs })

pub lines_split : (h : Header) (cs : List CommandLine) → lines_with h cs ≡ map line.Zone h.zones ++ (line.Workers h.workers ∷ line.Lists h.batch h.high ∷ map line.CommandLine cs)
lines_split h cs = append_assoc (map line.Zone h.zones) (line.Workers h.workers ∷ line.Lists h.batch h.high ∷ []) (map line.CommandLine cs)

-- zones that may stand one after another are not too many, and each is in its bounds
zone_moved : (before : List ZoneLine) (z : ZoneLine) (lines : List Line) → map line.Zone before ++ (line.Zone z ∷ lines) ≡ map line.Zone (before ++ (z ∷ [])) ++ lines
zone_moved before z lines = rw (map-append line.Zone before (z ∷ [])) (sym (append_assoc (map line.Zone before) (line.Zone z ∷ []) lines))

zones_are : (before zs : List ZoneLine) (rest : List Line) → IsBeginning (map line.Zone before ++ (map line.Zone zs ++ rest)) → AllByRecursion IsZoneLine zs
zones_are before [] rest begins = tt
zones_are before (z ∷ zs) rest begins = ((begins (map line.Zone before) (line.Zone z) (map line.Zone zs ++ rest) refl).2.1, zones_are (before ++ (z ∷ [])) zs rest (rw (zone_moved before z (map line.Zone zs ++ rest)) at begins))

pub zones_are_few : (before zs : List ZoneLine) (rest : List Line) → length before ≤ TRACE_ZONES → IsBeginning (map line.Zone before ++ (map line.Zone zs ++ rest)) → length before + length zs ≤ TRACE_ZONES
zones_are_few before [] rest few begins = omega (arith, few)
zones_are_few before (z ∷ zs) rest few begins =
    let next = begins (map line.Zone before) (line.Zone z) (map line.Zone zs ++ rest) refl in
    let room : length (before ++ (z ∷ [])) ≤ TRACE_ZONES = omega (arith, next.2.0, ap length (zones_alone before next.0 next.1), length-append before (z ∷ [])) in
    let more = zones_are_few (before ++ (z ∷ [])) zs rest room (rw (zone_moved before z (map line.Zone zs ++ rest)) at begins) in
    omega (arith, more, length-append before (z ∷ []))

-- so what a trace begins with is a header
pub header_is : (h : Header) (cs : List CommandLine) → IsBeginning (lines_with h cs) → IsHeader h
header_is h cs begins =
    let after = line.Lists h.batch h.high ∷ map line.CommandLine cs in
    let whole = subst IsBeginning (lines_split h cs) begins in
    let workers = whole (map line.Zone h.zones) (line.Workers h.workers) after refl in
    let lists = whole (map line.Zone h.zones ++ (line.Workers h.workers ∷ [])) (line.Lists h.batch h.high) (map line.CommandLine cs) (sym (append_assoc (map line.Zone h.zones) (line.Workers h.workers ∷ []) after)) in
    record {
      some = omega (arith, workers.2, ap length (zones_alone h.zones workers.0 workers.1));
      few = omega (arith, zones_are_few [] h.zones (line.Workers h.workers ∷ after) (omega arith) whole);
      zones = All-from_recursion IsZoneLine h.zones (zones_are [] h.zones (line.Workers h.workers ∷ after) whole);
      workers = workers.3;
      lists = lists.3;
    }
