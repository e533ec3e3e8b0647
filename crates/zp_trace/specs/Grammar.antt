-- Which lines may stand after which, what the text of a trace is, and which line of a text is its bad line.
use Rattle.std.specs.Prelude.{ℕ, ◌+◌, ◌≡◌, ◌≢◌, ◌<◌, ◌≤◌, List, [], ◌∷◌, ◌++◌, length, map, All, Any, Option, Some, None, IfSome, unwrap_or}
use Rattle.zp_model.specs.declared.constants.TheConstants.{LARGEST_ORDER, TRACE_ZONES}
use Rattle.zp_model.specs.Bounds.{IsBase, IsPages, IsLargest, IsCrew, AreLists}
use Rattle.zp_model.specs.Naming.{IsName}
use Rattle.zp_trace.specs.declared.bounds.TheConstants.{LARGEST_PAGEBLOCK, MOST_LINES}
use Rattle.zp_trace.specs.declared.line.ZoneLine.{ZoneLine}
use Rattle.zp_trace.specs.declared.line.Call.{Call}
use Rattle.zp_trace.specs.declared.line.Call.TheVariants.{Info, Alloc, Low, Free, Post, Collect, Drain, Isolate, Release}
use Rattle.zp_trace.specs.declared.line.CommandLine.{CommandLine}
use Rattle.zp_trace.specs.declared.trace.Header.{Header}
use Rattle.zp_trace.specs.declared.trace.Trace.{Trace}
use Rattle.zp_trace.specs.Lines.{Line}
use Rattle.zp_trace.specs.Lines as line
use Rattle.zp_trace.specs.Spelling.{line_text, text_of, header_of}

abbrev pub IsZoneLine : ZoneLine → Type 0
IsZoneLine z = IsName z.name × IsBase z.base × IsPages z.pages × (z.min ≤ z.pages) × IfSome z.largest IsLargest

-- the largest order of the zone that a line declares: the one that it names, else the usual one
abbrev pub declared_largest : ZoneLine → ℕ
declared_largest z = unwrap_or z.largest LARGEST_ORDER

-- a zone that has another name, and begins at the other's end or above it
abbrev pub IsAbove : ZoneLine → ZoneLine → Type 0
IsAbove z other = (other.name ≢ z.name) × (other.base + other.pages ≤ z.base)

-- a zone that may be declared after these: not too many, each another name, and each below it
abbrev pub IsNextZone : List ZoneLine → ZoneLine → Type 0
IsNextZone zones z = (length zones < TRACE_ZONES) × IsZoneLine z × All (IsAbove z) zones

-- what each trace begins with
pub record IsHeader (h : Header) : Type 0 where
  pub some : 0 < length h.zones
  pub few : length h.zones ≤ TRACE_ZONES
  pub zones : All IsZoneLine h.zones
  pub workers : IsCrew h.workers
  pub lists : AreLists h.batch h.high

-- a zone of this name is declared
abbrev pub IsDeclared : Header → List ℕ → Type 0
IsDeclared h zone = Any (λ z. z.name ≡ zone) h.zones

-- what may be asked for after this header
abbrev pub IsCallOf : Header → Call → Type 0
IsCallOf h Info = Unit {0}
IsCallOf h (Alloc label order kind zone mark) = IsName label × (order ≤ LARGEST_ORDER) × IsDeclared h zone
IsCallOf h (Low label order zone) = IsName label × (order ≤ LARGEST_ORDER) × IsDeclared h zone
IsCallOf h (Free label) = IsName label
IsCallOf h (Post label to) = IsName label × (to < h.workers)
IsCallOf h (Collect label zone) = IsName label × IsDeclared h zone
IsCallOf h Drain = Unit {0}
IsCallOf h (Isolate zone pageblock) = IsDeclared h zone × (pageblock ≤ LARGEST_PAGEBLOCK)
IsCallOf h (Release zone pageblock kind) = IsDeclared h zone × (pageblock ≤ LARGEST_PAGEBLOCK)

abbrev pub IsCommandOf : Header → CommandLine → Type 0
IsCommandOf h c = (c.worker < h.workers) × IsCallOf h c.call

-- the label that a call binds to the block that it is answered
abbrev pub bound_label : Call → Option (List ℕ)
bound_label Info = None
bound_label (Alloc label order kind zone mark) = Some label
bound_label (Low label order zone) = Some label
bound_label (Free label) = None
bound_label (Post label to) = None
bound_label (Collect label zone) = Some label
bound_label Drain = None
bound_label (Isolate zone pageblock) = None
bound_label (Release zone pageblock kind) = None

-- the command binds this label of this worker, if it is answered a block
abbrev pub Binds : ℕ → List ℕ → CommandLine → Type 0
Binds worker label c = (c.worker ≡ worker) × (bound_label c.call ≡ Some label)

-- the label that the call names a block by stands in an earlier command of the same worker that binds it
abbrev pub HasLabel : List CommandLine → ℕ → Call → Type 0
HasLabel before worker Info = Unit {0}
HasLabel before worker (Alloc label order kind zone mark) = Unit {0}
HasLabel before worker (Low label order zone) = Unit {0}
HasLabel before worker (Free label) = Any (Binds worker label) before
HasLabel before worker (Post label to) = Any (Binds worker label) before
HasLabel before worker (Collect label zone) = Unit {0}
HasLabel before worker Drain = Unit {0}
HasLabel before worker (Isolate zone pageblock) = Unit {0}
HasLabel before worker (Release zone pageblock kind) = Unit {0}

-- a command that may stand after these in a trace of this header
abbrev pub IsNextCommand : Header → List CommandLine → CommandLine → Type 0
IsNextCommand h before c = IsCommandOf h c × HasLabel before c.worker c.call

-- the lines that write a trace
abbrev pub lines_of : Trace → List Line
lines_of t = header_of t.header ++ map line.CommandLine t.commands

-- the line may stand after those before it
abbrev pub IsAllowedAfter : List Line → Line → Type 0
IsAllowedAfter before (line.Zone z) = (zones : List ZoneLine) × (before ≡ map line.Zone zones) × IsNextZone zones z
IsAllowedAfter before (line.Workers n) = (zones : List ZoneLine) × (before ≡ map line.Zone zones) × (0 < length zones) × IsCrew n
IsAllowedAfter before (line.Lists batch high) =
    (zones : List ZoneLine) × (n : ℕ) × (before ≡ map line.Zone zones ++ line.Workers n ∷ []) × AreLists batch high
IsAllowedAfter before (line.CommandLine c) =
    (t : Trace) × (before ≡ lines_of t) × (length before < MOST_LINES) × IsNextCommand t.header t.commands c

-- each line may stand after those before it
abbrev pub IsBeginning : List Line → Type 0
IsBeginning lines =
    (before : List Line) (l : Line) (after : List Line) → lines ≡ before ++ (l ∷ after) → IsAllowedAfter before l

-- the text is in the grammar, and writes this trace
pub record IsTraceText (text : List ℕ) (t : Trace) : Type 0 where
  pub lines : text ≡ text_of (lines_of t)
  pub allowed : IsBeginning (lines_of t)

-- line n of the text is the first that may not stand after the lines before it: no line that may begins the rest with its
-- line feed; where nothing is left, the lines are not all lines of a trace
pub record IsBadLine (text : List ℕ) (n : ℕ) : Type 0 where
  pub before : List Line
  pub allowed : IsBeginning before
  pub number : n ≡ length before + 1
  pub rest : List ℕ
  pub parts : text ≡ text_of before ++ rest
  pub bad : (l : Line) (more : List ℕ) → IsAllowedAfter before l → rest ≡ line_text l ++ more → ⊥
  pub unfinished : rest ≡ [] → (t : Trace) → before ≡ lines_of t → ⊥
