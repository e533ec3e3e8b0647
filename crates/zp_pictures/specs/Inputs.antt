-- What the text of a trace is to a picture of it.
use Rattle.std.specs.Prelude.{ℕ, ◌+◌, ◌-◌, List, length, Option, None, Some}
use Rattle.zp_trace.specs.declared.trace.Trace.{Trace}
use Rattle.zp_trace.specs.Grammar.{IsBadLine, IsTraceText}
use Rattle.zp_trace.specs.declared.trace.Header.{Header}
use Rattle.zp_pictures.specs.declared.input.TraceReading.{TraceReading}

-- the trace that the text writes, or its bad line
abbrev pub IsReadingOf : List ℕ → TraceReading → Type 0
IsReadingOf text (TraceReading.Trace t) = IsTraceText text t
IsReadingOf text (TraceReading.BadLine n) = IsBadLine text n

-- how many lines stand before the requests: those of the zones, of the workers and of their lists
abbrev pub header_lines : Header → ℕ
header_lines h = length h.zones + 2

-- how many requests stand in the first lines of a trace, or in all of them
abbrev pub requests_to : Trace → Option ℕ → ℕ
requests_to t None = length t.commands
requests_to t (Some line) = line - header_lines t.header
