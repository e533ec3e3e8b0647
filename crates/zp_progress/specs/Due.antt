-- When a line is due.
use Rattle.std.specs.Prelude.{◌+◌, ◌≤◌, Option, None, Some, ⊤}
use Rattle.std.specs.Duration.{as_nanos}
use Rattle.std.specs.declared.time.Duration.{Duration}

-- a tenth of a second after the last line, if there was one
abbrev pub IsAfter : Duration → Option Duration → Type 0
IsAfter passed None = ⊤
IsAfter passed (Some shown) = as_nanos shown + 100_000_000 ≤ as_nanos passed

-- and not in the first two seconds
abbrev pub IsDue : Duration → Option Duration → Type 0
IsDue passed shown = (2_000_000_000 ≤ as_nanos passed) × IsAfter passed shown
