-- The lines of a trace.
use Rattle.std.specs.Prelude.{ℕ}
use Rattle.zp_trace.specs.declared.line.ZoneLine.{ZoneLine}
use Rattle.zp_trace.specs.declared.line.CommandLine as command

-- a zone; how many workers there are; how many pages their lists get at a time and may have; a worker line
pub data Line : Type 0 where
  Zone : ZoneLine → Line
  Workers : ℕ → Line
  Lists : ℕ → ℕ → Line
  CommandLine : command.CommandLine → Line
