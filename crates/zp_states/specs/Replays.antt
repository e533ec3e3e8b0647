-- The office that the first requests of a trace lead to.
use Rattle.std.specs.Prelude.{ℕ, ◌≡◌, ◌≤◌, length, map, take, drop}
use Rattle.zp_trace.specs.declared.line.ZoneLine.{ZoneLine}
use Rattle.zp_trace.specs.declared.trace.Trace.{Trace}
use Rattle.zp_trace.specs.Grammar.{IsBeginning, lines_of}
use Rattle.zp_office.specs.Bases.{bases_of}
use Rattle.zp_office.specs.Offices.{OfficeState, HaveCommands, in_order, opened_office, workers_in}

pub record ReplayState : Type 0 where
  pub trace : Trace
  -- how many of its requests were carried out
  pub done : ℕ

-- the zones and desks that a trace declares, after its first n requests
abbrev pub office_after : Trace → ℕ → OfficeState
office_after t n = in_order (opened_office t) (take n (workers_in t.commands))

abbrev pub office_at : ReplayState → OfficeState
office_at r = office_after r.trace r.done

-- the office is the one after the first n requests of the trace, and can carry out the others; its zones begin where they were declared
pub record IsReplay (t : Trace) (n : ℕ) (o : OfficeState) : Type 0 where
  pub within : n ≤ length t.commands
  pub office : o ≡ office_after t n
  pub left : HaveCommands o (drop n (workers_in t.commands))
  pub begins : IsBeginning (lines_of t)
  pub bases : bases_of o ≡ map (λ (z : ZoneLine). z.base) t.header.zones
