-- The numbers by which C names marks and origins, and why a call was denied (this profile).
use Rattle.std.specs.Prelude.{ℕ, ◌<◌, ◌≤◌}
use Rattle.zp_model.specs.declared.mark.Mark.{Mark}
use Rattle.zp_model.specs.declared.mark.Mark.TheVariants.{Low, Min, Any}
use Rattle.zp_model.specs.declared.origin.Origin.{Origin}
use Rattle.zp_model.specs.declared.origin.Origin.TheVariants.{Own, Claimed, Borrowed}
use Rattle.zp_model.specs.declared.constants.TheConstants.{LARGEST_ALIGNMENT, LARGEST_ORDER, MAX_WORKERS, TYPES}
use Rattle.zp_model.specs.Refused.{refused_number}
use Rattle.zp_gate.specs.declared.call_error.CallError.{CallError}
use Rattle.zp_gate.specs.declared.call_error.CallError.TheVariants.{NoZone, Busy, NoWorker, NoLists, NotEmpty, TooFew, Refused}

abbrev pub mark_number : Mark → ℕ
mark_number Any = 0
mark_number Min = 1
mark_number Low = 2

abbrev pub origin_number : Origin → ℕ
origin_number Own = 0
origin_number Claimed = 1
origin_number Borrowed = 2

-- the numbers that name no order, no migrate type, no mark, no worker of any zone, and no alignment of a run
abbrev pub IsNoOrder : ℕ → Type 0
IsNoOrder n = LARGEST_ORDER < n

abbrev pub IsNoType : ℕ → Type 0
IsNoType n = TYPES ≤ n

abbrev pub IsNoMark : ℕ → Type 0
IsNoMark n = mark_number Low < n

abbrev pub IsNoWorker : ℕ → Type 0
IsNoWorker n = MAX_WORKERS ≤ n

abbrev pub IsNoAlignment : ℕ → Type 0
IsNoAlignment n = LARGEST_ALIGNMENT < n

-- from 40 on nothing was asked
abbrev pub error_number : CallError → ℕ
error_number NoZone = 40
error_number NoWorker = 40
error_number TooFew = 40
error_number (Busy b) = 42
error_number NotEmpty = 45
error_number NoLists = 46
error_number (Refused e) = refused_number e
