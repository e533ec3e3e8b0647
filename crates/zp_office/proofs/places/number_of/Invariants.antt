use Rattle.std.proofs.Common.{◌≡◌, ℕ, ◌<◌, false, get_or}
use Rattle.std.specs.Str.{bytes_eq}
use Rattle.zp_trace.specs.declared.line.ZoneLine.{ZoneLine}
use Rattle.zp_office.proofs.places.number_of.Given as goal

-- no zone so far has the name
abbrev pub invariant-loop-place : goal.invariant-loop-place
invariant-loop-place l = (k : ℕ) (d : ZoneLine) → k < l.place → bytes_eq (get_or l.zones k d).name l.name ≡ false
