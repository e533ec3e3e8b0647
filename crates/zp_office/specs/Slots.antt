-- The index of a worker's labels.
use Rattle.std.specs.Prelude.{ℕ, ◌≡◌, List}
use Rattle.std.specs.BTreeMap.{BTreeMap, get}
use Rattle.std.specs.List.{position}
use Rattle.std.specs.Ordering.{nat_cmp}
use Rattle.zp_model.specs.Naming.{IsName}
use Rattle.zp_trace.specs.declared.line.Call.{Call}
use Rattle.zp_trace.specs.LabelKeys.{label_key}
use Rattle.zp_office.specs.Scripts.{binds}

-- the map has, at the number of each label, the place of the first of these calls that binds it
abbrev pub AreSlotsOf : List Call → BTreeMap ℕ ℕ → Type 0
AreSlotsOf calls slots = (label : List ℕ) → IsName label → get nat_cmp slots (label_key label) ≡ position (binds label) calls
