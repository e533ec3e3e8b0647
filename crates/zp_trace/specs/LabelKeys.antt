-- Labels as numbers, and which numbers stand for the labels that commands bind.
use Rattle.std.specs.Prelude.{ℕ, ◌+◌, ◌*◌, ◌≡◌, ◌==◌, ◌<◌, ◌&&◌, Bool, false, List, [], ◌∷◌, Option, Some, None}
use Rattle.std.specs.BTreeSet.{BTreeSet, contains}
use Rattle.std.specs.List.{list_any}
use Rattle.std.specs.Ordering.{nat_cmp}
use Rattle.std.specs.Str.{bytes_eq}
use Rattle.zp_model.specs.declared.constants.TheConstants.{MAX_WORKERS}
use Rattle.zp_model.specs.Naming.{IsName}
use Rattle.zp_trace.specs.declared.bounds.TheConstants.{LABEL_BASE}
use Rattle.zp_trace.specs.declared.line.CommandLine.{CommandLine}
use Rattle.zp_trace.specs.Grammar.{bound_label}

-- the number of a label: its bytes as digits, the first one lowest
abbrev pub label_key : List ℕ → ℕ
label_key [] = 0
label_key (b ∷ bytes) = b + LABEL_BASE * label_key bytes

-- the number of a worker's label
abbrev pub bound_key : ℕ → List ℕ → ℕ
bound_key worker label = worker + MAX_WORKERS * label_key label

-- whether this is the label
abbrev pub is_label : List ℕ → Option (List ℕ) → Bool
is_label label (Some bound) = bytes_eq bound label
is_label label None = false

-- whether a command binds this label of this worker
abbrev pub binds : ℕ → List ℕ → CommandLine → Bool
binds worker label c = (c.worker == worker) && is_label label (bound_label c.call)

-- the set has the number of each worker's label that one of the commands binds, and of no other
abbrev pub AreBoundBy : List CommandLine → BTreeSet ℕ → Type 0
AreBoundBy commands keys =
    (worker : ℕ) (label : List ℕ) → worker < MAX_WORKERS → IsName label
    → contains nat_cmp keys (bound_key worker label) ≡ list_any (binds worker label) commands
