-- What may be a name.
use Rattle.std.specs.Prelude.{ℕ, ◌<◌, ◌≤◌, ◌-◌, ◌++◌, List, length, replicate, IsTrue, All}
use Rattle.std.specs.Char.{is_ascii_alphanumeric}
use Rattle.zp_model.specs.declared.constants.TheConstants.{LONGEST_NAME}

-- 1 to 8 ASCII letters or digits
abbrev pub IsName : List ℕ → Type 0
IsName bytes =
    (0 < length bytes) × (length bytes ≤ LONGEST_NAME) × All (λ b. IsTrue (is_ascii_alphanumeric b)) bytes

-- a name as it lies in memory: zeros after it
abbrev pub padded : List ℕ → List ℕ
padded bytes = bytes ++ replicate (LONGEST_NAME - length bytes) 0
