-- The codes of what is noted, and how many pageblocks have each.
use Rattle.std.specs.Prelude.{ℕ, suc, zero, ◌+◌, ◌*◌, ◌/◌, ◌%◌, ◌≡◌, ◌≤◌, ◌<◌, ◌==◌, List, length, slice_index, Option, None, Some}
use Rattle.std.specs.List.{count_by}
use Rattle.zp_model.specs.declared.constants.TheConstants.{MAX_PAGES}
use Rattle.zp_model.specs.declared.migrate_type.MigrateType.{MigrateType}
use Rattle.zp_model.specs.declared.migrate_type.MigrateType.TheVariants.{Unmovable, Reclaimable, Movable}
use Rattle.zp_model.specs.MigrateType.{type_number, types_count}
use Rattle.zp_claims.specs.declared.claim.Claim.{Claim}
use Rattle.zp_claims.specs.declared.code.TheConstants.{CODES}

-- the place of an order and a type, the least order first
abbrev pub claim_number : ℕ → MigrateType → ℕ
claim_number o t = types_count * o + type_number t

abbrev pub code_of : Option Claim → ℕ
code_of None = 0
code_of (Some c) = claim_number c.order c.kind + 1

-- the type of this number
abbrev pub type_of : ℕ → MigrateType
type_of zero = Unmovable
type_of (suc zero) = Reclaimable
type_of (suc (suc n)) = Movable

-- what this code says
abbrev pub claim_of : ℕ → Option Claim
claim_of zero = None
claim_of (suc r) = Some (record { kind = type_of (r % types_count); order = r / types_count })

-- the number of each code is that of the pageblocks that have it
pub record IsNumbered (codes numbers : List ℕ) : Type 0 where
  pub short : length codes ≤ MAX_PAGES
  pub known : (b : ℕ) → slice_index codes b < CODES
  pub each : (c : ℕ) → c < CODES → slice_index numbers c ≡ count_by (λ d. d == c) codes
