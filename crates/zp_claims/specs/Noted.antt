-- What is noted of pageblocks.
use Rattle.std.specs.Prelude.{ℕ, ◌≡◌, ◌≢◌, ◌≤◌, List, slice_index_or, Option, None, Some}
use Rattle.zp_model.specs.declared.migrate_type.MigrateType.{MigrateType}
use Rattle.zp_claims.specs.declared.claim.Claim.{Claim}

-- what is noted of pageblock b; past the last one nothing is
abbrev pub noted_at : List (Option Claim) → ℕ → Option Claim
noted_at s b = slice_index_or s b None

-- pageblock b is noted with order o, and with a type other than t
pub record IsBeside (s : List (Option Claim)) (t : MigrateType) (b o : ℕ) : Type 0 where
  pub kind : MigrateType
  pub noted : noted_at s b ≡ Some (record { kind = kind; order = o })
  pub other : kind ≢ t

-- the largest order of such a note, where there is one
abbrev pub IsLargestBeside : List (Option Claim) → MigrateType → Option ℕ → Type 0
IsLargestBeside s t None = (b o : ℕ) → IsBeside s t b o → ⊥
IsLargestBeside s t (Some k) = ((b : ℕ) × IsBeside s t b k) × ((b o : ℕ) → IsBeside s t b o → o ≤ k)
