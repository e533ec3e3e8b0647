-- Runs at any place: what pages that come back or go out leave, block by block of their cut (this profile).
use Rattle.std.specs.Prelude.{ℕ, ◌≡◌, length}
use Rattle.zp_model.specs.declared.migrate_type.MigrateType.{MigrateType}
use Rattle.zp_model.specs.Frames.{Frames}
use Rattle.zp_model.specs.Runs.{give_run, hand_out_run}
use Rattle.zp_model.specs.Zone.{PlainZone}
use Rattle.zp_zone.specs.Kept.{IsPostedAside, plain_of}

-- y is f, with n pages from h on free that were not: nothing else of the zone has changed
pub record IsGivenRun (f y : Frames) (h n : ℕ) : Type 0 where
  pub plain : (base min : ℕ) → plain_of y base min ≡ (let z : PlainZone = record (plain_of f base min) { area = give_run f.area h n } in z)
  pub sides : y.sides ≡ f.sides
  pub pages : length y.states ≡ length f.states
  pub beside : IsPostedAside y.sides y.states

-- y is f, with n pages from h on out to worker w, each block with its type by its head: nothing else of the zone has changed
pub record IsNotedRun (f y : Frames) (w : ℕ) (kind : ℕ → MigrateType) (h n : ℕ) : Type 0 where
  pub plain : (base min : ℕ) → plain_of y base min ≡ hand_out_run (plain_of f base min) w kind h n
  pub sides : y.sides ≡ f.sides
  pub pages : length y.states ≡ length f.states
  pub beside : IsPostedAside y.sides y.states
