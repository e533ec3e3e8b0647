-- Taking a block and giving it back, isolating a pageblock and releasing it.
use Rattle.std.specs.Prelude.{ℕ, ◌≡◌, false, slice_get, Some}
use Rattle.zp_model.specs.declared.migrate_type.MigrateType.{MigrateType}
use Rattle.zp_model.specs.declared.request.Request.{Request}
use Rattle.zp_model.specs.PageblockType.{pageblock_type}
use Rattle.zp_model.specs.Area.{Area}
use Rattle.zp_model.specs.Choose.{Chosen, choose}
use Rattle.zp_model.specs.Take.{take_after, give}
use Rattle.zp_model.specs.Zone.{PlainZone}
use Rattle.zp_model.specs.Step.{step}
use Rattle.zp_model.specs.Lawful.{IsListedArea}

-- the same pages are free, and where no pageblock was claimed each has its type
pub record IsRestored (before after : Area) (c : Chosen) : Type 0 where
  pub free : after.free ≡ before.free
  pub kinds : c.claims ≡ false → after.kinds ≡ before.kinds

abbrev pub GivingBackRestores : Type 0
GivingBackRestores =
    (a : Area) (k : ℕ) (t : MigrateType) (c : Chosen) → IsListedArea a → choose a k t ≡ Some c →
    IsRestored a (give (take_after a k t) c.head k) c

-- the same pages are free, each pageblock has its type, and the same blocks are out and posted
pub record IsReleased (before after : PlainZone) : Type 0 where
  pub free : after.area.free ≡ before.area.free
  pub kinds : after.area.kinds ≡ before.area.kinds
  pub out : after.out ≡ before.out
  pub posted : after.posted ≡ before.posted

-- a pageblock that is isolated, and then released with the type that it had
abbrev pub ReleasingRestores : Type 0
ReleasingRestores =
    (z : PlainZone) (w u b : ℕ) (t : MigrateType) → slice_get z.area.kinds b ≡ Some (pageblock_type t) →
    IsReleased z (step (step z w (Request.Isolate b)).zone u (Request.Release b t)).zone
