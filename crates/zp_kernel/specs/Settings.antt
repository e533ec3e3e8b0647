-- What a kernel's requests become here.
use Rattle.std.specs.Prelude.{ℕ, ◌<◌, ◌==◌, Option, None, Some, cond}
use Rattle.zp_events.specs.declared.event.ZoneLimit.{ZoneLimit}
use Rattle.zp_events.specs.declared.event.ZoneLimit.TheVariants as limit
use Rattle.zp_model.specs.declared.migrate_type.MigrateType.{MigrateType}
use Rattle.zp_model.specs.declared.migrate_type.MigrateType.TheVariants.{Unmovable, Reclaimable, Movable}
use Rattle.zp_kernel.specs.declared.setting.Limits.{Limits}

-- the place of the highest zone that a limit allows
abbrev pub top_of : Limits → ZoneLimit → ℕ
top_of l limit.Dma = l.dma
top_of l limit.Dma32 = l.dma32
top_of l limit.Normal = l.normal
top_of l limit.Movable = l.movable

-- each is one of n places
pub record AreBelow (n : ℕ) (l : Limits) : Type 0 where
  pub dma : l.dma < n
  pub dma32 : l.dma32 < n
  pub normal : l.normal < n
  pub movable : l.movable < n

-- Linux's numbers of the types (include/linux/mmzone.h, enum migratetype); it has more types than these
abbrev pub kind_of : ℕ → Option MigrateType
kind_of n = cond (n == 0) (Some Unmovable) (cond (n == 1) (Some Movable) (cond (n == 2) (Some Reclaimable) None))
