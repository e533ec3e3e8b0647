use Rattle.std.proofs.Common.{arith, sym, ◌∙◌}
use Rattle.zp_model.specs.declared.migrate_type.MigrateType.TheVariants.{Unmovable}
use Rattle.zp_buddy.proofs.Choosing.{first_drop}
use Rattle.zp_buddy.proofs.choice.half_free_of.Goals as goal

pub returns-in-Some : goal.returns-in-Some
returns-in-Some c = (
  c.kinds.invariant ∙ first_drop _ c.args.kinds.now c.kinds.kind-index Unmovable c.in-Some.head (omega arith) (sym c.half_free_on.ensures.found ∙ c.in-Some.is),
  record { enough = omega arith; starts = c.in-Some.ensures.starts; typed = c.in-Some.ensures.typed },
)
