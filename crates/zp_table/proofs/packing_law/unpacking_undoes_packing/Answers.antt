use Rattle.zp_table.proofs.Packing.{narrow_undone, wide_undone}
use Rattle.zp_table.proofs.packing_law.unpacking_undoes_packing.Goals as goal

pub returns-clause-narrow : goal.returns-clause-narrow
returns-clause-narrow c = narrow_undone

pub returns-clause-wide : goal.returns-clause-wide
returns-clause-wide c = wide_undone
