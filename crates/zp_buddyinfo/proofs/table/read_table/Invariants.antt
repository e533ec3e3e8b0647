use Rattle.zp_buddyinfo.specs.Rows.{spelled}
use Rattle.zp_buddyinfo.proofs.TableRows.{RowsSoFar}
use Rattle.zp_buddyinfo.proofs.table.read_table.Given as goal

abbrev pub invariant-loop-index : goal.invariant-loop-index
invariant-loop-index l = RowsSoFar (spelled l.line-items) l.index l.rows.items
