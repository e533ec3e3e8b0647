use Rattle.std.proofs.Common.{ℕ, ◌<◌, get_or}
use Rattle.zp_drawing.specs.Films.{IsKindOfMost}
use Rattle.zp_drawing.proofs.film_rows.fill_row.Given as goal

-- the cells so far have their kinds
abbrev pub invariant-cells : goal.invariant-cells
invariant-cells l = (k : ℕ) → k < l.cell → IsKindOfMost l.tally k (get_or l.row k 0)
