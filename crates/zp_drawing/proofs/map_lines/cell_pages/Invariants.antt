use Rattle.std.proofs.Common.{ℕ, ◌≡◌, ◌<◌, ◌*◌, ◌^◌}
use Rattle.zp_drawing.specs.Maps.{cells_in}
use Rattle.zp_drawing.proofs.map_lines.cell_pages.Given as goal

-- no smaller cell will do
abbrev pub invariant-orders : goal.invariant-orders
invariant-orders l = record { cells : l.cells ≡ cells_in l.width; least : (k : ℕ) → k < l.order → 2 ^ k * l.cells < l.pageblock }
