use Rattle.std.proofs.Common.{◌≡◌, ◌-◌, ◌^◌, min, map, sum}
use Rattle.std.specs.List.{range_with_len}
use Rattle.zp_model.specs.declared.constants.TheConstants.{ORDERS}
use Rattle.zp_drawing.specs.Panels.{pages_in}
use Rattle.zp_drawing.proofs.panels.pages_from.Given as goal

-- the pages of the orders so far
abbrev pub invariant-orders : goal.invariant-orders
invariant-orders l = l.pages ≡ min (sum (map (pages_in l.by_order) (range_with_len l.order (min l.number ORDERS - l.order)))) (2 ^ 32 - 1)
