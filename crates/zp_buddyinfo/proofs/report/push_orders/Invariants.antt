use Rattle.std.proofs.Common.{◌≡◌, ◌++◌, take, length}
use Rattle.std.specs.List.{flat_map, range_with_len}
use Rattle.std.specs.String.{string_bytes}
use Rattle.zp_buddyinfo.specs.Report.{order_line}
use Rattle.zp_buddyinfo.proofs.report.push_orders.Given as goal

-- the lines of the orders so far
abbrev pub invariant-loop-order : goal.invariant-loop-order
invariant-loop-order l = string_bytes l.text ≡ string_bytes l.initial.text ++ flat_map (order_line l.style l.blocks) (take l.order (range_with_len 0 (length l.blocks)))
