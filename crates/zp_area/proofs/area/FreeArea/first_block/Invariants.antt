use Rattle.std.proofs.Common.{◌≡◌, ◌≤◌, ◌<◌, ◌-◌, ◌+◌, ℕ, None}
use Rattle.zp_model.specs.declared.constants.TheConstants.{LARGEST_ORDER}
use Rattle.zp_model.specs.Area.{list_number}
use Rattle.zp_model.specs.Rows.{front}
use Rattle.zp_area.specs.Blocks.{free_list_of}
use Rattle.zp_area.proofs.area.FreeArea.first_block.Given as goal

-- the lists of the orders before `number` are empty, and `list` is that of `number`
abbrev pub invariant-orders : goal.invariant-orders
invariant-orders l = record {
  from : l.fn.order ≤ l.number;
  most : l.number ≤ LARGEST_ORDER + 1;
  here : l.list ≡ list_number l.number l.fn.kind;
  none : (o : ℕ) → l.fn.order ≤ o → o < l.number → front (free_list_of l.self.largest l.self o l.fn.kind) ≡ None;
}

abbrev pub decreases-orders : goal.decreases-orders
decreases-orders l = l.largest + 1 - l.number
