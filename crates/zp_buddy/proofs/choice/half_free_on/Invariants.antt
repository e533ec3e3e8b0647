use Rattle.std.proofs.Common.{◌≡◌, length}
use Rattle.std.specs.List.{find}
use Rattle.zp_area.specs.Blocks.{free_list_of}
use Rattle.zp_buddy.proofs.Walks.{list_from, IsNext}
use Rattle.zp_area.specs.Claims.{is_half_free}
use Rattle.zp_buddy.proofs.choice.half_free_on.Given as goal

-- what is looked for stands from the next page on
abbrev pub invariant-heads : goal.invariant-heads
invariant-heads l = record {
  rest :
      find (is_half_free l.area.largest l.area) (free_list_of l.area.largest l.area l.order l.list)
      ≡ find (is_half_free l.area.largest l.area) (list_from l.next (free_list_of l.area.largest l.area l.order l.list));
  next : IsNext l.next (free_list_of l.area.largest l.area l.order l.list);
}

abbrev pub decreases-heads : goal.decreases-heads
decreases-heads l = length (list_from l.next (free_list_of l.area.largest l.area l.order l.list))
