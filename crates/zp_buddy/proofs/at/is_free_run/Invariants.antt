use Rattle.std.proofs.Common.{ℕ, ◌-◌, ◌≤◌, ◌<◌, length}
use Rattle.zp_model.specs.BlockSet.{cover}
use Rattle.zp_model.proofs.Pages.{In}
use Rattle.zp_area.specs.Blocks.{block_set}
use Rattle.zp_buddy.proofs.at.is_free_run.Given as goal

-- the pages before `next` are free
abbrev pub invariant-looks : goal.invariant-looks
invariant-looks l = record {
  from : l.fn.at ≤ l.next;
  within : l.next ≤ length l.area.rows.states;
  free : (i : ℕ) → l.fn.at ≤ i → i < l.next → In (cover (block_set l.area)) i;
}

abbrev pub decreases-looks : goal.decreases-looks
decreases-looks l = l.end - l.next
