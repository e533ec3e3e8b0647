use Rattle.std.proofs.Common.{ℕ, ◌≡◌, ◌≤◌, ◌<◌, ◌-◌, ◌%◌, ◌^◌, ◌⊎◌, length}
use Rattle.zp_area.specs.Given.{IsClearRun}
use Rattle.zp_buddy.specs.Opened.{IsOpenedTo}
use Rattle.zp_buddy.proofs.opening.add_all_pages.Given as goal

abbrev pub invariant-heads : goal.invariant-heads
invariant-heads l = record {
  largest : l.area.largest ≡ l.initial.area.largest;
  opened : IsOpenedTo l.initial.area.largest (length l.initial.area.rows.states) l.at l.area.rows.states l.area.rows.lists;
  table : length l.area.rows.lists ≡ length l.initial.area.rows.lists;
  kinds : l.area.kinds ≡ l.initial.area.kinds;
  inside : l.at ≤ length l.initial.area.rows.states;
  order : l.order ≤ l.initial.area.largest;
  aligned : l.at % 2 ^ l.order ≡ 0;
  bound : (l.order ≡ l.initial.area.largest) ⊎ (length l.initial.area.rows.states - l.at < 2 ^ l.order);
  rest : (i : ℕ) → l.at ≤ i → i < length l.initial.area.rows.states → IsClearRun l.initial.area.largest l.area.rows.states l.area.rows.lists i 0;
}

abbrev pub decreases-heads : goal.decreases-heads
decreases-heads l = length l.initial.area.rows.states - l.at
