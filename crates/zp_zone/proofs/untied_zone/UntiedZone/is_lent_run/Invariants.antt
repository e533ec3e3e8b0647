use Rattle.std.proofs.Common.{ℕ, ◌-◌, ◌≡◌, ◌≤◌, ◌<◌, true}
use Rattle.std.specs.Option.{is_some}
use Rattle.zp_model.specs.Runs.{block_around}
use Rattle.zp_model.specs.Zone.{pages_of}
use Rattle.zp_zone.proofs.untied_zone.UntiedZone.is_lent_run.Given as goal

-- the pages before `next` are lent
abbrev pub invariant-looks : goal.invariant-looks
invariant-looks l = record {
  from : l.fn.at ≤ l.next;
  within : l.next ≤ pages_of l.fn.self.plain;
  lent : (i : ℕ) → l.fn.at ≤ i → i < l.next → is_some (block_around l.fn.self.plain l.fn.worker i) ≡ true;
}

abbrev pub decreases-looks : goal.decreases-looks
decreases-looks l = l.end - l.next
