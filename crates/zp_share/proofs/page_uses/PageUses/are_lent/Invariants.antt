use Rattle.std.proofs.Common.{ℕ, ◌-◌, ◌≡◌, ◌≤◌, ◌<◌, true}
use Rattle.zp_share.specs.PageUses.{is_lent_page}
use Rattle.zp_share.proofs.page_uses.PageUses.are_lent.Given as goal

-- the pages before `next` are lent
abbrev pub invariant-looks : goal.invariant-looks
invariant-looks l = record {
  from : l.from ≤ l.next;
  lent : (i : ℕ) → l.from ≤ i → i < l.next → is_lent_page l.self.uses i ≡ true;
}

abbrev pub decreases-looks : goal.decreases-looks
decreases-looks l = l.end - l.next
