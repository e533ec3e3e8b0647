use Rattle.std.proofs.Common.{◌-◌, ◌≡◌, ◌≤◌}
use Rattle.zp_share.proofs.RunUses.{IsFreeing}
use Rattle.zp_share.proofs.page_uses.PageUses.free_run.Given as goal

-- the pages before `next` have come back
abbrev pub invariant-parts : goal.invariant-parts
invariant-parts l = record {
  base : l.self.base ≡ l.fn.self.base;
  from : l.fn.page - l.fn.self.base ≤ l.next;
  freeing : IsFreeing l.zone.plain l.fn.worker (l.fn.page - l.fn.zone.plain.base) l.fn.pages l.next l.end l.fn.self.uses l.self.uses;
}

abbrev pub decreases-parts : goal.decreases-parts
decreases-parts l = l.end - l.next
