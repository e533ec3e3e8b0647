use Rattle.std.proofs.Common.{◌≡◌}
use Rattle.zp_share.proofs.RunUses.{IsLending}
use Rattle.zp_share.proofs.page_uses.PageUses.lend_cut.Given as goal

-- the blocks of the cut before page `next` are lent, and `left` pages are to be
abbrev pub invariant-tiles : goal.invariant-tiles
invariant-tiles l = record {
  base : l.self.base ≡ l.fn.self.base;
  lending : IsLending l.largest (λ _. l.kind) l.fn.self.uses l.self.uses l.fn.from l.fn.pages l.next l.left;
}

abbrev pub decreases-tiles : goal.decreases-tiles
decreases-tiles l = l.left
