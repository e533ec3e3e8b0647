use Rattle.std.proofs.Common.{◌-◌, ◌≡◌}
use Rattle.zp_model.specs.Books.{type_of_page}
use Rattle.zp_share.proofs.RunUses.{IsLending}
use Rattle.zp_share.proofs.page_uses.PageUses.lend_run.Given as goal

-- the blocks of the cut before page `next` are lent, and `left` pages are to be
abbrev pub invariant-tiles : goal.invariant-tiles
invariant-tiles l = record {
  base : l.self.base ≡ l.fn.self.base;
  lending : IsLending l.largest (type_of_page l.zone.plain) l.fn.self.uses l.self.uses (l.fn.page - l.fn.self.base) l.fn.pages l.next l.left;
}

abbrev pub decreases-tiles : goal.decreases-tiles
decreases-tiles l = l.left
