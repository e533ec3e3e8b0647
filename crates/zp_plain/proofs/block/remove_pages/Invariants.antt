use Rattle.std.proofs.Common.{ℕ, ◌≡◌, ◌≤◌, ◌<◌, ◌&&◌, not, length}
use Rattle.zp_model.specs.Block.{has}
use Rattle.zp_model.specs.Runs.{is_within}
use Rattle.zp_plain.proofs.block.remove_pages.Given as goal

-- the marks before the index are set anew, and the others are as they were
abbrev pub invariant-pages : goal.invariant-pages
invariant-pages l = record {
  pages : length l.set.items ≡ length l.fn.set.items;
  done : (j : ℕ) → j < l.i → has l.set.items j ≡ (has l.fn.set.items j && not (is_within l.first l.pages j));
  left : (j : ℕ) → l.i ≤ j → has l.set.items j ≡ has l.fn.set.items j;
}
