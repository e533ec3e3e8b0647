use Rattle.std.proofs.Common.{ℕ, ◌≡◌, ◌+◌, ◌<◌, true}
use Rattle.zp_model.specs.Block.{has}
use Rattle.zp_plain.proofs.block.has_run.Given as goal

-- the pages before the index are in the set
abbrev pub invariant-pages : goal.invariant-pages
invariant-pages l = (j : ℕ) → j < l.i → has l.set (l.head + j) ≡ true
