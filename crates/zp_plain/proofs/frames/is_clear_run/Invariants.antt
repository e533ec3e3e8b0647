use Rattle.std.proofs.Common.{ℕ, ◌≤◌, ◌<◌}
use Rattle.zp_plain.specs.Clear.{IsClearPage}
use Rattle.zp_plain.proofs.frames.is_clear_run.Given as goal

-- no page before `i` is free or on a further list
abbrev pub invariant-pages : goal.invariant-pages
invariant-pages l = (p : ℕ) → l.fn.first ≤ p → p < l.i → IsClearPage l.free l.sides p
