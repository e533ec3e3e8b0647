use Rattle.std.proofs.Common.{ℕ, ◌≤◌, ◌<◌}
use Rattle.zp_model.specs.Rows.{IsLoose}
use Rattle.zp_buddy.proofs.clear.is_clear_run.Given as goal

-- no page before `i` is on a list
abbrev pub invariant-pages : goal.invariant-pages
invariant-pages l = (p : ℕ) → l.fn.at ≤ p → p < l.i → IsLoose l.area.rows.lists p
