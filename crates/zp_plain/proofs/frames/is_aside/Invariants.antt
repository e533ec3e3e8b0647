use Rattle.std.proofs.Common.{ℕ, ◌≡◌, ◌<◌, false}
use Rattle.zp_model.specs.Rows.{list_at, stands_in}
use Rattle.zp_plain.proofs.frames.is_aside.Given as goal

-- the page stands on no list before the index
abbrev pub invariant-sides : goal.invariant-sides
invariant-sides l = (r : ℕ) → r < l.side-index → stands_in l.page (list_at l.sides r) ≡ false
