use Rattle.std.proofs.Common.{ℕ}
use Rattle.std.specs.List.{IsFirstMaxByKey}
use Rattle.zp_drawing.proofs.cells.first_most.Given as goal

-- the first of the largest counts so far
abbrev pub invariant-kinds : goal.invariant-kinds
invariant-kinds l = IsFirstMaxByKey (λ (n : ℕ). n) l.counts l.number l.best
