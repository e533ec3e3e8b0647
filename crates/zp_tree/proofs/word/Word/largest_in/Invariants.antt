use Rattle.std.proofs.Common.{ℕ, ◌+◌, ◌^◌, ◌≤◌}
use Rattle.zp_tree.specs.Words.{Has}
use Rattle.zp_tree.proofs.word.Word.largest_in.Given as goal

-- no block of a level that was looked at lies in the run
abbrev pub invariant-levels : goal.invariant-levels
invariant-levels l = (q k : ℕ) → Has l.fn.self q k → l.fn.place ≤ q → q + 2 ^ k ≤ l.fn.place + 2 ^ l.fn.level → k + l.down ≤ l.fn.level
