use Rattle.std.proofs.Common.{◌≡◌, ◌<◌, ℕ, get_or}
use Rattle.zp_table.specs.Entries.{blank}
use Rattle.zp_table.proofs.table.write_each.Given as goal

-- the entries so far are this one
abbrev pub invariant-loop-it : goal.invariant-loop-it
invariant-loop-it l = (k : ℕ) → k < l.it-index → get_or l.entries k blank ≡ l.entry
