use Rattle.std.proofs.Common.{ℕ, ◌≡◌, ◌<◌, ◌+◌, get_or}
use Rattle.zp_zone.proofs.untied_zone.parts.put_pages.Given as goal

-- the pages so far rise from the first one
abbrev pub invariant-loop-page : goal.invariant-loop-page
invariant-loop-page l = (l.next ≡ l.fn.first + l.page-index) × ((k : ℕ) → k < l.page-index → get_or l.pages k 0 ≡ l.fn.first + k)
