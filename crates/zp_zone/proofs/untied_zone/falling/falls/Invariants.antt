use Rattle.std.proofs.Common.{ℕ, ◌≡◌, ◌<◌, ◌+◌, get_or}
use Rattle.zp_zone.proofs.untied_zone.falling.falls.Given as goal

-- the pages so far fall, and `page` is the last of them
abbrev pub invariant-pages : goal.invariant-pages
invariant-pages l = record {
  last : l.page + l.next-index ≡ l.first;
  fall : (d : ℕ) → d < l.next-index → get_or l.rest d 0 + d + 1 ≡ l.first;
}
