use Rattle.std.proofs.Common.{◌≡◌, take, map}
use Rattle.std.specs.List.{sum_by}
use Rattle.zp_share.specs.Shares.{plain}
use Rattle.zp_share.specs.Gathering.{cached_pages, owns_at}
use Rattle.zp_share.proofs.gathering.cached_pages.Given as goal

abbrev pub invariant-loop-share : goal.invariant-loop-share
invariant-loop-share l = l.pages ≡ sum_by cached_pages (owns_at (map plain (take l.share-index l.shares)) l.place)
