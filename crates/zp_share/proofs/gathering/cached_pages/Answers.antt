use Rattle.std.proofs.Common.{◌+◌, ◌≤◌, arith, ap}
use Rattle.zp_model.specs.declared.constants.TheConstants.{MAX_PAGES}
use Rattle.zp_share.specs.Shares.{share_at}
use Rattle.zp_share.specs.ZoneShares.{plain_share}
use Rattle.zp_share.specs.Gathering.{cached_pages}
use Rattle.zp_share.proofs.Gathered.{sum-owns_le}
use Rattle.zp_share.proofs.gathering.cached_pages.Goals as goal

pub overflow_add-pages : goal.overflow_add-pages
overflow_add-pages c =
    let i = c.loop-share.share-index in
    let r = c.share-item.result in
    let xs = c.args.shares.now in
    let a = sum-owns_le cached_pages c.args.place i xs r c.loop-share-test.true (c.requires.place i r c.loop-share-test.true) in
    let b = ap (λ s. cached_pages (plain_share (share_at s c.args.place))) c.share-item.is in
    let le : c.loop-share.pages + c.cached_pages-pages.result ≤ MAX_PAGES = omega (arith, a, b, c.requires.few, c.loop-share.invariant, c.cached_pages-pages.ensures) in
    omega arith
