use Rattle.std.proofs.Common.{◌≡◌, ◌≤◌, List, map, ◌∙◌, ap, sym, subst, arith}
use Rattle.std.specs.List.{sum_by}
use Rattle.zp_model.specs.Zone.{pages_of}
use Rattle.zp_model.specs.Lawful.{IsLawful}
use Rattle.zp_share.specs.PlainShares.{PlainZoneShare}
use Rattle.zp_share.specs.Shares.{plain}
use Rattle.zp_share.specs.Gathering.{AddsUp, cached_pages, owns_at, totals_of}
use Rattle.zp_share.proofs.Gathered.{gathered_once, same_totals}
use Rattle.zp_share.proofs.gathering.gather_zone.Goals as goal

pub cached_pages-cached-requires-clause-few : goal.cached_pages-cached-requires-clause-few
cached_pages-cached-requires-clause-few c =
    let z = c.args.zone.now in
    let same = c.check_all.ensures in
    let os : List PlainZoneShare = owns_at (map plain c.args.shares.now) c.args.place in
    let x : AddsUp z.plain os =
    gathered_once z c.args.place c.args.shares.now (subst (λ y. IsLawful y.plain) same.zone c.counts-free.ensures.lawful) c.requires.place c.requires.crew same.agree in
    let few : sum_by cached_pages os ≤ pages_of z.plain = omega (arith, x.sum) in
    let n : c.pages-pages.result ≡ pages_of z.plain = c.pages-pages.ensures.pages ∙ ap (λ y. pages_of y.plain) same.zone in
    let e : sum_by cached_pages (owns_at (map plain c.check_all.new.shares) c.args.place) ≡ sum_by cached_pages os =
    ap (λ ss. sum_by cached_pages (owns_at (map plain ss) c.args.place)) same.shares in
    omega (arith, few, n, e, c.pages-pages.ensures.within)

-- each page of the zone lies in one place, also as the zone and the shares are read afterwards
once : (c : goal.After-cached_pages-cached) → AddsUp c.args.zone.now.plain (owns_at (map plain c.args.shares.now) c.args.place)
once c =
    gathered_once c.args.zone.now c.args.place c.args.shares.now (subst (λ y. IsLawful y.plain) c.check_all.ensures.zone c.counts-free.ensures.lawful) c.requires.place c.requires.crew
    c.check_all.ensures.agree

once_read : (c : goal.After-cached_pages-cached) → AddsUp c.check_all.new.zone.plain (owns_at (map plain c.check_all.new.shares) c.args.place)
once_read c =
    subst (λ z. AddsUp z.plain (owns_at (map plain c.check_all.new.shares) c.args.place)) (sym c.check_all.ensures.zone)
    (subst (λ ss. AddsUp c.args.zone.now.plain (owns_at (map plain ss) c.args.place)) (sym c.check_all.ensures.shares) (once c))

pub overflow_sub-result-3 : goal.overflow_sub-result-3
overflow_sub-result-3 c = let free = ap (λ k. k.free) c.counts-free.ensures.counts in omega (arith, (once_read c).sum, free)

pub returns-clause-totals : goal.returns-clause-totals
returns-clause-totals c =
    let free = ap (λ k. k.free) c.counts-free.ensures.counts in
    same_totals _ (totals_of c.check_all.new.zone.plain (owns_at (map plain c.check_all.new.shares) c.args.place)) free c.posted_pages-posted.ensures.pages c.cached_pages-cached.ensures
    (omega (arith, (once_read c).sum, free))
    ∙ (λ i. totals_of (c.check_all.ensures.zone i).plain (owns_at (map plain (c.check_all.ensures.shares i)) c.args.place))

pub returns-clause-adds_up : goal.returns-clause-adds_up
returns-clause-adds_up c = once c
