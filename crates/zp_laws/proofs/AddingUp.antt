-- Free, out and posted pages add up to the zone's pages: the places of all pages are counted page by page, and block by block.
use Rattle.std.proofs.Common.{ℕ, suc, zero, ◌+◌, ◌^◌, ◌≡◌, refl, sym, ◌∙◌, ap, arith, false, List, [], length, get_or, Option, Some, None}
use Rattle.std.specs.List.{range_with_len, sum_by, count_by}
use Rattle.std.proofs.lemmas.List.{get_or_default}
use Rattle.std.proofs.lemmas.List.Sums.{sum_by-cons}
use Rattle.std.proofs.lemmas.List.FromFn.{fill_by_all}
use Rattle.zp_model.specs.Block.{has, in_run, IsBlock, size}
use Rattle.zp_model.specs.Zone.{PlainZone, Holding, PostedBlock, holding_at, held_pages, out_pages, posted_pages, pages_of}
use Rattle.zp_model.specs.Lawful.{holding_has, times_out, times_posted, IsLawful}
use Rattle.zp_laws.proofs.Counting.{one_if, sums_within, sums_together, exchanged, sum-map, sums-same, count-none, count-in_run, size-range}
use Rattle.zp_laws.proofs.HandedOut.{count_posted}
use Rattle.zp_laws.proofs.Keeping.{AllPosted, one_place}

ones_below : (a n : ℕ) → sum_by (λ i. 1) (range_with_len a n) ≡ n
ones_below a zero = refl
ones_below a (suc n) = omega (arith, sum_by-cons (λ (i : ℕ). 1) a (range_with_len (a + 1) n), ones_below (a + 1) n)

-- how many pages of a zone a holding has
holding-pages : (m pages h : ℕ) (o : Option Holding) → ((x : Holding) → o ≡ Some x → IsBlock m pages h x.order) →
    count_by (λ i. holding_has h i o) (range_with_len 0 pages) ≡ held_pages o
holding-pages m pages h None b = count-none (λ i. false) 0 pages (λ i lo hi. refl)
holding-pages m pages h (Some x) b = count-in_run h x.order pages (b x refl).inside

out-pages : (z : PlainZone) → IsLawful z → sum_by (times_out z.out) (range_with_len 0 (pages_of z)) ≡ out_pages z
unfolding times_out out_pages
out-pages z l =
    let out = z.out in
    let pages = range_with_len 0 (pages_of z) in
    let heads = range_with_len 0 (length z.out) in
    exchanged (λ h i. one_if (holding_has h i (holding_at out h))) heads pages
    ∙ sums-same (λ h. count_by (λ i. holding_has h i (holding_at out h)) pages) (λ h. held_pages (holding_at out h)) 0 (length out)
    (λ h lo lt. holding-pages z.area.largest (pages_of z) h (holding_at out h) (λ x e. (l.out h x e).0))
    ∙ sym (sum-map held_pages (holding_at out) heads)
    ∙ sym (ap (λ (os : List (Option Holding)). sum_by held_pages os) (fill_by_all (holding_at out) out (length out) None refl (λ i lt. refl)))

-- how many pages of a zone some posted blocks have
posted-list : (m pages : ℕ) (ps : List PostedBlock) → AllPosted m pages ps → sum_by (count_posted ps) (range_with_len 0 pages) ≡ sum_by (λ (p : PostedBlock). 2 ^ p.order) ps
posted-list m pages ps all =
    exchanged (λ (p : PostedBlock) i. one_if (in_run p.head p.order i)) ps (range_with_len 0 pages)
    ∙ sums_within (λ (p : PostedBlock). count_by (in_run p.head p.order) (range_with_len 0 pages)) (λ (p : PostedBlock). 2 ^ p.order) ps
    (λ i d lt. count-in_run (get_or ps i d).head (get_or ps i d).order pages (all i d lt).inside)

posted-pages : (z : PlainZone) → IsLawful z → sum_by (times_posted z.posted) (range_with_len 0 (pages_of z)) ≡ posted_pages z
unfolding times_posted posted_pages
posted-pages z l =
    exchanged (λ ps i. count_posted ps i) z.posted (range_with_len 0 (pages_of z))
    ∙ sums_within (λ (ps : List PostedBlock). sum_by (count_posted ps) (range_with_len 0 (pages_of z))) (λ (ps : List PostedBlock). sum_by (λ (p : PostedBlock). 2 ^ p.order) ps) z.posted
    (λ w d lt. rw (get_or_default z.posted w d [] lt) (posted-list z.area.largest (pages_of z) (get_or z.posted w []) (l.posted w)))

pub pages_add_up : (z : PlainZone) → IsLawful z → size z.area.free + out_pages z + posted_pages z ≡ pages_of z
pages_add_up z l =
    let pages = range_with_len 0 (pages_of z) in
    let free : ℕ → ℕ = λ i. one_if (has z.area.free i) in
    let places : ℕ → ℕ = λ i. free i + times_out z.out i + times_posted z.posted i in
    let all : sum_by places pages ≡ pages_of z =
    sums-same places (λ i. 1) 0 (pages_of z) (λ i lo lt. one_place z l i (omega arith)) ∙ ones_below 0 (pages_of z) in
    omega (
      arith,
      sums_together (λ i. free i + times_out z.out i) (times_posted z.posted) pages,
      sums_together free (times_out z.out) pages,
      size-range z.area.free,
      out-pages z l,
      posted-pages z l,
    )
