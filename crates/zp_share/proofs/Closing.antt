-- A share is one still, and agrees with its zone, when it is closed again: after a request is answered, a page taken or put, and when it is opened.
use Rattle.std.specs.Prelude.{slice_set, replicate}
use Rattle.std.specs.List.{IsDistinct}
use Rattle.std.proofs.Common.{ℕ, ◌-◌, ◌≡◌, ◌==◌, inl, inr, refl, sym, ◌∙◌, ap, subst, arith, true, false, List, [], ◌∷◌, ◌++◌, length, map, Option, Some, ◌+◌, ◌<◌, ◌&&◌, None, All, get_or, zero, suc, ◌≤◌, Bool, cond, leb}
use Rattle.std.proofs.lemmas.Bool.{false≢true, cases_lt, le-leb, leb-true, and_parts, both_ways, eq-eqb, and_from}
use Rattle.std.proofs.lemmas.List.{map-set, length-set, length-append, get_or_past, length-map, get_or_default, get_or_append_left}
use Rattle.std.proofs.Math.ListN.{get_or-map}
use Rattle.std.proofs.lemmas.Bool.Decides.{nat_tests}
use Rattle.std.proofs.Math.Seq.{map-set_same}
use Rattle.std.proofs.lemmas.List.Elements.{All-map}
use Rattle.std.proofs.lemmas.Grind.{common_steps}
use Rattle.zp_model.specs.declared.migrate_type.MigrateType.{MigrateType}
use Rattle.zp_model.specs.Entries.{Entry}
use Rattle.zp_model.specs.declared.request.Request.{Request}
use Rattle.zp_model.specs.declared.request.Reply.{Reply}
use Rattle.zp_model.specs.MigrateType.{type_number, types_count}
use Rattle.zp_model.specs.Rows.{stands_in, list_at, front, rest}
use Rattle.zp_model.specs.Zone.{PlainZone, Holding, holding_at, is_of, workers_of}
use Rattle.zp_model.specs.Books.{blocks_after, blocks_after_in}
use Rattle.zp_model.specs.Step.{step}
use Rattle.zp_model.specs.Run.{is_distinct}
use Rattle.zp_model.proofs.Settles.{stands_cases, stands_first}
use Rattle.zp_model.proofs.RowLists.{replicated}
use Rattle.zp_laws.proofs.Sameness.{step-same}
use Rattle.zp_zone.specs.Seats.{ZoneState, SeatState, IsSeatOf, Agrees, IsNewTo, HasPages, has, asked, replied, replied_in, IsUnused}
use Rattle.zp_share.specs.declared.page_use.PageUse.{PageUse}
use Rattle.zp_share.specs.declared.page_use.PageUse.TheVariants.{Away, Lent, Cached}
use Rattle.zp_share.specs.PageUses.{HasSameCached, held, is_cached_as, all_as, uses_after, uses_after_in, IsPlace, UsesState, use_of, is_lent_as, use_at}
use Rattle.zp_share.specs.PlainShares.{back, without_back, lists_after, SectionsState}
use Rattle.zp_share.specs.Sections.{IsBack, IsForNoRun}
use Rattle.zp_share.specs.ZoneShares.{ZoneShareState, IsShare, IsNew, use_in, is_lent, cached_of, last_of, answered, answered_in, SharesIn, IsSection, HasAtMost, opening_share}
use Rattle.zp_share.specs.declared.zone_share.ZoneShare.TheInside.{Inside}
use Rattle.zp_share.proofs.OneUse.{IsIn, in_by_use, length-all_as, held-cached, held-away, in_at, use-set}
use Rattle.zp_share.proofs.Listing.{IsListing, lent-uncached, lent_there, unlisted, added, back_removed, standing_of_all, distinct-by_test, All-by_standing, is_distinct-true, distinct-back, back_stands, number_in, standing_cached, standing_in, front_removed, distinct_nil}

pub record AreNew (s : ZoneShareState) (ps : List ℕ) : Type 0 where
  pub each : (q : ℕ) → stands_in q ps ≡ true → IsNew s q
  pub distinct : IsDistinct (λ x y. x == y) ps

-- what the request names is the share's, and what the reply names is not
abbrev pub IsFit : Request → Reply → ZoneShareState → Type 0
IsFit (Request.Alloc k t m) (Reply.Page p) s = IsNew s p
IsFit (Request.AllocLow k) (Reply.Block x) s = IsNew s x.page
IsFit (Request.Free p k) Reply.Freed s = is_lent s p k ≡ true
IsFit (Request.Post p k to) Reply.Posted s = is_lent s p k ≡ true
IsFit Request.Collect (Reply.Block x) s = IsNew s x.page
IsFit (Request.Refill t m n) (Reply.Pages ps) s = AreNew s ps
IsFit (Request.Drain t ps) Reply.Drained s = IsBack s t ps
IsFit r q s = Unit {0}

pub listing : (s : ZoneShareState) → IsShare s → IsListing s.seat.part.base s.uses s.cached
listing s x = record { lists = x.lists; distinct = x.distinct; cached = x.cached }

-- what stands on a list of one page is that page
pub only : (q p : ℕ) → stands_in q (p ∷ []) ≡ true → q ≡ p
only q p e = elim (stands_cases q p [] e) [ inl same ↦ same | inr none ↦ absurd (false≢true none) ]

-- one page, on no list, changes its use
one_use : (s : ZoneShareState) (p : ℕ) (v : PageUse) → IsShare s → IsIn s.seat.part.base s.uses p → ((r : ℕ) → is_cached_as r (use_in s p) ≡ false) → ((r : ℕ) → is_cached_as r v ≡ false) →
    IsListing s.seat.part.base (slice_set s.uses (p - s.seat.part.base) v) s.cached
one_use s p v x i out o =
    unlisted s.seat.part.base v (p ∷ []) s.uses s.cached (listing s x)
    (λ q e. subst (λ n. IsIn s.seat.part.base s.uses n) (sym (only q p e)) i)
    (λ q e r. ap (λ n. is_cached_as r (use_in s n)) (only q p e) ∙ out r)
    o

new_use : (s : ZoneShareState) (p k : ℕ) (t : MigrateType) → IsShare s → IsNew s p → IsListing s.seat.part.base (slice_set s.uses (p - s.seat.part.base) (Lent k t)) s.cached
new_use s p k t x n = one_use s p (Lent k t) x n.place (λ r. ap (is_cached_as r) n.away) (λ r. refl)

pub lent_in : (s : ZoneShareState) (p k : ℕ) → is_lent s p k ≡ true → IsIn s.seat.part.base s.uses p
lent_in s p k e = in_by_use s.seat.part.base p s.uses (lent_there k (use_in s p) e)

gone_use : (s : ZoneShareState) (p k : ℕ) → IsShare s → is_lent s p k ≡ true → IsListing s.seat.part.base (slice_set s.uses (p - s.seat.part.base) Away) s.cached
gone_use s p k x e = one_use s p Away x (lent_in s p k e) (lent-uncached k (use_in s p) e) (λ r. refl)

answered-listing : (r : Request) (q : Reply) (s : ZoneShareState) → IsShare s → IsFit r q s → IsListing s.seat.part.base (uses_after s.seat.part.base r q s.uses) (lists_after r q s.cached)
answered-listing (Request.Alloc k t m) (Reply.Page p) s x f = new_use s p k t x f
answered-listing (Request.AllocLow k) (Reply.Block b) s x f = new_use s b.page k b.kind x f
answered-listing (Request.Free p k) Reply.Freed s x f = gone_use s p k x f
answered-listing (Request.Post p k to) Reply.Posted s x f = gone_use s p k x f
answered-listing Request.Collect (Reply.Block b) s x f = new_use s b.page b.order b.kind x f
answered-listing (Request.Refill t m n) (Reply.Pages ps) s x f =
    added s.seat.part.base t ps s.uses s.cached (listing s x) (λ q e. (f.each q e).place) (λ q e r. ap (is_cached_as r) (f.each q e).away) f.distinct
answered-listing (Request.Drain t ps) Reply.Drained s x f =
    subst (λ l. IsListing s.seat.part.base (all_as s.seat.part.base Away l s.uses) (slice_set s.cached (type_number t) (without_back (length ps) (cached_of s t)))) (sym f.pages)
    (back_removed s.seat.part.base (length ps) t s.uses s.cached (listing s x) f.within)
answered-listing r q s x f = listing s x

-- what the uses stand for changes as the worker's part does
pub answered-blocks : (base w : ℕ) (r : Request) (q : Reply) (us : List PageUse) → blocks_after base w r q (map (held w) us) ≡ map (held w) (uses_after base r q us)
answered-blocks base w (Request.Drain t ps) Reply.Drained us = held-away base w ps us
answered-blocks base w r q us = grind (arith, held-cached, map-set {A = PageUse} {B = Option Holding})

pub length-uses_after : (base : ℕ) (r : Request) (q : Reply) (us : List PageUse) → length (uses_after base r q us) ≡ length us
length-uses_after base r q us = grind (arith, length-set {A = PageUse}, length-all_as)

last-of : (es : List Entry) (e : Entry) → last_of (es ++ e ∷ []) ≡ Some e
last-of [] e = refl
last-of (x ∷ es) e = grind (arith, last-of es e)

-- a share is one still when its request is answered
pub answered_keeps : (r : Request) (q : Reply) (s : ZoneShareState) → IsShare s → IsFit r q s → IsShare (answered r q s)
answered_keeps r q s x f =
    let l = answered-listing r q s x f in
    let e : Entry = record { worker = s.seat.worker; request = r; reply = q } in
    record {
      blocks = ap (blocks_after s.seat.part.base s.seat.worker r q) x.blocks ∙ answered-blocks s.seat.part.base s.seat.worker r q s.uses;
      lists = l.lists;
      distinct = l.distinct;
      cached = l.cached;
      sections = omega (arith, x.sections, length-append s.seat.part.entries (e ∷ []));
      last = sym (last-of s.seat.part.entries e);
    }

-- the share that these parts are
abbrev pub share_of : Inside → ZoneShareState
share_of o = record { seat = o.seat; uses = o.uses.uses; cached = o.cached; sections = o.sections }

abbrev pub IsWhole : Inside → Type 0
IsWhole o = (o.uses.base ≡ o.seat.part.base) × IsShare (share_of o)

-- the parts m are the parts o, when their request was answered so
pub record IsAnswered (r : Request) (q : Reply) (o m : Inside) : Type 0 where
  pub whole : IsWhole m
  pub same : share_of m ≡ answered r q (share_of o)

pub answered_parts : (r : Request) (q : Reply) (o m : Inside) (w : ℕ) → IsWhole o → IsFit r q (share_of o) →
    m.seat ≡ replied r q o.seat →
    m.uses ≡ record { base = o.uses.base; uses = uses_after o.uses.base r q o.uses.uses } →
    m.cached ≡ lists_after r q o.cached →
    m.sections ≡ record { made = o.sections.made + 1; last = Some (record { worker = w; request = r; reply = q }) } →
    w ≡ o.seat.worker → IsAnswered r q o m
answered_parts r q o m w x f es eu el en ew =
    let V : SeatState → List PageUse → List (List ℕ) → SectionsState → ZoneShareState = λ s us ls n. record { seat = s; uses = us; cached = ls; sections = n } in
    let W : ℕ → ℕ → ZoneShareState =
    λ b v. V (replied r q o.seat) (uses_after b r q o.uses.uses) (lists_after r q o.cached) (record { made = o.sections.made + 1; last = Some (record { worker = v; request = r; reply = q }) }) in
    let parts : share_of m ≡ W o.uses.base w = λ i. V (es i) (eu i).uses (el i) (en i) in
    let named : W o.uses.base w ≡ answered r q (share_of o) = λ i. W (x.0 i) (ew i) in
    let same : share_of m ≡ answered r q (share_of o) = parts ∙ named in
    record {
      whole = (ap (λ u. u.base) eu ∙ x.0 ∙ sym (ap (λ s. s.part.base) es), subst (λ s. IsShare s) (sym same) (answered_keeps r q (share_of o) x.1 f));
      same = same;
    }

-- a request that is for no run says itself what it makes of the share, and of the seat
pub answered-plainly : (z : PlainZone) (r : Request) (q : Reply) (s : ZoneShareState) → IsForNoRun r → answered r q s ≡ answered_in z r q s
answered-plainly z r q s none = go r none
  where
    go : (r : Request) → IsForNoRun r → answered r q s ≡ answered_in z r q s
    go (Request.AllocRun n a m) none = absurd none
    go (Request.AllocRunAt p n) none = absurd none
    go (Request.FreeRun p n) none = absurd none
    go r none = refl

pub replied-plainly : (z : PlainZone) (r : Request) (q : Reply) (s : SeatState) → IsForNoRun r → replied_in z r q s ≡ replied r q s
replied-plainly z r q s none = go r none
  where
    go : (r : Request) → IsForNoRun r → replied_in z r q s ≡ replied r q s
    go (Request.AllocRun n a m) none = absurd none
    go (Request.AllocRunAt p n) none = absurd none
    go (Request.FreeRun p n) none = absurd none
    go r none = refl

-- uses with the same pages cached are listed alike
cached_alike : (base r p : ℕ) (us vs : List PageUse) → HasSameCached us vs → is_cached_as r (use_of base vs p) ≡ is_cached_as r (use_of base us p)
cached_alike base r p us vs x = go (leb base p)
  where
    go : (b : Bool) → is_cached_as r (cond b (use_at vs (p - base)) Away) ≡ is_cached_as r (cond b (use_at us (p - base)) Away)
    go true = x r (p - base)
    go false = refl

-- a request for a run that changed what is out in the worker's name so, and what is out is what the uses vs stand for
pub record IsRunUsed (z : PlainZone) (r : Request) (q : Reply) (base w : ℕ) (us vs : List PageUse) : Type 0 where
  pub cached : HasSameCached us vs
  pub blocks : blocks_after_in z base w r q (map (held w) us) ≡ map (held w) vs
  pub uses : vs ≡ uses_after_in z base w r q us

-- the parts m are the parts o, when their request for a run was answered so
pub run_parts_answered : (z : PlainZone) (r : Request) (q : Reply) (o m : Inside) (w : ℕ) → IsWhole o → IsRunUsed z r q o.seat.part.base o.seat.worker o.uses.uses m.uses.uses →
    m.seat ≡ replied_in z r q o.seat → m.uses.base ≡ o.uses.base → m.cached ≡ lists_after r q o.cached → lists_after r q o.cached ≡ o.cached →
    m.sections ≡ record { made = o.sections.made + 1; last = Some (record { worker = w; request = r; reply = q }) } →
    w ≡ o.seat.worker → IsWhole m × (share_of m ≡ answered_in z r q (share_of o))
run_parts_answered z r q o m w x used es eb el same_lists en ew =
    let V : SeatState → List PageUse → List (List ℕ) → SectionsState → ZoneShareState = λ s us ls n. record { seat = s; uses = us; cached = ls; sections = n } in
    let W : ℕ → ZoneShareState =
    λ v. V (replied_in z r q o.seat) (uses_after_in z o.seat.part.base o.seat.worker r q o.uses.uses) (lists_after r q o.cached) (record { made = o.sections.made + 1; last = Some (record { worker = v; request = r; reply = q }) }) in
    let same : share_of m ≡ answered_in z r q (share_of o) = (λ i. V (es i) (used.uses i) (el i) (en i)) ∙ ap W ew in
    let l : IsListing o.seat.part.base o.uses.uses o.cached = listing (share_of o) x.1 in
    let e : Entry = record { worker = o.seat.worker; request = r; reply = q } in
    let whole : IsShare (answered_in z r q (share_of o)) = record {
      blocks = ap (blocks_after_in z o.seat.part.base o.seat.worker r q) x.1.blocks ∙ used.blocks ∙ ap (map (held o.seat.worker)) used.uses;
      lists = ap (λ (k : List (List ℕ)). length k) same_lists ∙ l.lists;
      distinct = λ k. subst (λ c. IsDistinct (λ a b. a == b) (list_at c k)) (sym same_lists) (l.distinct k);
      cached = λ k p.
          ap (λ c. stands_in p (list_at c k)) same_lists
          ∙ l.cached k p
          ∙ sym (cached_alike o.seat.part.base k p o.uses.uses (uses_after_in z o.seat.part.base o.seat.worker r q o.uses.uses) (subst (HasSameCached o.uses.uses) used.uses used.cached));
      sections = omega (arith, x.1.sections, length-append o.seat.part.entries (e ∷ []));
      last = sym (last-of o.seat.part.entries e);
    } in
    ((eb ∙ x.0 ∙ sym (ap (λ s. s.part.base) es), subst (λ s. IsShare s) (sym same) whole), same)

-- a share that agrees with its zone has what is out in the worker's name there, and its sections are the worker's entries
shares_in : (z : ZoneState) (s : ZoneShareState) → IsShare s → IsSeatOf z s.seat → s.seat.worker < workers_of z.plain → Agrees z s.seat → SharesIn z s
shares_in z s x fit known a = record {
  tie = fit;
  worker = known;
  blocks = sym (ap (λ p. p.blocks) a) ∙ x.blocks;
  sections = x.sections ∙ ap (λ p. length p.entries) a;
  last = x.last ∙ ap (λ p. last_of p.entries) a;
}

pub section_is : (r : Request) (q : Reply) (z y : ZoneState) (o m : Inside) (s : ZoneShareState) → IsWhole o → share_of o ≡ s → IsWhole m → share_of m ≡ answered_in z.plain r q (share_of o) →
    q ≡ (step z.plain o.seat.worker r).reply → y ≡ asked o.seat.worker r z →
    IsSeatOf z s.seat → IsSeatOf y m.seat → o.seat.worker < workers_of z.plain → Agrees z o.seat × Agrees y m.seat →
    IsSection r q z y s (share_of m)
section_is r q z y o m s x view n same reply zone fit0 fit1 known agree =
    let workers : workers_of y.plain ≡ workers_of z.plain = ap (λ v. workers_of v.plain) zone ∙ (step-same z.plain o.seat.worker r).workers in
    let who : m.seat.worker ≡ o.seat.worker = ap (λ v. v.seat.worker) same in
    let fit : IsSeatOf z o.seat = ap (λ v. v.seat.tie) view ∙ fit0 in
    subst (λ v. IsSection r q z y v (share_of m)) view
    (record {
      reply = reply;
      zone = zone;
      share = same;
      before = shares_in z (share_of o) x.1 fit known agree.0;
      after = shares_in y (share_of m) n.1 fit1 (omega (arith, workers, who, known)) agree.1;
    })

-- a page at which the seat has a block after the answer is one of the zone
has_place : (r : Request) (q : Reply) (s : ZoneShareState) (seat : SeatState) (p k : ℕ) → IsShare s → seat ≡ replied r q s.seat → has seat p k ≡ true →
    IsIn s.seat.part.base s.uses p
has_place r q s seat p k x e h =
    let parts = and_parts _ _ (ap (λ v. has v p k) (sym e) ∙ h) in
    let many : length (blocks_after s.seat.part.base s.seat.worker r q s.seat.part.blocks) ≡ length s.uses =
    ap length (ap (blocks_after s.seat.part.base s.seat.worker r q) x.blocks ∙ answered-blocks s.seat.part.base s.seat.worker r q s.uses)
    ∙ length-map (uses_after s.seat.part.base r q s.uses) (held s.seat.worker)
    ∙ length-uses_after s.seat.part.base r q s.uses in
    record {
      from = leb-true s.seat.part.base p parts.0;
      below = below s.seat.worker k (p - s.seat.part.base) (length s.uses) (blocks_after s.seat.part.base s.seat.worker r q s.seat.part.blocks) many parts.1;
    }
  where
    below : (w k h n : ℕ) (bs : List (Option Holding)) → length bs ≡ n → is_of w k (holding_at bs h) ≡ true → h < n
    below w k h n bs many e = elim (cases_lt h (length bs)) [
      | inl lt ↦ omega (arith, lt, many)
      | inr ge ↦ absurd (both_ways _ (ap (is_of w k) (get_or_past bs h None ge)) e)
    ]

-- what is out where a page is the share's
pub held_at : (s : ZoneShareState) (p k : ℕ) → IsShare s → IsIn s.seat.part.base s.uses p → has s.seat p k ≡ is_of s.seat.worker k (held s.seat.worker (use_in s p))
held_at s p k x i =
    let at : holding_at s.seat.part.blocks (p - s.seat.part.base) ≡ held s.seat.worker (use_in s p) =
    ap (λ b. holding_at b (p - s.seat.part.base)) x.blocks
    ∙ get_or-map (held s.seat.worker) s.uses (p - s.seat.part.base) Away
    ∙ ap (held s.seat.worker) (in_at s.seat.part.base p s.uses i) in
    ap (λ b. b && is_of s.seat.worker k (holding_at s.seat.part.blocks (p - s.seat.part.base))) (le-leb s.seat.part.base p i.from) ∙ ap (is_of s.seat.worker k) at

pub away_by_none : (w : ℕ) (u : PageUse) → ((k : ℕ) → is_of w k (held w u) ≡ false) → u ≡ Away
away_by_none w Away f = refl
away_by_none w (Lent j t) f = grind (arith, nat_tests, f j)
away_by_none w (Cached t) f = grind (arith, nat_tests, f 0)

pub new_page : (r : Request) (q : Reply) (o : Inside) (seat : SeatState) (p k : ℕ) → IsWhole o → seat ≡ replied r q o.seat → has seat p k ≡ true → IsNewTo o.seat p → IsNew (share_of o) p
new_page r q o seat p k x e h n =
    let i = has_place r q (share_of o) seat p k x.1 e h in
    record { place = i; away = away_by_none o.seat.worker (use_in (share_of o) p) (λ j. sym (held_at (share_of o) p j x.1 i) ∙ n j) }

pub new_pages : (r : Request) (q : Reply) (o : Inside) (seat : SeatState) (ps : List ℕ) → IsWhole o → seat ≡ replied r q o.seat → HasPages seat ps → is_distinct ps ≡ true →
    All (IsNewTo o.seat) ps → AreNew (share_of o) ps
new_pages r q o seat ps x e h d n = record {
  each = λ p a. new_page r q o seat p 0 x e (standing_of_all (λ v. has seat v 0 ≡ true) ps h p a) (standing_of_all (IsNewTo o.seat) ps n p a);
  distinct = distinct-by_test ps d;
}

-- a cached page is out to the worker, with order 0
pub cached_has : (s : ZoneShareState) (p : ℕ) (u : PageUse) → IsShare s → IsIn s.seat.part.base s.uses p → use_in s p ≡ u → is_of s.seat.worker 0 (held s.seat.worker u) ≡ true → has s.seat p 0 ≡ true
cached_has s p u x i e h = held_at s p 0 x i ∙ ap (λ v. is_of s.seat.worker 0 (held s.seat.worker v)) e ∙ h

pub places : (o : Inside) (ps : List ℕ) → IsWhole o → ((q : ℕ) → stands_in q ps ≡ true → IsIn o.seat.part.base o.uses.uses q) → All (IsPlace o.uses) ps
places o ps x f = All-by_standing (IsPlace o.uses) ps (λ q e. subst (λ b. IsIn b o.uses.uses q) (sym x.0) (f q e))

back_on : (o : Inside) (t : MigrateType) (ps : List ℕ) (q : ℕ) → IsBack (share_of o) t ps → stands_in q ps ≡ true → stands_in q (cached_of (share_of o) t) ≡ true
back_on o t ps q b e = back_stands q (length ps) (cached_of (share_of o) t) b.within (ap (stands_in q) (sym b.pages) ∙ e)

pub back_in : (o : Inside) (t : MigrateType) (ps : List ℕ) (q : ℕ) → IsWhole o → IsBack (share_of o) t ps → stands_in q ps ≡ true → IsIn o.seat.part.base o.uses.uses q
back_in o t ps q x b e = standing_in o.seat.part.base (type_number t) q o.uses.uses o.cached (listing (share_of o) x.1) (back_on o t ps q b e)

pub back_has : (o : Inside) (t : MigrateType) (ps : List ℕ) → IsWhole o → IsBack (share_of o) t ps → HasPages o.seat ps
back_has o t ps x b =
    All-by_standing (λ q. has o.seat q 0 ≡ true) ps
    (λ q e. cached_has (share_of o) q (Cached t) x.1 (back_in o t ps q x b e)
    (standing_cached o.seat.part.base q o.uses.uses o.cached t (listing (share_of o) x.1) (back_on o t ps q b e))
    (and_from _ _ refl (eq-eqb o.seat.worker o.seat.worker refl)))

pub back_distinct : (o : Inside) (t : MigrateType) (ps : List ℕ) → IsWhole o → IsBack (share_of o) t ps → is_distinct ps ≡ true
back_distinct o t ps x b =
    is_distinct-true ps
    (subst (λ l. IsDistinct (λ a c. a == c) l) (sym b.pages) (distinct-back (length ps) (cached_of (share_of o) t) (x.1.distinct (type_number t))))

-- the list of a type, as the code reads it at the type's number
pub list_read : (ls : List (List ℕ)) (n : ℕ) (t : MigrateType) (d : List ℕ) → type_number t < length ls → n ≡ type_number t → get_or ls n d ≡ list_at ls (type_number t)
list_read ls n t d lt e = ap (λ m. get_or ls m d) e ∙ sym (get_or_default ls (type_number t) [] d lt)

-- the pages that were read at the back of a type's list are its back
pub back_read : (o : Inside) (s : ZoneShareState) (t : MigrateType) (n count : ℕ) (d ps : List ℕ) → share_of o ≡ s → IsWhole o → n ≡ type_number t → count ≤ length (cached_of s t) →
    ps ≡ back count (get_or o.cached n d) → length ps ≡ count → IsBack (share_of o) t ps
back_read o s t n count d ps view x e le f many =
    let lt : type_number t < length o.cached = number_in o.seat.part.base o.uses.uses o.cached t (listing (share_of o) x.1) in
    let is : ps ≡ back count (cached_of (share_of o) t) = f ∙ ap (back count) (list_read o.cached n t d lt e) in
    let room : count ≤ length (cached_of (share_of o) t) = subst (λ v. count ≤ length (cached_of v t)) (sym view) le in
    record { within = omega (arith, many, room); pages = subst (λ m. ps ≡ back m (cached_of (share_of o) t)) (sym many) is }

pub list_changed : (ls : List (List ℕ)) (n : ℕ) (t : MigrateType) (d ys : List ℕ) (f : List ℕ → List ℕ) → type_number t < length ls → n ≡ type_number t → ys ≡ f (get_or ls n d) →
    slice_set ls n ys ≡ slice_set ls (type_number t) (f (list_at ls (type_number t)))
list_changed ls n t d ys f lt e g =
    ap (λ m. slice_set ls m ys) e ∙ ap (slice_set ls (type_number t)) (g ∙ ap f (list_read ls n t d lt e))

-- one page's use changes, and the block out at it stays
kept : (s : ZoneShareState) (p : ℕ) (v : PageUse) (ls : List (List ℕ)) → IsShare s → IsIn s.seat.part.base s.uses p → held s.seat.worker (use_in s p) ≡ held s.seat.worker v →
    IsListing s.seat.part.base (slice_set s.uses (p - s.seat.part.base) v) ls →
    IsShare (record s { uses = slice_set s.uses (p - s.seat.part.base) v; cached = ls })
kept s p v ls x i e l = record {
  blocks = x.blocks ∙ sym (map-set_same (held s.seat.worker) s.uses (p - s.seat.part.base) v Away (sym (ap (held s.seat.worker) (in_at s.seat.part.base p s.uses i) ∙ e)));
  lists = l.lists;
  distinct = l.distinct;
  cached = l.cached;
  sections = x.sections;
  last = x.last;
}

-- the front of a type's list is lent
taken_keeps : (s : ZoneShareState) (p : ℕ) (t : MigrateType) (ps : List ℕ) → IsShare s → cached_of s t ≡ p ∷ ps →
    IsShare (record s { uses = slice_set s.uses (p - s.seat.part.base) (Lent 0 t); cached = slice_set s.cached (type_number t) ps })
taken_keeps s p t ps x f =
    let on : stands_in p (cached_of s t) ≡ true = ap (stands_in p) f ∙ stands_first p ps in
    kept s p (Lent 0 t) (slice_set s.cached (type_number t) ps) x
    (standing_in s.seat.part.base (type_number t) p s.uses s.cached (listing s x) on)
    (ap (held s.seat.worker) (standing_cached s.seat.part.base p s.uses s.cached t (listing s x) on))
    (front_removed s.seat.part.base p t (Lent 0 t) ps s.uses s.cached (listing s x) (λ r. refl) f)

-- a lent page goes to the front of its type's list
abbrev put_in : ℕ → MigrateType → ZoneShareState → ZoneShareState
put_in p t s = record s { uses = slice_set s.uses (p - s.seat.part.base) (Cached t); cached = slice_set s.cached (type_number t) (p ∷ cached_of s t) }

put_keeps : (s : ZoneShareState) (p : ℕ) (t : MigrateType) → IsShare s → use_in s p ≡ Lent 0 t → IsShare (put_in p t s)
put_keeps s p t x u =
    let i : IsIn s.seat.part.base s.uses p = in_by_use s.seat.part.base p s.uses (lent_there 0 (use_in s p) (ap (is_lent_as 0) u)) in
    kept s p (Cached t) (slice_set s.cached (type_number t) (p ∷ cached_of s t)) x i (ap (held s.seat.worker) u)
    (added s.seat.part.base t (p ∷ []) s.uses s.cached (listing s x)
    (λ q e. subst (λ n. IsIn s.seat.part.base s.uses n) (sym (only q p e)) i)
    (λ q e r. ap (λ n. is_cached_as r (use_in s n)) (only q p e) ∙ ap (is_cached_as r) u)
    (distinct-by_test (p ∷ []) refl))

popped : (p : ℕ) (xs ys : List ℕ) → Some p ≡ front xs → ys ≡ rest xs → xs ≡ p ∷ ys
popped p xs ys f r = grind arith

-- the page that came off a list was its front
pub front_was : (o : Inside) (t : MigrateType) (n p : ℕ) (d ys : List ℕ) → IsWhole o → n ≡ type_number t → Some p ≡ front (get_or o.cached n d) → ys ≡ rest (get_or o.cached n d) →
    cached_of (share_of o) t ≡ p ∷ ys
front_was o t n p d ys x e f r =
    sym (list_read o.cached n t d (number_in o.seat.part.base o.uses.uses o.cached t (listing (share_of o) x.1)) e) ∙ popped p (get_or o.cached n d) ys f r

pub front_place : (o : Inside) (t : MigrateType) (p : ℕ) (ys : List ℕ) → IsWhole o → cached_of (share_of o) t ≡ p ∷ ys → IsPlace o.uses p
front_place o t p ys x f =
    subst (λ b. IsIn b o.uses.uses p) (sym x.0)
    (standing_in o.seat.part.base (type_number t) p o.uses.uses o.cached (listing (share_of o) x.1) (ap (stands_in p) f ∙ stands_first p ys))

pub taken_whole : (o : Inside) (u : UsesState) (t : MigrateType) (n p z : ℕ) (ys : List ℕ) → IsWhole o → n ≡ type_number t → cached_of (share_of o) t ≡ p ∷ ys → z ≡ 0 →
    u ≡ record { base = o.uses.base; uses = slice_set o.uses.uses (p - o.uses.base) (Lent z t) } →
    (u.base ≡ o.seat.part.base) × IsShare (record { seat = o.seat; uses = u.uses; cached = slice_set o.cached n ys; sections = o.sections })
taken_whole o u t n p z ys x en f ez eu =
    let V : List PageUse → List (List ℕ) → ZoneShareState = λ us ls. record { seat = o.seat; uses = us; cached = ls; sections = o.sections } in
    let same : V u.uses (slice_set o.cached n ys) ≡ V (slice_set o.uses.uses (p - o.uses.base) (Lent z t)) (slice_set o.cached n ys) = λ i. V (eu i).uses (slice_set o.cached n ys) in
    let named : V (slice_set o.uses.uses (p - o.uses.base) (Lent z t)) (slice_set o.cached n ys) ≡ V (slice_set o.uses.uses (p - o.seat.part.base) (Lent 0 t)) (slice_set o.cached (type_number t) ys) =
    λ i. V (slice_set o.uses.uses (p - x.0 i) (Lent (ez i) t)) (slice_set o.cached (en i) ys) in
    (ap (λ v. v.base) eu ∙ x.0, subst (λ s. IsShare s) (sym (same ∙ named)) (taken_keeps (share_of o) p t ys x.1 f))

pub put_whole : (o : Inside) (u : UsesState) (t : MigrateType) (n p : ℕ) (d ys : List ℕ) → IsWhole o → n ≡ type_number t →
    use_in (share_of o) p ≡ Lent 0 t → ys ≡ p ∷ get_or o.cached n d →
    u ≡ record { base = o.uses.base; uses = slice_set o.uses.uses (p - o.uses.base) (Cached t) } →
    (u.base ≡ o.seat.part.base) × IsShare (record { seat = o.seat; uses = u.uses; cached = slice_set o.cached n ys; sections = o.sections })
put_whole o u t n p d ys x en at ey eu =
    let lt : type_number t < length o.cached = number_in o.seat.part.base o.uses.uses o.cached t (listing (share_of o) x.1) in
    let V : List PageUse → List (List ℕ) → ZoneShareState = λ us ls. record { seat = o.seat; uses = us; cached = ls; sections = o.sections } in
    let same : V u.uses (slice_set o.cached n ys) ≡ V (slice_set o.uses.uses (p - o.uses.base) (Cached t)) (slice_set o.cached n ys) = λ i. V (eu i).uses (slice_set o.cached n ys) in
    let named : V (slice_set o.uses.uses (p - o.uses.base) (Cached t)) (slice_set o.cached n ys) ≡ put_in p t (share_of o) =
    λ i. V (slice_set o.uses.uses (p - x.0 i) (Cached t)) (list_changed o.cached n t d ys (λ l. p ∷ l) lt en ey i) in
    (ap (λ v. v.base) eu ∙ x.0, subst (λ v. IsShare v) (sym (same ∙ named)) (put_keeps (share_of o) p t x.1 at))

-- a page of the zone that was just lent is lent
pub lent_now : (o : Inside) (u : UsesState) (ls : List (List ℕ)) (t : MigrateType) (p z k : ℕ) → IsWhole o → IsPlace o.uses p → z ≡ k →
    u ≡ record { base = o.uses.base; uses = slice_set o.uses.uses (p - o.uses.base) (Lent z t) } →
    is_lent (record { seat = o.seat; uses = u.uses; cached = ls; sections = o.sections }) p k ≡ true
lent_now o u ls t p z k x place ez eu =
    ap (λ v. is_lent_as k (use_of o.seat.part.base v.uses p)) eu
    ∙ ap (λ b. is_lent_as k (use_of b (slice_set o.uses.uses (p - o.uses.base) (Lent z t)) p)) (sym x.0)
    ∙ ap (is_lent_as k) (use-set o.uses.base p (Lent z t) o.uses.uses place)
    ∙ eq-eqb z k ez

away_at : (n h : ℕ) → use_at (replicate n Away) h ≡ Away
away_at n h = grind (arith, common_steps)

away_for : (w n : ℕ) → replicate n None ≡ map (held w) (replicate n Away)
away_for w zero = refl
away_for w (suc n) = ap (λ l. None ∷ l) (away_for w n)

opening_keeps : (s : SeatState) → IsUnused s → IsShare (opening_share s (length s.part.blocks))
opening_keeps s e = record {
  blocks = e.blocks ∙ away_for s.worker (length s.part.blocks);
  lists = refl;
  distinct = λ r. subst (λ l. IsDistinct (λ a b. a == b) l) (sym (replicated types_count r [])) distinct_nil;
  cached = λ r p. ap (stands_in p) (replicated types_count r []) ∙ sym (ap (is_cached_as r) (nowhere (leb s.part.base p) (length s.part.blocks) (p - s.part.base)));
  sections = ap (λ (l : List Entry). length l) (sym e.entries);
  last = sym (ap last_of e.entries);
}
  where
    nowhere : (b : Bool) (n h : ℕ) → cond b (use_at (replicate n Away) h) Away ≡ Away
    nowhere b n h = grind (arith, away_at n h)

pub opening_whole : (o : Inside) (b n : ℕ) → IsUnused o.seat → o.uses ≡ record { base = b; uses = replicate n Away } → b ≡ o.seat.part.base → n ≡ length o.seat.part.blocks →
    o.cached ≡ replicate types_count [] → o.sections ≡ record { made = 0; last = None } → IsWhole o
opening_whole o b n e eu eb en el es =
    let same : share_of o ≡ opening_share o.seat (length o.seat.part.blocks) =
    (λ i. let s : ZoneShareState = record { seat = o.seat; uses = (eu i).uses; cached = el i; sections = es i } in s) ∙ ap (opening_share o.seat) en in
    (ap (λ u. u.base) eu ∙ eb, subst (λ s. IsShare s) (sym same) (opening_keeps o.seat e))

-- the shares of a worker's seats so far are few, and each is the worker's
pub opened_fit : (seats ys left : List SeatState) (zs : List ZoneShareState) (w n : ℕ) → zs ≡ map (λ (t : SeatState). opening_share t (length t.part.blocks)) ys → ys ++ left ≡ seats →
    length seats ≤ n → All (λ (s : SeatState). s.worker ≡ w) seats → (length zs ≤ n) × All (λ (z : ZoneShareState). z.seat.worker ≡ w) zs
opened_fit seats ys left zs w n e f few each =
    let opened : SeatState → ZoneShareState = λ t. opening_share t (length t.part.blocks) in
    let many : length ys + length left ≡ length seats = sym (length-append ys left) ∙ ap length f in
    let alike : length zs ≡ length ys = ap length e ∙ length-map ys opened in
    let all : All (λ (s : SeatState). s.worker ≡ w) ys =
    λ k d lt. ap (λ (s : SeatState). s.worker) (sym (get_or_append_left ys left d k lt) ∙ ap (λ l. get_or l k d) f) ∙ each k d (omega (arith, lt, many)) in (
      omega (arith, many, alike, few),
      subst (λ l. All (λ (z : ZoneShareState). z.seat.worker ≡ w) l) (sym e) (All-map (λ (z : ZoneShareState). z.seat.worker ≡ w) opened ys all),
    )

-- and their lists have no page
pub opened_short : (ys : List SeatState) (zs : List ZoneShareState) (n : ℕ) → zs ≡ map (λ (t : SeatState). opening_share t (length t.part.blocks)) ys → All (HasAtMost n) zs
opened_short ys zs n e =
    let opened : SeatState → ZoneShareState = λ t. opening_share t (length t.part.blocks) in
    subst (λ l. All (HasAtMost n) l) (sym e) (All-map (HasAtMost n) opened ys (λ k d lt t. omega (arith, ap (λ (l : List ℕ). length l) (replicated types_count (type_number t) []))))

-- the first seat's worker, as the code reads it, is that of all
pub first_worker : (seats : List SeatState) (first : SeatState) (w : ℕ) (d : SeatState) → 1 ≤ length seats → first ≡ get_or seats 0 first → w ≡ first.worker →
    All (λ (s : SeatState). s.worker ≡ (get_or seats 0 d).worker) seats → All (λ (s : SeatState). s.worker ≡ w) seats
first_worker seats first w d some at e each =
    subst (λ n. All (λ (s : SeatState). s.worker ≡ n) seats) (sym (e ∙ ap (λ s. s.worker) at ∙ ap (λ s. s.worker) (get_or_default seats 0 first d (omega (arith, some))))) each
