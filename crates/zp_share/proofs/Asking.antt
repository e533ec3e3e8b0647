-- One section of a share, whatever is asked: what the request names and the reply gives fits the share, and its lists stay short.
use Rattle.std.specs.Prelude.{slice_set, IsTrue, IfOk, Result, Ok, Err}
use Rattle.std.proofs.Common.{ℕ, ◌-◌, ◌≡◌, ◌<◌, ◌≤◌, ◌⊎◌, sym, ◌∙◌, ap, subst, arith, All, get_or, List, length, inl, inr, refl, Bool, true}
use Rattle.std.proofs.lemmas.List.Elements.{All-set, All-get_or}
use Rattle.std.proofs.lemmas.List.{length-set}
use Rattle.std.proofs.lemmas.Bool.{eq-eqb}
use Rattle.std.proofs.lemmas.Bool.Decides.{nat_tests}
use Rattle.zp_model.specs.declared.migrate_type.MigrateType.{MigrateType}
use Rattle.zp_model.specs.declared.constants.TheConstants.{MAX_BATCH}
use Rattle.zp_model.specs.declared.mark.Mark.{Mark}
use Rattle.zp_model.specs.declared.refused.Refused.{Refused}
use Rattle.zp_model.specs.declared.refused.Refused.TheVariants.{BelowMark, NoBlock, BadPageblock, AlreadyIsolated, NotIsolated, JournalFull}
use Rattle.zp_model.specs.declared.request.Request.{Request}
use Rattle.zp_model.specs.declared.request.Reply.{Reply}
use Rattle.zp_model.specs.Zone.{PlainZone, is_of}
use Rattle.zp_model.specs.Run.{is_distinct}
use Rattle.zp_model.specs.Step.{step}
use Rattle.zp_zone.specs.Asking.{IsGiven, MaySeatAsk}
use Rattle.zp_zone.specs.NamedZone.{page_reply}
use Rattle.zp_zone.specs.Seats.{SeatState, HasPages, IsNewTo, has, replied}
use Rattle.zp_share.specs.PlainShares.{lends_for}
use Rattle.zp_share.specs.ZoneShares.{ZoneShareState, HasAtMost, answered, IsNew, IsShare, RefillsAtMost, is_lent, plain_share, use_in}
use Rattle.zp_share.specs.declared.page_use.PageUse.{PageUse}
use Rattle.zp_share.specs.declared.page_use.PageUse.TheVariants.{Lent}
use Rattle.zp_share.specs.declared.zone_share.ZoneShare.TheInside.{Inside}
use Rattle.zp_share.specs.PageUses.{held, is_lent_as, use_of, uses_after}
use Rattle.zp_share.specs.Sections.{HasPlaces, IsForNoRun, IsReplyTo, MayAsk}
use Rattle.zp_share.proofs.OneUse.{IsIn, use-set}
use Rattle.zp_share.proofs.Listing.{All-by_standing}
use Rattle.zp_share.proofs.Closing.{IsFit, lent_in, IsWhole, held_at, new_page, new_pages, share_of, back_distinct, back_has, back_in, places}
use Rattle.zp_share.proofs.Tried.{IsWhy, IfRefused, step-why}

-- what a worker's share keeps of its shares of zones: they are few, the worker's, and with short lists
abbrev pub AreWhole : List ZoneShareState → ℕ → ℕ → ℕ → Type 0
AreWhole zs few worker n = (length zs ≤ few) × All (λ (z : ZoneShareState). z.seat.worker ≡ worker) zs × All (HasAtMost n) zs

-- it is kept where the share of one zone changes
pub set_whole : (zs : List ZoneShareState) (i few worker n : ℕ) (d x : ZoneShareState) → AreWhole zs few worker n → d ≡ get_or zs i d → i < length zs → x.seat.worker ≡ d.seat.worker →
    (HasAtMost n d → HasAtMost n x) → AreWhole (slice_set zs i x) few worker n
set_whole zs i few worker n d x whole e lt same f =
    let mine : d.seat.worker ≡ worker = ap (λ (z : ZoneShareState). z.seat.worker) e ∙ All-get_or (λ (z : ZoneShareState). z.seat.worker ≡ worker) zs i d lt whole.1 in
    let short : HasAtMost n d = subst (HasAtMost n) (sym e) (All-get_or (HasAtMost n) zs i d lt whole.2) in (
      omega (arith, length-set zs i x, whole.0),
      All-set (λ (z : ZoneShareState). z.seat.worker ≡ worker) zs i x (same ∙ mine) whole.1,
      All-set (HasAtMost n) zs i x (f short) whole.2,
    )

-- a lent block is the seat's
lent_has : (s : ZoneShareState) (p k : ℕ) → IsShare s → is_lent s p k ≡ true → has s.seat p k ≡ true
lent_has s p k x l = held_at s p k x (lent_in s p k l) ∙ out s.seat.worker k (use_in s p) l
  where
    out : (w k : ℕ) (u : PageUse) → is_lent_as k u ≡ true → is_of w k (held w u) ≡ true
    out w k u e = grind (arith, nat_tests)

-- the share may ask, and lends the block that is named
pub record IsAsking (n : ℕ) (r : Request) (o : Inside) : Type 0 where
  pub whole : IsWhole o
  pub lent : lends_for r (plain_share (share_of o)) ≡ true
  pub may : MayAsk n MAX_BATCH r (share_of o)

pub asking : (n : ℕ) (r : Request) (o : Inside) (s : ZoneShareState) (b : Bool) → share_of o ≡ s → IsWhole o → MayAsk n MAX_BATCH r s → b ≡ lends_for r (plain_share s) → b ≡ true → IsAsking n r o
asking n r o s b view x may is lent = record {
  whole = x;
  lent = ap (λ v. lends_for r (plain_share v)) view ∙ sym is ∙ lent;
  may = subst (λ v. MayAsk n MAX_BATCH r v) (sym view) may;
}

-- what may be asked with short batches may be with longer ones, and a refill fits lists that have room for a batch
pub may_more : (n m most more : ℕ) (r : Request) (s t : ZoneShareState) → n ≡ m → s ≡ t → most ≤ more → MayAsk n most r s → MayAsk m more r t
may_more n m most more r s t e f le may = subst (λ v. MayAsk m more r v) f (subst (λ v. MayAsk v more r s) e (go r may))
  where
    go : (r : Request) → MayAsk n most r s → MayAsk n more r s
    go (Request.Refill u v c) a = (a.0, a.1, let few : c ≤ most = a.2 in omega (arith, few, le))
    go r a = a

pub few : (n most high : ℕ) (r : Request) (s : ZoneShareState) → (1 ≤ most → most ≤ high) → MayAsk n most r s → RefillsAtMost high r
few n most high (Request.Refill u v c) s room a = let le : c ≤ most = a.2 in let some : 1 ≤ c = a.1 in let r = room (omega (arith, le, some)) in omega (arith, le, r)
few n most high r s room a = tt

-- then so may the seat
pub may_seat : (n : ℕ) (r : Request) (o : Inside) → IsForNoRun r → IsAsking n r o → MaySeatAsk n r o.seat
may_seat n (Request.Free p k) o plain x = lent_has (share_of o) p k x.whole.1 x.lent
may_seat n (Request.Post p k to) o plain x = (lent_has (share_of o) p k x.whole.1 x.lent, x.may)
may_seat n (Request.Refill t m c) o plain x = (x.may.1, x.may.2)
may_seat n (Request.Drain t ps) o plain x = (back_has o t ps x.whole x.may, back_distinct o t ps x.whole x.may)
may_seat n (Request.AllocRun c a m) o plain x = absurd plain
may_seat n (Request.FreeRun p c) o plain x = absurd plain
may_seat n r o plain x = tt

-- the page that a block's request is answered is given to the seat
pub given_page : (k : ℕ) (t : MigrateType) (m : Mark) (got : Result ℕ Refused) (a b : SeatState) → IfOk got (λ p. IsTrue (has b p k)) → IfOk got (IsNewTo a) →
    IsGiven (Request.Alloc k t m) (page_reply got) a b
given_page k t m (Ok p) a b h f = record { has = h; fresh = f }
given_page k t m (Err e) a b h f = tt

-- the pages that a refill is answered are given to the seat
pub given_pages : (t : MigrateType) (m : Mark) (n : ℕ) (ps qs : List ℕ) (a b : SeatState) → qs ≡ ps → 0 < length ps → length ps ≤ n → HasPages b ps → IsTrue (is_distinct ps) → All (IsNewTo a) ps →
    IsGiven (Request.Refill t m n) (Reply.Pages qs) a b
given_pages t m n ps qs a b e some most has distinct fresh =
    subst (λ xs. IsGiven (Request.Refill t m n) (Reply.Pages xs) a b) (sym e)
    (record { some = omega (arith, some); most = most; has = has; distinct = distinct; fresh = fresh })

-- what is named fits the share
pub fits : (n : ℕ) (r : Request) (q : Reply) (o : Inside) (seat : SeatState) → IsAsking n r o → seat ≡ replied r q o.seat → IsGiven r q o.seat seat → IsFit r q (share_of o)
fits n (Request.Alloc k t m) (Reply.Page p) o seat x e g = new_page (Request.Alloc k t m) (Reply.Page p) o seat p k x.whole e g.has g.fresh
fits n (Request.AllocLow k) (Reply.Block b) o seat x e g = new_page (Request.AllocLow k) (Reply.Block b) o seat b.page b.order x.whole e g.1.has g.1.fresh
fits n (Request.Free p k) Reply.Freed o seat x e g = x.lent
fits n (Request.Post p k to) Reply.Posted o seat x e g = x.lent
fits n Request.Collect (Reply.Block b) o seat x e g = new_page Request.Collect (Reply.Block b) o seat b.page b.order x.whole e g.has g.fresh
fits n (Request.Refill t m c) (Reply.Pages ps) o seat x e g = new_pages (Request.Refill t m c) (Reply.Pages ps) o seat ps x.whole e g.has g.distinct g.fresh
fits n (Request.Drain t ps) Reply.Drained o seat x e g = x.may
fits n r q o seat x e g = tt

-- its pages are of the zone
pub has_places : (r : Request) (q : Reply) (o : Inside) → IsWhole o → IsFit r q (share_of o) → HasPlaces r q o.uses
has_places (Request.Alloc k t m) (Reply.Page p) o x f = subst (λ b. IsIn b o.uses.uses p) (sym x.0) f.place
has_places (Request.AllocLow k) (Reply.Block b) o x f = subst (λ v. IsIn v o.uses.uses b.page) (sym x.0) f.place
has_places (Request.Free p k) Reply.Freed o x f = subst (λ b. IsIn b o.uses.uses p) (sym x.0) (lent_in (share_of o) p k f)
has_places (Request.Post p k to) Reply.Posted o x f = subst (λ b. IsIn b o.uses.uses p) (sym x.0) (lent_in (share_of o) p k f)
has_places Request.Collect (Reply.Block b) o x f = subst (λ v. IsIn v o.uses.uses b.page) (sym x.0) f.place
has_places (Request.Refill t m n) (Reply.Pages ps) o x f = places o ps x (λ q e. (f.each q e).place)
has_places (Request.Drain t ps) Reply.Drained o x f = places o ps x (λ q e. back_in o t ps q x f e)
has_places r q o x f = tt

-- a page that gets a use of its own is lent so
lent_now : (j k p : ℕ) (t : MigrateType) (s u : ZoneShareState) (r : Request) (q : Reply) → IsNew s p →
    uses_after s.seat.part.base r q s.uses ≡ slice_set s.uses (p - s.seat.part.base) (Lent k t) → j ≡ k → u ≡ answered r q s → is_lent u p j ≡ true
lent_now j k p t s u r q n us jk e =
    ap (λ v. is_lent v p j) e ∙ ap (λ l. is_lent_as j (use_of s.seat.part.base l p)) us ∙ ap (is_lent_as j) (use-set s.seat.part.base p (Lent k t) s.uses n.place) ∙ eq-eqb k j (sym jk)

-- why a zone refuses is one of the reasons that a section may be refused for
pub zone_why : (a b e : Refused) → (e ≡ a) ⊎ (e ≡ b) → (e ≡ a) ⊎ ((e ≡ b) ⊎ (e ≡ JournalFull))
zone_why a b e (inl x) = inl x
zone_why a b e (inr x) = inr (inl x)

-- the reply is one to the request
pub reply_to : (r : Request) (q : Reply) (z : PlainZone) (w : ℕ) (a b : SeatState) (s u : ZoneShareState) → IsForNoRun r → IsFit r q s → u ≡ answered r q s → q ≡ (step z w r).reply → IsGiven r q a b →
    IsReplyTo r q s u
reply_to r q z w a b s u plain f e is g = go r q plain f e g (subst (IfRefused (IsWhy r)) (sym is) (step-why z w r))
  where
    go : (r : Request) (q : Reply) → IsForNoRun r → IsFit r q s → u ≡ answered r q s → IsGiven r q a b → IfRefused (IsWhy r) q → IsReplyTo r q s u
    go (Request.Alloc k t m) (Reply.Page p) plain f e g y = record { fresh = f; lent = lent_now k k p t s u (Request.Alloc k t m) (Reply.Page p) f refl refl e }
    go (Request.Alloc k t m) (Reply.Refused v) plain f e g y = zone_why BelowMark NoBlock v y
    go (Request.AllocLow k) (Reply.Block x) plain f e g y = (g.0, record { fresh = f; lent = lent_now x.order k x.page x.kind s u (Request.AllocLow k) (Reply.Block x) f refl g.0 e })
    go (Request.AllocLow k) (Reply.Refused v) plain f e g y = inl y
    go (Request.Free p k) Reply.Freed plain f e g y = tt
    go (Request.Post p k to) Reply.Posted plain f e g y = tt
    go Request.Collect (Reply.Block x) plain f e g y = record { fresh = f; lent = lent_now x.order x.order x.page x.kind s u Request.Collect (Reply.Block x) f refl refl e }
    go Request.Collect (Reply.Refused v) plain f e g y = inl y
    go (Request.Refill t m n) (Reply.Pages ps) plain f e g y = record { some = g.some; most = g.most; fresh = All-by_standing (IsNew s) ps f.each }
    go (Request.Refill t m n) (Reply.Refused v) plain f e g y = zone_why BelowMark NoBlock v y
    go (Request.Drain t ps) Reply.Drained plain f e g y = tt
    go (Request.Isolate p) Reply.Isolated plain f e g y = tt
    go (Request.Isolate p) (Reply.Refused v) plain f e g y = zone_why BadPageblock AlreadyIsolated v y
    go (Request.Release p t) Reply.Released plain f e g y = tt
    go (Request.Release p t) (Reply.Refused v) plain f e g y = zone_why BadPageblock NotIsolated v y
    go (Request.AllocRun n a m) q plain f e g y = absurd plain
    go (Request.AllocRunAt p n) q plain f e g y = absurd plain
    go (Request.FreeRun p n) q plain f e g y = absurd plain
    go r q plain f e g y = absurd g
