-- What a request to a zone may come to: one section, or no section, with nothing changed.
use Rattle.std.specs.Prelude.{◌↔◌, slice_get}
use Rattle.std.proofs.lemmas.Bool.{eqb-true}
use Rattle.std.proofs.Common.{ℕ, suc, zero, ◌-◌, ◌&&◌, leb, ◌==◌, ◌≡◌, ◌⊎◌, ◌++◌, inl, inr, refl, sym, ◌∙◌, ap, arith, Bool, true, false, cond, List, [], ◌∷◌, Option, Some, None}
use Rattle.zp_model.specs.declared.mark.Mark.{Mark}
use Rattle.zp_model.specs.declared.migrate_type.MigrateType.{MigrateType}
use Rattle.zp_model.specs.declared.refused.Refused.{Refused}
use Rattle.zp_model.specs.declared.refused.Refused.TheVariants.{BelowMark, NoBlock, NothingPosted, BadPageblock, AlreadyIsolated, NotIsolated, BadRun, NotFree, NotLent, JournalFull}
use Rattle.zp_model.specs.declared.request.Request.{Request}
use Rattle.zp_model.specs.declared.request.Reply.{Reply}
use Rattle.zp_model.specs.declared.pageblock_type.PageblockType.{PageblockType}
use Rattle.zp_model.specs.Choose.{Chosen, choose}
use Rattle.zp_model.specs.Take.{take_low_answer}
use Rattle.zp_model.specs.Mark.{pages_at_hand, passes}
use Rattle.zp_model.specs.Runs.{has_pages, is_above_by, is_run, lowest_run, run_taken}
use Rattle.zp_model.specs.Zone.{PlainZone, PostedBlock, pages_of, posted_to}
use Rattle.zp_model.specs.Step.{Outcome, alloc, alloc_chosen, alloc_low_at, alloc_run_found, refuse, collected, isolated, refill, refill_end, page_of, released, step}
use Rattle.zp_zone.specs.Seats.{ZoneState}
use Rattle.zp_share.specs.declared.sections_made.TheConstants.{LAST_SECTION}
use Rattle.zp_share.specs.PlainShares.{lends_for, refusal, refusal_of}
use Rattle.zp_share.specs.Sections.{ComesOf}
use Rattle.zp_share.specs.ZoneShares.{ZoneShareState, IsLeft, answered_in, plain_share}
use Rattle.zp_share.specs.Shares.{is_section}

-- why a zone gives no block
abbrev pub IsNoneWhy : Refused → Type 0
IsNoneWhy e = (e ≡ BelowMark) ⊎ (e ≡ NoBlock)

-- why a zone refuses a request, and that a reply is no other refusal
abbrev pub IsWhy : Request → Refused → Type 0
IsWhy (Request.Alloc k t m) e = IsNoneWhy e
IsWhy (Request.AllocLow k) e = e ≡ NoBlock
IsWhy Request.Collect e = e ≡ NothingPosted
IsWhy (Request.Refill t m n) e = IsNoneWhy e
IsWhy (Request.Isolate b) e = (e ≡ BadPageblock) ⊎ (e ≡ AlreadyIsolated)
IsWhy (Request.Release b t) e = (e ≡ BadPageblock) ⊎ (e ≡ NotIsolated)
IsWhy (Request.AllocRun n a m) e = IsNoneWhy e
IsWhy (Request.AllocRunAt p n) e = (e ≡ BadRun) ⊎ (e ≡ NotFree)
IsWhy r e = ⊥

abbrev pub IfRefused : (Refused → Type 0) → Reply → Type 0
IfRefused P (Reply.Refused e) = P e
IfRefused P q = Unit {0}

alloc-why : (z : PlainZone) (w k : ℕ) (t : MigrateType) (m : Mark) → IfRefused IsNoneWhy (alloc z w k t m).reply
unfolding alloc
alloc-why z w k t m = go z w k t (passes z k m) (choose z.area k t)
  where
    go : (z : PlainZone) (w k : ℕ) (t : MigrateType) (b : Bool) (o : Option Chosen) → IfRefused IsNoneWhy (cond b (alloc_chosen z w k t o) (refuse z BelowMark)).reply
    go z w k t true None = inr refl
    go z w k t true (Some c) = tt
    go z w k t false o = inl refl

refill-why : (z : PlainZone) (w : ℕ) (t : MigrateType) (m : Mark) (got : List ℕ) (n : ℕ) → IfRefused IsNoneWhy (refill z w t m got n).reply
refill-why z w t m got zero = tt
refill-why z w t m got (suc n) =
    let o = alloc z w 0 t m in
    elim (page_of o.reply) as (λ r. IfRefused IsNoneWhy (elim r as (λ x. Outcome) [ Some p ↦ refill o.zone w t m (got ++ p ∷ []) n | None ↦ refill_end got o ]).reply) [
      | Some p ↦ refill-why o.zone w t m (got ++ p ∷ []) n
      | None ↦ end got o (alloc-why z w 0 t m)
    ]
  where
    end : (got : List ℕ) (o : Outcome) → IfRefused IsNoneWhy o.reply → IfRefused IsNoneWhy (refill_end got o).reply
    end [] o f = f
    end (p ∷ ps) o f = tt

pub step-why : (z : PlainZone) (w : ℕ) (r : Request) → IfRefused (IsWhy r) (step z w r).reply
step-why z w (Request.Alloc k t m) = alloc-why z w k t m
step-why z w (Request.AllocLow k) = go (take_low_answer z.area k)
  where
    go : (o : Option ℕ) → IfRefused (λ e. e ≡ NoBlock) (alloc_low_at z w k o).reply
    go None = refl
    go (Some h) = tt
step-why z w (Request.Free p k) = tt
step-why z w (Request.Post p k to) = tt
step-why z w Request.Collect = go (posted_to z w)
  where
    go : (ps : List PostedBlock) → IfRefused (λ e. e ≡ NothingPosted) (collected z w ps).reply
    go [] = refl
    go (p ∷ ps) = tt
step-why z w (Request.Refill t m n) = refill-why z w t m [] n
step-why z w (Request.Drain t ps) = tt
step-why z w (Request.Isolate b) = go (slice_get z.area.kinds b)
  where
    go : (now : Option PageblockType) → IfRefused (IsWhy (Request.Isolate b)) (isolated z b now).reply
    go now = grind arith
step-why z w (Request.Release b t) = go (slice_get z.area.kinds b)
  where
    go : (now : Option PageblockType) → IfRefused (IsWhy (Request.Release b t)) (released z b t now).reply
    go now = grind arith
step-why z w (Request.AllocRun n a m) = go (is_above_by z.min (pages_at_hand z) n m) (lowest_run z n a)
  where
    go : (b : Bool) (o : Option ℕ) → IfRefused IsNoneWhy (cond b (alloc_run_found z w n o) (refuse z BelowMark)).reply
    go true None = inr refl
    go true (Some h) = tt
    go false o = inl refl
step-why z w (Request.AllocRunAt p n) = go (leb z.base p && is_run (pages_of z) (p - z.base) n) (has_pages z.area.free (p - z.base) n)
  where
    go : (inside free : Bool) →
        IfRefused (IsWhy (Request.AllocRunAt p n)) (cond inside (cond free (record { reply = Reply.Page p; zone = run_taken z w (p - z.base) n }) (refuse z NotFree)) (refuse z BadRun)).reply
    go true true = tt
    go true false = inr refl
    go false free = inl refl
step-why z w (Request.FreeRun p n) = tt

-- so each step's reply is a section
pub step-section : (z : PlainZone) (w : ℕ) (r : Request) → is_section (step z w r).reply ≡ true
step-section z w r = go r (step z w r).reply (step-why z w r)
  where
    go : (r : Request) (q : Reply) → IfRefused (IsWhy r) q → is_section q ≡ true
    go r q x = grind arith

-- the share of the zone has one section more where the answer is a section, and else is as it was
pub tried : (lent full : Bool) (r : Request) (q : Reply) (z y : ZoneState) (a b : ZoneShareState) → ComesOf (refusal lent full) r q z y a b → b ≡ cond (is_section q) (answered_in z.plain r q a) a
tried false full r q z y a b x = x.1.share ∙ sym (ap (λ v. cond (is_section v) (answered_in z.plain r v a) a) x.0)
tried true true r q z y a b x = x.1.share ∙ sym (ap (λ v. cond (is_section v) (answered_in z.plain r v a) a) x.0)
tried true false r q z y a b x = x.share ∙ sym (ap (λ c. cond c (answered_in z.plain r q a) a) (ap is_section x.reply ∙ step-section z.plain a.seat.worker r))

-- a refusal 20 exactly where the block is not lent
pub not_lent_alone : (lent full : Bool) (r : Request) (q : Reply) (z y : ZoneState) (a b : ZoneShareState) → ComesOf (refusal lent full) r q z y a b → (q ≡ Reply.Refused NotLent) ↔ (lent ≡ false)
not_lent_alone false full r q z y a b x = (λ e. refl, λ e. x.0)
not_lent_alone true true r q z y a b x = (λ e. absurd (let same : Reply.Refused NotLent ≡ Reply.Refused JournalFull = sym e ∙ x.0 in cc), λ e. absurd (cc))
not_lent_alone true false r q z y a b x =
    (λ e. absurd (let same : false ≡ true = ap is_section (sym e ∙ x.reply) ∙ step-section z.plain a.seat.worker r in cc), λ e. absurd (cc))

-- one that was refused for want of room found the journal full, and left all as it was
pub full_of : (lent full : Bool) (r : Request) (q : Reply) (z y : ZoneState) (a b : ZoneShareState) → ComesOf (refusal lent full) r q z y a b → q ≡ Reply.Refused JournalFull → (full ≡ true) × IsLeft z y a b
full_of false full r q z y a b x e = absurd (let same : Reply.Refused NotLent ≡ Reply.Refused JournalFull = sym x.0 ∙ e in cc)
full_of true true r q z y a b x e = (refl, x.1)
full_of true false r q z y a b x e = absurd (let same : false ≡ true = sym (ap is_section e) ∙ ap is_section x.reply ∙ step-section z.plain a.seat.worker r in cc)

-- so a request of a share that was refused 30 found the last section made
pub last_made : (r : Request) (q : Reply) (z y : ZoneState) (a b : ZoneShareState) → ComesOf (refusal_of r (plain_share a)) r q z y a b → q ≡ Reply.Refused JournalFull → b.sections.made ≡ LAST_SECTION
last_made r q z y a b x e =
    let f = full_of (lends_for r (plain_share a)) (a.sections.made == LAST_SECTION) r q z y a b x e in
    ap (λ (v : ZoneShareState). v.sections.made) f.1.share ∙ eqb-true a.sections.made LAST_SECTION f.0
