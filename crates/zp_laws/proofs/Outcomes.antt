-- What holds of each outcome that a request can have holds of the request's outcome.
use Rattle.std.proofs.Common.{ℕ, suc, zero, ◌+◌, ◌≡◌, refl, true, false, cond, List, [], ◌∷◌, ◌++◌, Option, Some, None}
use Rattle.zp_model.specs.declared.migrate_type.MigrateType.{MigrateType}
use Rattle.zp_model.specs.declared.mark.Mark.{Mark}
use Rattle.zp_model.specs.declared.refused.Refused.{Refused}
use Rattle.zp_model.specs.declared.refused.Refused.TheVariants.{BelowMark, NoBlock, NothingPosted, BadPageblock, AlreadyIsolated, NotIsolated}
use Rattle.zp_model.specs.declared.request.Reply.{Reply}
use Rattle.zp_model.specs.declared.pageblock_type.PageblockType.{PageblockType}
use Rattle.zp_model.specs.declared.pageblock_type.PageblockType.TheVariants.{Isolate}
use Rattle.zp_model.specs.Choose.{Chosen, choose}
use Rattle.zp_model.specs.Mark.{passes}
use Rattle.zp_model.specs.PageblockType.{is_isolate, pageblock_type}
use Rattle.zp_model.specs.Take.{take_low_answer}
use Rattle.zp_model.specs.Zone.{PlainZone, PostedBlock, posted_to}
use Rattle.zp_model.specs.Step.{Outcome, alloc, alloc_chosen, alloc_low_at, refuse, collected, refill, refill_end, page_of, with_kind, isolated, released}

-- a request for a block is refused, or a block is chosen
pub alloc_by : (P : Outcome → Type 0) (z : PlainZone) (w k : ℕ) (t : MigrateType) (m : Mark) → ((r : Refused) → P (refuse z r)) →
    ((c : Chosen) → choose z.area k t ≡ Some c → P (alloc_chosen z w k t (Some c))) → P (alloc z w k t m)
unfolding alloc
alloc_by P z w k t m none some =
    elim (passes z k m) as (λ b. P (cond b (alloc_chosen z w k t (choose z.area k t)) (refuse z BelowMark))) [
      | true ↦ chosen (choose z.area k t) refl
      | false ↦ none BelowMark
    ]
  where
    chosen : (o : Option Chosen) → choose z.area k t ≡ o → P (alloc_chosen z w k t o)
    chosen None e = none NoBlock
    chosen (Some c) e = some c e

-- so is one for the lowest block
pub low_by : (P : Outcome → Type 0) (z : PlainZone) (w k : ℕ) → P (refuse z NoBlock) → ((h : ℕ) → take_low_answer z.area k ≡ Some h → P (alloc_low_at z w k (Some h))) →
    P (alloc_low_at z w k (take_low_answer z.area k))
low_by P z w k none some = found (take_low_answer z.area k) refl
  where
    found : (o : Option ℕ) → take_low_answer z.area k ≡ o → P (alloc_low_at z w k o)
    found None e = none
    found (Some h) e = some h e

-- a worker's list has nothing to collect, or a block in front
pub collected_by : (P : Outcome → Type 0) (z : PlainZone) (w : ℕ) → P (refuse z NothingPosted) →
    ((p : PostedBlock) (ps : List PostedBlock) → posted_to z w ≡ p ∷ ps → P (collected z w (p ∷ ps))) → P (collected z w (posted_to z w))
collected_by P z w none some = front (posted_to z w) refl
  where
    front : (ps : List PostedBlock) → posted_to z w ≡ ps → P (collected z w ps)
    front [] e = none
    front (p ∷ ps) e = some p ps e

-- a pageblock is isolated, or that is refused
pub isolated_by : (P : Outcome → Type 0) (z : PlainZone) (b : ℕ) (o : Option PageblockType) → ((r : Refused) → P (refuse z r)) →
    P (record { reply = Reply.Isolated; zone = with_kind z b Isolate }) → P (isolated z b o)
isolated_by P z b None none some = none BadPageblock
isolated_by P z b (Some now) none some =
    elim (is_isolate now) as (λ i. P (cond i (refuse z AlreadyIsolated) (record { reply = Reply.Isolated; zone = with_kind z b Isolate }))) [
      | true ↦ none AlreadyIsolated
      | false ↦ some
    ]

-- it is released, or that is refused
pub released_by : (P : Outcome → Type 0) (z : PlainZone) (b : ℕ) (t : MigrateType) (o : Option PageblockType) → ((r : Refused) → P (refuse z r)) →
    P (record { reply = Reply.Released; zone = with_kind z b (pageblock_type t) }) → P (released z b t o)
released_by P z b t None none some = none BadPageblock
released_by P z b t (Some now) none some =
    elim (is_isolate now) as (λ i. P (cond i (record { reply = Reply.Released; zone = with_kind z b (pageblock_type t) }) (refuse z NotIsolated))) [
      | true ↦ some
      | false ↦ none NotIsolated
    ]

-- a refill takes a page more, or ends: refused with no page, or with those that it has got
module _ (P : Outcome → Type 0) (I : PlainZone → List ℕ → Type 0) (w : ℕ) (t : MigrateType) (m : Mark)
    (more : (z : PlainZone) (got : List ℕ) (c : Chosen) → choose z.area 0 t ≡ Some c → I z got → I (alloc_chosen z w 0 t (Some c)).zone (got ++ (z.base + c.head) ∷ []))
    (none : (z : PlainZone) (r : Refused) → I z [] → P (refuse z r))
    (some : (z : PlainZone) (got : List ℕ) → I z got → P (record { reply = Reply.Pages got; zone = z })) where
  pub refill_by : (z : PlainZone) (got : List ℕ) (n : ℕ) → I z got → P (refill z w t m got n)
  refill_by z got zero i = some z got i
  refill_by z got (suc n) i =
      alloc_by (λ o. P (elim (page_of o.reply) as (λ y. Outcome) [ Some p ↦ refill o.zone w t m (got ++ p ∷ []) n | None ↦ refill_end got o ])) z w 0 t m
      (λ r. ended got r i)
      (λ c e. refill_by (alloc_chosen z w 0 t (Some c)).zone (got ++ (z.base + c.head) ∷ []) n (more z got c e i))
    where
      ended : (got : List ℕ) (r : Refused) → I z got → P (refill_end got (refuse z r))
      ended [] r i = none z r i
      ended (p ∷ ps) r i = some z (p ∷ ps) i
