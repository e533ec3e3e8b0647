-- What a zone's fields become when a pageblock is isolated or released, as the step of the plain zone.
use Rattle.std.proofs.Common.{ℕ, ◌≡◌, ◌<◌, refl, sym, ◌∙◌, ap, true, false, List, Some}
use Rattle.std.specs.Prelude.{slice_get}
use Rattle.zp_model.specs.declared.migrate_type.MigrateType.{MigrateType}
use Rattle.zp_model.specs.declared.pageblock_type.PageblockType.{PageblockType}
use Rattle.zp_model.specs.declared.pageblock_type.PageblockType.TheVariants.{Isolate}
use Rattle.zp_model.specs.declared.request.Request.TheVariants as request
use Rattle.zp_model.specs.declared.request.Reply.{Reply}
use Rattle.zp_model.specs.PageblockType.{is_isolate, pageblock_type}
use Rattle.zp_model.specs.Take.{retype}
use Rattle.zp_model.specs.Frames.{Frames, IsFramed, with_area}
use Rattle.zp_model.specs.Zone.{PlainZone, workers_of, posted_pages}
use Rattle.zp_model.specs.Step.{Outcome, isolated, released, with_kind, step}
use Rattle.zp_model.specs.Lawful.{IsLawful}
use Rattle.zp_model.proofs.MaximalBlocks.{length-restated}
use Rattle.zp_laws.proofs.Areas.{free-retype}
use Rattle.zp_laws.proofs.Outcomes.{isolated_by, released_by}
use Rattle.zp_laws.proofs.Steps.{step_lawful}
use Rattle.zp_model.specs.Run.{is_out}
use Rattle.zp_zone.specs.Kept.{plain_of, IsKept}
use Rattle.zp_zone.specs.NamedZone.{KeepsOut}
use Rattle.zp_zone.proofs.BlockSteps.{not_out}
use Rattle.zp_zone.proofs.Noted.{plain-with_area, IsBeside, pages_same, kept_by, aside_restated}

-- a pageblock that the zone has, and that is isolated or is not
module _ (z : PlainZone) (b : ℕ) (now : PageblockType) (there : slice_get z.area.kinds b ≡ Some now) where
  pub isolated_it : is_isolate now ≡ false → isolated z b (slice_get z.area.kinds b) ≡ record { reply = Reply.Isolated; zone = with_kind z b Isolate }
  isolated_it e = rw (there, e)

  pub released_it : (t : MigrateType) → is_isolate now ≡ true → released z b t (slice_get z.area.kinds b) ≡ record { reply = Reply.Released; zone = with_kind z b (pageblock_type t) }
  released_it t e = rw (there, e)

-- each block out stays out
pub isolate-kept : (z : PlainZone) (w b : ℕ) → KeepsOut z (step z w (request.Isolate b)).zone
isolate-kept z w b v p k out = isolated_by (λ o. is_out o.zone v p k ≡ true) z b (slice_get z.area.kinds b) (λ r. out) out

pub release-kept : (z : PlainZone) (w b : ℕ) (t : MigrateType) → KeepsOut z (step z w (request.Release b t)).zone
release-kept z w b t v p k out = released_by (λ o. is_out o.zone v p k ≡ true) z b t (slice_get z.area.kinds b) (λ r. out) out

-- the frames with pageblock b of another type
abbrev pub retyped : Frames → ℕ → PageblockType → Frames
retyped f b t = with_area f (retype f.area b t)

module _ (f : Frames) (base min b : ℕ) (t : PageblockType) (x : IsFramed f) where
  beside : IsBeside f.sides (retype f.area b t).free
  beside = rw (free-retype f.area b t) x.beside

  pub plain-retyped : IsLawful (plain_of f base min) → plain_of (retyped f b t) base min ≡ with_kind (plain_of f base min) b t
  plain-retyped l =
      plain-with_area f (retype f.area b t) base min x (λ g e. not_out f base min g (record { framed = x; lawful = l }) (rw (free-retype f.area b t) at e)) beside

  pub retyped_kept : {count : ℕ} → (name : List ℕ) → IsKept name f base min count → IsLawful (with_kind (plain_of f base min) b t) → IsKept name (retyped f b t) base min count
  retyped_kept {count} name y lawful =
      let same = plain-retyped y.lawful in
      kept_by name f (retyped f b t) base min count y (length-restated (retype f.area b t).largest (retype f.area b t).free f.states) refl
      (aside_restated (retype f.area b t).largest f.sides (retype f.area b t).free f.states y.aside beside)
      (y.counted ∙ pages_same (plain_of f base min) (with_kind (plain_of f base min) b t) refl ∙ ap posted_pages (sym same)) (rw same lawful)

-- the pageblock, which is not isolated, is isolated
module _ (f : Frames) (base min w b : ℕ) (now : PageblockType) (x : IsFramed f) (there : slice_get f.area.kinds b ≡ Some now) (free : is_isolate now ≡ false) where
  pub isolated_left : IsLawful (plain_of f base min) → plain_of (retyped f b Isolate) base min ≡ (step (plain_of f base min) w (request.Isolate b)).zone
  isolated_left l = plain-retyped f base min b Isolate x l ∙ ap (λ (o : Outcome). o.zone) (sym (isolated_it (plain_of f base min) b now there free))

  pub isolated_kept : {count : ℕ} → (name : List ℕ) → IsKept name f base min count → w < workers_of (plain_of f base min) → IsKept name (retyped f b Isolate) base min count
  isolated_kept name y lt =
      retyped_kept f base min b Isolate x name y (rw (isolated_it (plain_of f base min) b now there free) at (step_lawful (plain_of f base min) w (request.Isolate b) y.lawful lt refl))

-- the pageblock, which is isolated, is released
module _ (f : Frames) (base min w b : ℕ) (t : MigrateType) (now : PageblockType) (x : IsFramed f) (there : slice_get f.area.kinds b ≡ Some now) (isolate : is_isolate now ≡ true) where
  pub released_left : IsLawful (plain_of f base min) → plain_of (retyped f b (pageblock_type t)) base min ≡ (step (plain_of f base min) w (request.Release b t)).zone
  released_left l = plain-retyped f base min b (pageblock_type t) x l ∙ ap (λ (o : Outcome). o.zone) (sym (released_it (plain_of f base min) b now there t isolate))

  pub released_kept : {count : ℕ} → (name : List ℕ) → IsKept name f base min count → w < workers_of (plain_of f base min) → IsKept name (retyped f b (pageblock_type t)) base min count
  released_kept name y lt =
      retyped_kept f base min b (pageblock_type t) x name y
      (rw (released_it (plain_of f base min) b now there t isolate) at (step_lawful (plain_of f base min) w (request.Release b t) y.lawful lt refl))
