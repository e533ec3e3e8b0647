-- A block that is taken and given back leaves the pages as they were; so does a pageblock that is isolated and released.
use Rattle.std.proofs.Common.{ℕ, ◌≡◌, ◌<◌, refl, sym, ◌∙◌, ap, arith, length, Some}
use Rattle.std.specs.Prelude.{slice_get, slice_set}
use Rattle.std.proofs.lemmas.List.{length-set, get_or-set_same, set-get_or, set-set}
use Rattle.std.proofs.lemmas.Option.{slice_get-get_or, slice_get_within, get_or_from_slice_get}
use Rattle.zp_model.specs.declared.migrate_type.MigrateType.{MigrateType}
use Rattle.zp_model.specs.declared.pageblock_type.PageblockType.{PageblockType}
use Rattle.zp_model.specs.declared.pageblock_type.PageblockType.TheVariants.{Movable, Isolate}
use Rattle.zp_model.specs.declared.request.Request.{Request}
use Rattle.zp_model.specs.PageblockType.{pageblock_type}
use Rattle.zp_model.specs.Block.{with_run}
use Rattle.zp_model.specs.Area.{Area}
use Rattle.zp_model.specs.Choose.{Chosen, choose}
use Rattle.zp_model.specs.Take.{taken, take_after, give}
use Rattle.zp_model.specs.Lawful.{IsListedArea}
use Rattle.zp_model.specs.Step.{released, step, with_kind}
use Rattle.zp_model.specs.Zone.{PlainZone}
use Rattle.zp_laws.specs.Found.{IsFound}
use Rattle.zp_laws.specs.TakenBack.{IsReleased, IsRestored}
use Rattle.zp_laws.proofs.Areas.{free-give, kinds-give, free-retype, free-taken, kinds-retype, kinds-unclaimed}
use Rattle.zp_laws.proofs.Choosing.{asked-not_isolate, choose_found, found_block, found_free}
use Rattle.zp_laws.proofs.Counting.{with-without_run}

pub give_restores : (a : Area) (k : ℕ) (t : MigrateType) (c : Chosen) → IsListedArea a → choose a k t ≡ Some c → IsRestored a (give (take_after a k t) c.head k) c
unfolding take_after
give_restores a k t c l e =
    let b : Area = taken a k t (Some c) in
    let f : IsFound a.largest a.free k c.head = choose_found a k t c l e in
    rw e (record {
      free = free-give b c.head k ∙ ap (λ u. with_run u c.head k) (free-taken a k t c)
          ∙ with-without_run a.free c.head k (found_block a.largest a.free k c.head f).inside (found_free a.largest a.free k c.head f);
      kinds = λ unclaimed. kinds-give b c.head k ∙ kinds-unclaimed a k t c unclaimed;
    })

module _ (z : PlainZone) (b : ℕ) (t : MigrateType) (e : slice_get z.area.kinds b ≡ Some (pageblock_type t)) where
  abbrev shut : PlainZone
  shut = with_kind z b Isolate

  shut-kinds : shut.area.kinds ≡ slice_set z.area.kinds b Isolate
  shut-kinds = kinds-retype z.area b Isolate

  -- the pageblock is isolated now
  shut-at : slice_get shut.area.kinds b ≡ Some Isolate
  shut-at =
      let lt : b < length z.area.kinds = slice_get_within z.area.kinds b (pageblock_type t) e in
      let n : length (slice_set z.area.kinds b Isolate) ≡ length z.area.kinds = length-set z.area.kinds b Isolate in
      rw shut-kinds (slice_get-get_or (slice_set z.area.kinds b Isolate) b Movable (omega arith) ∙ ap (λ (k : PageblockType). Some k) (get_or-set_same z.area.kinds b Isolate Movable lt))

  -- and has its own type again when it is released
  kinds-again : (with_kind shut b (pageblock_type t)).area.kinds ≡ z.area.kinds
  kinds-again =
      kinds-retype shut.area b (pageblock_type t)
      ∙ ap (λ ks. slice_set ks b (pageblock_type t)) shut-kinds
      ∙ set-set z.area.kinds b Isolate (pageblock_type t)
      ∙ ap (λ k. slice_set z.area.kinds b k) (sym (get_or_from_slice_get z.area.kinds b (pageblock_type t) Movable e))
      ∙ set-get_or z.area.kinds b Movable

  pub release_restored : IsReleased z (released shut b t (slice_get shut.area.kinds b)).zone
  release_restored =
      rw shut-at (record { free = free-retype shut.area b (pageblock_type t) ∙ free-retype z.area b Isolate; kinds = kinds-again; out = refl; posted = refl })

pub release_restores : (z : PlainZone) (w u b : ℕ) (t : MigrateType) → slice_get z.area.kinds b ≡ Some (pageblock_type t) →
    IsReleased z (step (step z w (Request.Isolate b)).zone u (Request.Release b t)).zone
release_restores z w u b t e = rw (e, asked-not_isolate t) (release_restored z b t e)
