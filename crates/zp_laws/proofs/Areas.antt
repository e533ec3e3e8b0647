-- What taking, giving and retyping leave of an area: its free pages, its types, and lists that hold what belongs there.
use Rattle.std.proofs.Common.{ℕ, ◌/◌, ◌≡◌, refl, ◌∙◌, ap, Bool, true, false, List, length, cond, Some}
use Rattle.std.specs.Prelude.{slice_set}
use Rattle.std.proofs.lemmas.List.{length-set}
use Rattle.zp_model.specs.declared.migrate_type.MigrateType.{MigrateType}
use Rattle.zp_model.specs.declared.pageblock_type.PageblockType.{PageblockType}
use Rattle.zp_model.specs.Block.{without, with_run}
use Rattle.zp_model.specs.PageblockType.{pageblock_type}
use Rattle.zp_model.specs.Area.{Area, pageblock_pages, settle}
use Rattle.zp_model.specs.Choose.{Chosen}
use Rattle.zp_model.specs.Frames.{Frames, IsClear, with_area}
use Rattle.zp_model.specs.Take.{leave, give, retype, taken}
use Rattle.zp_model.specs.Lawful.{IsListedArea}
use Rattle.zp_model.specs.Runs.{give_run, leave_run, with_pages, without_pages}
use Rattle.zp_laws.proofs.Settling.{settle_lists}
pub use Rattle.zp_model.proofs.RunGiven.{largest_given as largest-give_run, largest_left as largest-leave_run}

module _ (a : Area) (h k : ℕ) where
  pub free-leave : (leave a h k).free ≡ without a.free h k
  unfolding leave settle
  free-leave = refl

  pub largest-leave : (leave a h k).largest ≡ a.largest
  unfolding leave settle
  largest-leave = refl

  pub kinds-leave : (leave a h k).kinds ≡ a.kinds
  unfolding leave settle
  kinds-leave = refl

  pub lists-leave : IsListedArea a → IsListedArea (leave a h k)
  unfolding leave
  lists-leave l = settle_lists (record a { free = without a.free h k }) l.distinct

  pub free-give : (give a h k).free ≡ with_run a.free h k
  unfolding give settle
  free-give = refl

  pub largest-give : (give a h k).largest ≡ a.largest
  unfolding give settle
  largest-give = refl

  pub kinds-give : (give a h k).kinds ≡ a.kinds
  unfolding give settle
  kinds-give = refl

  pub lists-give : IsListedArea a → IsListedArea (give a h k)
  unfolding give
  lists-give l = settle_lists (record a { free = with_run a.free h k }) l.distinct

-- a run of pages that leaves or comes
module _ (a : Area) (h n : ℕ) where
  pub free-leave_run : (leave_run a h n).free ≡ without_pages a.free h n
  unfolding leave_run settle
  free-leave_run = refl

  pub kinds-leave_run : (leave_run a h n).kinds ≡ a.kinds
  unfolding leave_run settle
  kinds-leave_run = refl

  pub lists-leave_run : IsListedArea a → IsListedArea (leave_run a h n)
  unfolding leave_run
  lists-leave_run l = settle_lists (record a { free = without_pages a.free h n }) l.distinct

  pub free-give_run : (give_run a h n).free ≡ with_pages a.free h n
  unfolding give_run settle
  free-give_run = refl

  pub kinds-give_run : (give_run a h n).kinds ≡ a.kinds
  unfolding give_run settle
  kinds-give_run = refl

  pub lists-give_run : IsListedArea a → IsListedArea (give_run a h n)
  unfolding give_run
  lists-give_run l = settle_lists (record a { free = with_pages a.free h n }) l.distinct

module _ (a : Area) (b : ℕ) (t : PageblockType) where
  pub free-retype : (retype a b t).free ≡ a.free
  unfolding retype settle
  free-retype = refl

  pub largest-retype : (retype a b t).largest ≡ a.largest
  unfolding retype settle
  largest-retype = refl

  pub kinds-retype : (retype a b t).kinds ≡ slice_set a.kinds b t
  unfolding retype settle
  kinds-retype = refl

  pub lists-retype : IsListedArea a → IsListedArea (retype a b t)
  unfolding retype
  lists-retype l = settle_lists (record a { kinds = slice_set a.kinds b t }) l.distinct

  -- a pageblock that is retyped where it is claimed: its pages, its largest order, how many pageblocks, and its lists
  claimed : (claims : Bool) →
      ((cond claims (retype a b t) a).free ≡ a.free) × ((cond claims (retype a b t) a).largest ≡ a.largest) × (length (cond claims (retype a b t) a).kinds ≡ length a.kinds)
      × (IsListedArea a → IsListedArea (cond claims (retype a b t) a))
  claimed true = (free-retype, largest-retype, ap length kinds-retype ∙ length-set a.kinds b t, lists-retype)
  claimed false = (refl, refl, refl, λ l. l)

module _ (a : Area) (k : ℕ) (t : MigrateType) (c : Chosen) where
  abbrev before : Area
  before = cond c.claims (retype a (c.head / pageblock_pages a.largest) (pageblock_type t)) a

  pub free-taken : (taken a k t (Some c)).free ≡ without a.free c.head k
  unfolding taken
  free-taken = free-leave before c.head k ∙ ap (λ (u : List Bool). without u c.head k) (claimed a (c.head / pageblock_pages a.largest) (pageblock_type t) c.claims).0

  pub largest-taken : (taken a k t (Some c)).largest ≡ a.largest
  unfolding taken
  largest-taken = largest-leave before c.head k ∙ (claimed a (c.head / pageblock_pages a.largest) (pageblock_type t) c.claims).1

  pub kinds-taken : length (taken a k t (Some c)).kinds ≡ length a.kinds
  unfolding taken
  kinds-taken = ap length (kinds-leave before c.head k) ∙ (claimed a (c.head / pageblock_pages a.largest) (pageblock_type t) c.claims).2

  pub kinds-unclaimed : c.claims ≡ false → (taken a k t (Some c)).kinds ≡ a.kinds
  unfolding taken
  kinds-unclaimed e = kinds-leave before c.head k ∙ rw e

  pub lists-taken : IsListedArea a → IsListedArea (taken a k t (Some c))
  unfolding taken
  lists-taken l = lists-leave before c.head k ((claimed a (c.head / pageblock_pages a.largest) (pageblock_type t) c.claims).3 l)

-- each block that may come back may do so still where a pageblock gets another type
pub clear_retyped : (f : Frames) (b : ℕ) (t : PageblockType) (h k : ℕ) → IsClear f h k → IsClear (with_area f (retype f.area b t)) h k
clear_retyped f b t h k x = record {
  block = rw (largest-retype f.area b t, free-retype f.area b t) x.block;
  free = λ i lo hi. rw (free-retype f.area b t) (x.free i lo hi);
  aside = x.aside;
}
