-- When the entry of a page, what is noted of the page and its links, describes a plain zone.
use Rattle.std.specs.Prelude.{ℕ, ◌≡◌, ◌↔◌, ◌++◌, true, false, List, map, Option, None, Some, slice_get}
use Rattle.zp_model.specs.declared.migrate_type.MigrateType.{MigrateType}
use Rattle.zp_model.specs.declared.state.State.{State}
use Rattle.zp_model.specs.declared.state.State.TheVariants.{Tail, Free, Out, Posted}
use Rattle.zp_model.specs.Block.{is_max}
use Rattle.zp_model.specs.Rows.{list_at, after, IsOn, IsLoose}
use Rattle.zp_model.specs.Zone.{PlainZone, PostedBlock, holding_at, posted_to}

-- the block (h, k), taken for type t, is out in w's name
abbrev pub IsOutFor : PlainZone → ℕ → ℕ → ℕ → MigrateType → Type 0
IsOutFor z w h k t = holding_at z.out h ≡ Some (record { order = k; kind = t; worker = w })

-- the block (h, k) of type t is posted to w
abbrev pub IsPostedTo : PlainZone → ℕ → ℕ → ℕ → MigrateType → Type 0
IsPostedTo z w h k t = (i : ℕ) × (slice_get (posted_to z w) i ≡ Some (record { head = h; order = k; kind = t }))

-- page h heads no block, free, out or posted
pub record HeadsNone (z : PlainZone) (h : ℕ) : Type 0 where
  pub free : (k : ℕ) → is_max z.area.largest z.area.free h k ≡ false
  pub out : holding_at z.out h ≡ None
  pub posted : (w k : ℕ) (t : MigrateType) → IsPostedTo z w h k t → ⊥

-- what is noted of page h is the block that it heads, free, out or posted, or that it heads none
pub record IsNoted (z : PlainZone) (h : ℕ) (state : State) : Type 0 where
  pub tail : (state ≡ Tail) ↔ HeadsNone z h
  pub free : (k : ℕ) → (state ≡ Free k) ↔ (is_max z.area.largest z.area.free h k ≡ true)
  pub out : (k : ℕ) (t : MigrateType) (w : ℕ) → (state ≡ Out k t w) ↔ IsOutFor z w h k t
  pub posted : (k : ℕ) (t : MigrateType) (w : ℕ) → (state ≡ Posted k t w) ↔ IsPostedTo z w h k t

-- all lists of a zone: the free lists by number, then for each worker the heads of the blocks posted to it
abbrev pub all_lists : PlainZone → List (List ℕ)
all_lists z = z.area.lists ++ map (λ (ps : List PostedBlock). map (λ (p : PostedBlock). p.head) ps) z.posted

-- the links of page p name its neighbours on its one list; a page on no list has none
pub record IsLinkedAt (ls : List (List ℕ)) (p : ℕ) (back forward : Option ℕ) : Type 0 where
  pub next : (r : ℕ) → IsOn ls r p → forward ≡ after p (list_at ls r)
  pub previous : (r q : ℕ) → IsOn ls r q → after q (list_at ls r) ≡ Some p → back ≡ Some q
  pub first : (r : ℕ) → slice_get (list_at ls r) 0 ≡ Some p → back ≡ None
  pub loose : IsLoose ls p → (back ≡ None) × (forward ≡ None)

-- the entry of page h, with this state and these links, describes the zone
pub record IsDescribedAt (z : PlainZone) (h : ℕ) (state : State) (back forward : Option ℕ) : Type 0 where
  pub noted : IsNoted z h state
  pub linked : IsLinkedAt (all_lists z) h back forward
