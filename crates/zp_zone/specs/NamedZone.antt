-- A zone without its seats, as contracts see it, and what a call leaves of it for the calls after it (this profile).
use Rattle.std.specs.Prelude.{ℕ, ◌≡◌, ◌≢◌, ◌<◌, ◌≤◌, ◌+◌, ◌-◌, ◌*◌, slice_index_or, List, All, Option, Result, Ok, Err, IsTrue, true, false}
use Rattle.std.specs.Option.{option_map}
use Rattle.arrayvec.specs.ArrayVec.{ArrayVec}
use Rattle.zp_model.specs.declared.block.Block.{Block}
use Rattle.zp_model.specs.declared.refused.Refused.{Refused}
use Rattle.zp_model.specs.declared.request.Reply.{Reply}
use Rattle.zp_model.specs.declared.state.State.{State}
use Rattle.zp_model.specs.declared.pageblock_type.PageblockType.TheVariants.{Movable}
use Rattle.zp_model.specs.Area.{pageblock_pages, size_in}
use Rattle.zp_model.specs.BlockSet.{largest_in, max_blocks}
use Rattle.zp_zone.specs.declared.pageblock.Pageblock.{Pageblock}
use Rattle.zp_zone.specs.declared.told.Told.{Told}
use Rattle.zp_model.specs.Rows.{stands_in}
use Rattle.zp_model.specs.Zone.{PlainZone, pages_of}
use Rattle.zp_model.specs.Run.{is_out}
use Rattle.zp_model.specs.Runs.{is_within, may_free_run}
use Rattle.zp_model.specs.Described.{IsDescribedAt}

pub record NamedZone : Type 0 where
  pub name : List ℕ
  pub plain : PlainZone

-- no block out starts at the absolute page
abbrev pub IsFresh : PlainZone → ℕ → Type 0
IsFresh z p = (w k : ℕ) → is_out z w p k ≡ false

-- no block out starts at one of the n pages from an absolute page on
abbrev pub AreFresh : PlainZone → ℕ → ℕ → Type 0
AreFresh z p n = (q : ℕ) → is_within p n q ≡ true → IsFresh z q

-- each page that is lent to worker w is so still, but for the n pages from page p on
abbrev pub KeepsLentBut : ℕ → ℕ → ℕ → PlainZone → PlainZone → Type 0
KeepsLentBut w p n before after = (q : ℕ) → is_within p n q ≡ false → IsTrue (may_free_run before w q 1) → IsTrue (may_free_run after w q 1)

-- each block out is out still
abbrev pub KeepsOut : PlainZone → PlainZone → Type 0
KeepsOut before after = (w p k : ℕ) → IsTrue (is_out before w p k) → IsTrue (is_out after w p k)

-- each block out at another page than this one
abbrev pub KeepsOutBut : ℕ → PlainZone → PlainZone → Type 0
KeepsOutBut page before after = (w p k : ℕ) → p ≢ page → IsTrue (is_out before w p k) → IsTrue (is_out after w p k)

-- each block out at another page than these
abbrev pub KeepsOutBeside : List ℕ → PlainZone → PlainZone → Type 0
KeepsOutBeside pages before after = (w p k : ℕ) → stands_in p pages ≡ false → IsTrue (is_out before w p k) → IsTrue (is_out after w p k)

-- each of the pages is out to worker w, as a block of order 0
abbrev pub AreOut : PlainZone → ℕ → List ℕ → Type 0
AreOut z w pages = All (λ page. IsTrue (is_out z w page 0)) pages

-- the absolute page p is one of this zone
abbrev pub IsPageOf : PlainZone → ℕ → Type 0
IsPageOf z p = (z.base ≤ p) × (p < z.base + pages_of z)

-- a place of the zone as an absolute page
abbrev pub absolute : PlainZone → Option ℕ → Option ℕ
absolute z place = option_map (λ h. z.base + h) place

-- what a zone tells of the absolute page p describes the zone: its state, and as absolute pages its neighbours on its one list
pub record IsToldOf (z : PlainZone) (p : ℕ) (state : State) (back forward : Option ℕ) : Type 0 where
  pub back_place : Option ℕ
  pub forward_place : Option ℕ
  pub back_at : back ≡ absolute z back_place
  pub forward_at : forward ≡ absolute z forward_place
  pub described : IsDescribedAt z (p - z.base) state back_place forward_place

-- what a zone tells of pageblock n is so of the zone: its type, how many of its pages are free, and the order of the largest free block in it
pub record IsPageblockOf (z : PlainZone) (n : ℕ) (b : Pageblock) : Type 0 where
  pub kind : b.kind ≡ slice_index_or z.area.kinds n Movable
  pub free : b.free ≡ size_in z.area.largest z.area.free n
  pub largest : b.largest ≡ largest_in (max_blocks z.area.largest z.area.free) (n * pageblock_pages z.area.largest) z.area.largest

-- a request's answer as a reply of the plain zone
abbrev pub page_reply : Result ℕ Refused → Reply
page_reply (Ok p) = Reply.Page p
page_reply (Err r) = Reply.Refused r

abbrev pub told_reply : Result Told Refused → Reply
told_reply (Ok t) = Reply.Page t.page
told_reply (Err r) = Reply.Refused r

abbrev pub block_reply : Result Block Refused → Reply
block_reply (Ok b) = Reply.Block b
block_reply (Err r) = Reply.Refused r

abbrev pub isolate_reply : Result (Unit {0}) Refused → Reply
isolate_reply (Ok u) = Reply.Isolated
isolate_reply (Err r) = Reply.Refused r

abbrev pub release_reply : Result (Unit {0}) Refused → Reply
release_reply (Ok u) = Reply.Released
release_reply (Err r) = Reply.Refused r

abbrev pub pages_reply : Result (ArrayVec ℕ) Refused → Reply
pages_reply (Ok v) = Reply.Pages v.items
pages_reply (Err r) = Reply.Refused r
