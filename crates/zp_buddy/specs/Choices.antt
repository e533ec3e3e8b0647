-- What the looks at a free area find. The largest block has order m.
use Rattle.std.specs.Prelude.{ℕ, ◌≡◌, ◌≤◌, List, length, Option, None, Some}
use Rattle.std.specs.List.{find}
use Rattle.zp_model.specs.declared.migrate_type.MigrateType.{MigrateType}
use Rattle.zp_model.specs.MigrateType.{foreign}
use Rattle.zp_model.specs.PageblockType.{pageblock_type}
use Rattle.zp_model.specs.BlockSet.{Starts, first_of}
use Rattle.zp_model.specs.Rows.{front}
use Rattle.zp_model.specs.Area.{Area, free_list, kind_at}
use Rattle.zp_model.specs.Choose.{Chosen, choose, is_claimable}
use Rattle.zp_model.specs.Frames.{Frames, with_area}
use Rattle.zp_model.specs.Take.{taken}
use Rattle.zp_buddy.specs.Sound.{IsSound, area_of, frames_of}
use Rattle.zp_area.specs.Blocks.{Blocks, block_set, free_list_of}
use Rattle.zp_area.specs.Claims.{is_half_free}
use Rattle.zp_buddy.specs.declared.choice.FreeBlock.{FreeBlock}
use Rattle.zp_buddy.specs.declared.choice.Choice.{Choice}

-- the free pages of a set of blocks with its lists, and these with what is noted of the pages
abbrev pub area_in : ℕ → Blocks → Area
area_in m a = area_of m a.rows.states a.kinds a.rows.lists

abbrev pub frames_in : ℕ → Blocks → Frames
frames_in m a = frames_of m a.rows.states a.kinds a.rows.lists

-- the front of the first list of order o and of one of these types that is not empty
abbrev pub front_of_order : ℕ → Blocks → List MigrateType → ℕ → Option ℕ
front_of_order m a ts o = first_of (λ t. front (free_list_of m a o (pageblock_type t))) ts

-- the first block of order o and of one of these types in whose pageblock half of the pages are free
abbrev pub half_free_of_order : ℕ → Blocks → List MigrateType → ℕ → Option ℕ
half_free_of_order m a ts o = first_of (λ t. find (is_half_free m a) (free_list_of m a o (pageblock_type t))) ts

-- the first block of order o and of a type foreign to t that may be claimed for t
abbrev pub claimable_of_order : Area → MigrateType → ℕ → Option ℕ
claimable_of_order a t o = first_of (λ f. find (is_claimable a t o) (free_list a o (pageblock_type f))) (foreign t)

-- a block of the set that has order k or more, with the type of its pageblock
pub record IsFreeBlock (a : Blocks) (k : ℕ) (b : FreeBlock) : Type 0 where
  pub enough : k ≤ b.order
  pub starts : Starts (block_set a) b.head b.order
  pub typed : pageblock_type b.kind ≡ kind_at a.largest a.kinds b.head

-- what is found has the head that is looked for
abbrev pub IsFoundAs : Blocks → ℕ → Option ℕ → Option FreeBlock → Type 0
IsFoundAs a k h None = h ≡ None
IsFoundAs a k h (Some b) = (h ≡ Some b.head) × IsFreeBlock a k b

abbrev pub chosen_of : Choice → Chosen
chosen_of c = record { head = c.block.head; claims = c.claims }

-- what is chosen
abbrev pub IsChosen : ℕ → Blocks → ℕ → MigrateType → Option Choice → Type 0
IsChosen m a k t None = choose (area_in m a) k t ≡ None
IsChosen m a k t (Some c) = (choose (area_in m a) k t ≡ Some (chosen_of c)) × IsFreeBlock a k c.block

-- for a request of order k and type t the chosen block is taken, which leaves n
pub record IsTaking (a : Blocks) (k : ℕ) (t : MigrateType) (n : Blocks) (c : Choice) : Type 0 where
  pub chosen : choose (area_in a.largest a) k t ≡ Some (chosen_of c)
  pub block : IsFreeBlock a k c.block
  pub largest : n.largest ≡ a.largest
  pub sound : IsSound a.largest n.rows.states n.kinds n.rows.lists
  pub pages : length n.rows.states ≡ length a.rows.states
  pub typed : length n.kinds ≡ length a.kinds
  pub after : frames_in a.largest n ≡ with_area (frames_in a.largest a) (taken (frames_in a.largest a).area k t (Some (chosen_of c)))

-- what such a request is answered
abbrev pub IsTaken : Blocks → ℕ → MigrateType → Blocks → Option ℕ → Type 0
IsTaken a k t n None = (choose (area_in a.largest a) k t ≡ None) × (n ≡ a)
IsTaken a k t n (Some h) = (c : Choice) × (h ≡ c.block.head) × IsTaking a k t n c
