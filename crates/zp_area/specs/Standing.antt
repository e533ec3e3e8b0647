-- Where a block of the set stands, and what taking the first block of a type leaves. The largest block has order m.
use Rattle.std.specs.Prelude.{ℕ, ◌≡◌, ◌≤◌, ◌^◌, Option, Some, min, true}
use Rattle.zp_model.specs.declared.pageblock_type.PageblockType.{PageblockType}
use Rattle.zp_model.specs.BlockSet.{Starts, first_of, orders_from}
use Rattle.zp_model.specs.Rows.{front, list_at}
use Rattle.zp_model.specs.Area.{kind_at, list_number}
use Rattle.zp_area.specs.Blocks.{Blocks, block_set, free_list_of}
use Rattle.zp_area.specs.Chains.{pages_split_off, split_off}
use Rattle.zp_area.specs.declared.listed_block.ListedBlock.{ListedBlock}

-- a block of the set in a pageblock of type t, on the list of its order and this type; it is the front of it, where it is known to be
pub record IsListedBlock (a : Blocks) (t : PageblockType) (b : ListedBlock) : Type 0 where
  pub starts : Starts (block_set a) b.head b.order
  pub typed : t ≡ kind_at a.largest a.kinds b.head
  pub list : b.list ≡ list_number b.order t
  pub front : b.is_front ≡ true → front (list_at a.rows.lists b.list) ≡ Some b.head

-- the front of the first list of type t that is not empty, from order k on
abbrev pub first_head : Blocks → PageblockType → ℕ → Option ℕ
first_head a t k = first_of (λ o. front (free_list_of a.largest a o t)) (orders_from a.largest k)

-- the block (h, o) is the first of type t and of order k or more, and its low part of order j was taken, which leaves n
pub record IsFirstTaken (a : Blocks) (t : PageblockType) (k h o j : ℕ) (n : Blocks) : Type 0 where
  pub first : first_head a t k ≡ Some h
  pub starts : Starts (block_set a) h o
  pub enough : k ≤ o
  pub typed : t ≡ kind_at a.largest a.kinds h
  pub within : j ≤ o
  pub after : n ≡ split_off a.largest a h o j

-- the block (h, o) is the first of type t, and its n lowest pages were taken, as many as were wanted, or all that it had, which leaves y
pub record AreFirstTaken (a : Blocks) (t : PageblockType) (most h o n : ℕ) (y : Blocks) : Type 0 where
  pub first : first_head a t 0 ≡ Some h
  pub starts : Starts (block_set a) h o
  pub typed : t ≡ kind_at a.largest a.kinds h
  pub count : n ≡ min most (2 ^ o)
  pub after : y ≡ pages_split_off a.largest a h o n
