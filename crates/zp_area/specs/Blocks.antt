-- A set of free blocks with the free lists that hold their heads and the types of the pageblocks (Knowlton 1965 for the blocks; Gorman,
-- chapter 6, for the lists by order; the types and the order of the heads are this profile's). The largest block has order m.
use Rattle.std.specs.Prelude.{ℕ, ◌+◌, List, [], ◌∷◌, ◌++◌, replicate, take, Option}
use Rattle.std.specs.List.{count_by}
use Rattle.zp_model.specs.declared.pageblock_type.PageblockType.{PageblockType}
use Rattle.zp_model.specs.declared.pageblock_type.PageblockType.TheVariants.{Movable}
use Rattle.zp_model.specs.declared.state.State.{State}
use Rattle.zp_model.specs.declared.state.State.TheVariants.{Tail, Free}
use Rattle.zp_model.specs.BlockSet.{is_order}
use Rattle.zp_model.specs.Rows.{Rows, list_at, with_list, with_state, with_run, without_page, rest}
use Rattle.zp_model.specs.Area.{list_number, lists_count, kind_at, pageblocks_of}
use Rattle.zp_area.specs.NotedBlocks.{blocks_of}

pub record Blocks : Type 0 where
  -- the order of the largest block
  pub largest : ℕ
  -- what is noted of each page, and the lists: the free ones by their numbers, then further ones of pages that are not free
  pub rows : Rows
  -- the type of each pageblock
  pub kinds : List PageblockType

-- the blocks of the set, which are those that are noted as free
abbrev pub block_set : Blocks → List (Option ℕ)
block_set a = blocks_of a.rows.states

-- how many blocks of order k a set has
abbrev pub count_of : List (Option ℕ) → ℕ → ℕ
count_of s k = count_by (is_order k) s

-- the free lists; that of an order and a type, of which there is none for an order above the largest; and a further list
abbrev pub free_lists : ℕ → Blocks → List (List ℕ)
free_lists m a = take (lists_count m) a.rows.lists

abbrev pub free_list_of : ℕ → Blocks → ℕ → PageblockType → List ℕ
free_list_of m a k t = list_at (free_lists m a) (list_number k t)

abbrev pub side_list_of : ℕ → Blocks → ℕ → List ℕ
side_list_of m a q = list_at a.rows.lists (lists_count m + q)

-- the number of the list on which the block (h, k) stands: that of its order and its pageblock's type
abbrev pub list_of_block : ℕ → Blocks → ℕ → ℕ → ℕ
list_of_block m a h k = list_number k (kind_at m a.kinds h)

-- no block, all pageblocks Movable, and so many empty further lists
abbrev pub no_blocks : ℕ → ℕ → ℕ → Blocks
no_blocks m pages side =
    record {
      largest = m;
      rows = record { lists = replicate (lists_count m + side) []; states = replicate pages Tail };
      kinds = replicate (pageblocks_of m pages) Movable;
    }

-- with page h in front of list r, at its end, and without it
abbrev pub put_in_front : Rows → ℕ → ℕ → Rows
put_in_front w r h = with_list w r (h ∷ list_at w.lists r)

abbrev pub put_at_end : Rows → ℕ → ℕ → Rows
put_at_end w r h = with_list w r (list_at w.lists r ++ h ∷ [])

abbrev pub taken_off : Rows → ℕ → ℕ → Rows
taken_off w r h = with_list w r (without_page h (list_at w.lists r))

-- with the block (h, k): it is noted as free and stands in front of its list
abbrev pub added : ℕ → Blocks → ℕ → ℕ → Blocks
added m a h k = record a { rows = put_in_front (with_state a.rows h (Free k)) (list_of_block m a h k) h }

-- without the block (h, k): it is noted as free no more, and stands on no list
abbrev pub removed : ℕ → Blocks → ℕ → ℕ → Blocks
removed m a h k = record a { rows = with_state (taken_off a.rows (list_of_block m a h k) h) h Tail }

-- with another note of page h
abbrev pub noted : Blocks → ℕ → State → Blocks
noted a h s = record a { rows = with_state a.rows h s }

-- and of so many pages from h on
abbrev pub noted_run : Blocks → ℕ → ℕ → State → Blocks
noted_run a h n s = record a { rows = record a.rows { states = with_run a.rows.states h n s } }

-- with page h at the end of a further list, and without the page in front of one
abbrev pub side_pushed : ℕ → Blocks → ℕ → ℕ → Blocks
side_pushed m a q h = record a { rows = put_at_end a.rows (lists_count m + q) h }

abbrev pub side_popped : ℕ → Blocks → ℕ → Blocks
side_popped m a q = record a { rows = with_list a.rows (lists_count m + q) (rest (side_list_of m a q)) }
