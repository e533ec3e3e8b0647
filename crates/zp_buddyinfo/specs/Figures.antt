-- The figures of a zone whose free blocks are so many of each order, the least order first.
-- From Mel Gorman and Andy Whitcroft, "Measuring the Impact of the Linux Memory Manager", and Linux's mm/vmstat.c, whose names stand in brackets.
use Rattle.std.specs.Prelude.{ℕ, ◌+◌, ◌-◌, ◌*◌, ◌/◌, ◌^◌, ◌<◌, ◌≤◌, ◌==◌, nat_le, if◌then◌else◌, List, length, sum, sum_by, slice_index, nat_lt, Option, find, reverse}
use Rattle.std.specs.List.{range_with_len}
use Rattle.zp_buddyinfo.specs.declared.bounds.TheConstants.{ORDERS, PAGE_LIMIT, WHOLE}
use Rattle.zp_buddyinfo.specs.declared.index.FragmentationIndex.{FragmentationIndex}
use Rattle.zp_buddyinfo.specs.declared.index.FragmentationIndex.TheVariants.{Served, NothingFree, Above, Below}

-- how many blocks of order k lie in the free blocks of order k and above, of which one of order o holds 2^(o - k) [free_blocks_suitable]
unfoldable pub suitable_blocks : List ℕ → ℕ → ℕ
suitable_blocks blocks k = sum_by (λ o. slice_index blocks o * 2 ^ (o - k)) (range_with_len k (length blocks - k))

-- a page is a block of order 0 [free_pages]
abbrev pub free_pages : List ℕ → ℕ
free_pages blocks = suitable_blocks blocks 0

-- what may be a zone's free blocks
pub record AreFreeBlocks (blocks : List ℕ) : Type 0 where
  pub some : 0 < length blocks
  pub orders : length blocks ≤ ORDERS
  pub pages : free_pages blocks < PAGE_LIMIT

-- the share of the free pages that lie in blocks too small for order k, in thousandths [unusable_free_index]:
-- "No free memory is interpreted as all free memory is unusable."
abbrev pub unusable_index : List ℕ → ℕ → ℕ
unusable_index blocks k =
    if free_pages blocks == 0 then WHOLE else (free_pages blocks - suitable_blocks blocks k * 2 ^ k) * WHOLE / free_pages blocks

-- how much of a failure at order k is for want of memory [the part that __fragmentation_index takes off 1000]: a thousand and a thousand
-- times the blocks of order k that the free pages would make, for each free block
abbrev pub want_of_memory : List ℕ → ℕ → ℕ
want_of_memory blocks k = (WHOLE + free_pages blocks * WHOLE / 2 ^ k) / sum blocks

-- a thousand without that, which may be above it
abbrev pub index_without : ℕ → FragmentationIndex
index_without want = if nat_le want WHOLE then Above (WHOLE - want) else Below (want - WHOLE)

-- whether a request of order k that fails, fails for want of memory or for fragmentation [__fragmentation_index]
abbrev pub fragmentation_index : List ℕ → ℕ → FragmentationIndex
fragmentation_index blocks k =
    if sum blocks == 0 then NothingFree
    else (if suitable_blocks blocks k == 0 then index_without (want_of_memory blocks k) else Served)

-- the largest order of which a block is free: the first from the top
abbrev pub largest_order : List ℕ → Option ℕ
largest_order blocks = find (λ k. nat_lt 0 (slice_index blocks k)) (reverse (range_with_len 0 (length blocks)))
