-- What is kept of the blocks that can be chosen, those outside isolated pageblocks (this profile). The largest block has order m.
use Rattle.std.specs.Prelude.{ℕ, ◌+◌, Bool, List, [], ◌∷◌, cond, Option}
use Rattle.zp_model.specs.declared.pageblock_type.PageblockType.{PageblockType}
use Rattle.zp_model.specs.declared.state.State.{State}
use Rattle.zp_model.specs.declared.state.State.TheVariants.{Tail, Free, Out, Posted}
use Rattle.zp_model.specs.PageblockType.{is_isolate}
use Rattle.zp_model.specs.Area.{available_blocks}
use Rattle.zp_tree.specs.Blocks.{with_block, without_block}
use Rattle.zp_area.specs.Blocks.{Blocks, block_set}

-- the blocks of the set that lie outside isolated pageblocks
abbrev pub choosable : ℕ → Blocks → List (Option ℕ)
choosable m a = available_blocks m a.kinds (block_set a)

-- the sum of the numbers of the isolated pageblocks
abbrev pub isolated_sum : List PageblockType → List ℕ → ℕ
isolated_sum [] ns = 0
isolated_sum (t ∷ ts) [] = 0
isolated_sum (t ∷ ts) (n ∷ ns) = cond (is_isolate t) n 0 + isolated_sum ts ns

-- a set of blocks without the block that starts at page h, or with it, where the page's state tells of one
abbrev pub retold : List (Option ℕ) → ℕ → Bool → State → List (Option ℕ)
retold s h isolates (Free k) = cond isolates (without_block s h) (with_block s h k)
retold s h isolates Tail = s
retold s h isolates (Out k t w) = s
retold s h isolates (Posted k t w) = s
