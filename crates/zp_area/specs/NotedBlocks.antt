-- The free blocks that the notes of the pages tell.
use Rattle.std.specs.Prelude.{ℕ, List, map, Option, None, Some}
use Rattle.zp_model.specs.declared.state.State.{State}
use Rattle.zp_model.specs.declared.state.State.TheVariants.{Tail, Free, Out, Posted}

abbrev pub free_order : State → Option ℕ
free_order Tail = None
free_order (Free k) = Some k
free_order (Out k t w) = None
free_order (Posted k t w) = None

-- the free blocks
abbrev pub blocks_of : List State → List (Option ℕ)
blocks_of states = map free_order states
