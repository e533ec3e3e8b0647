-- The blocks that the notes of the pages tell, and the lists by their numbers.
use Rattle.std.proofs.Common.{List, None, Some, [], ap, arith, drop, false, get_or, get_or-take, length, length-take-le, map, sym, take, ℕ, ◌+◌, ◌-◌, ◌<◌, ◌∙◌, ◌≡◌, ◌≤◌}
use Rattle.std.proofs.Math.ListN.{get_or-map}
use Rattle.std.proofs.lemmas.List.{ext_get_or, get_or-drop, length-drop, length-map}
use Rattle.std.proofs.lemmas.List.FromFn.{fill_by_all}
use Rattle.std.specs.List.{range_with_len}
use Rattle.zp_model.proofs.Covers.{has-cover}
use Rattle.zp_model.specs.Area.{lists_count}
use Rattle.zp_model.specs.Block.{has, head}
use Rattle.zp_model.specs.BlockSet.{Starts, cover}
use Rattle.zp_model.specs.Rows.{list_at, state_at}
use Rattle.zp_model.specs.declared.state.State.{State}
use Rattle.zp_model.specs.declared.state.State.TheVariants.{Free, Tail}
use Rattle.zp_tree.proofs.Apart.{uncovered-from}
use Rattle.zp_area.specs.NotedBlocks.{free_order, blocks_of}

pub block_at : (s : List State) (g : ℕ) → get_or (blocks_of s) g None ≡ free_order (state_at s g)
block_at s g = get_or-map free_order s g Tail

-- a block that starts where a state is known
state_of : (p : State) (k : ℕ) → free_order p ≡ Some k → p ≡ Free k
state_of p k e = grind arith

pub starts-to : (s : List State) (g k : ℕ) → Starts (blocks_of s) g k → state_at s g ≡ Free k
starts-to s g k e = state_of (state_at s g) k (sym (block_at s g) ∙ e)

pub starts-from : (s : List State) (g k : ℕ) → state_at s g ≡ Free k → Starts (blocks_of s) g k
starts-from s g k e = block_at s g ∙ ap free_order e

pub tail_free : (k : ℕ) → Tail ≡ Free k → ⊥
tail_free k e = cc

-- no free block has a page where none of any order starts at the head around it
pub free_none : (s : List State) (i : ℕ) → i < length s → ((k : ℕ) → state_at s (head i k) ≡ Free k → ⊥) → has (cover (blocks_of s)) i ≡ false
free_none s i lt f =
    has-cover (blocks_of s) i (omega (arith, length-map s free_order)) ∙ uncovered-from (blocks_of s) i (λ k below st. f k (starts-to s (head i k) k st))

-- the free lists are those that are read by their numbers
pub free_lists : (m : ℕ) (l : List (List ℕ)) (f : ℕ → List ℕ) → lists_count m ≤ length l → ((r : ℕ) → r < lists_count m → list_at l r ≡ f r) →
    take (lists_count m) l ≡ map f (range_with_len 0 (lists_count m))
free_lists m l f le each =
    fill_by_all f (take (lists_count m) l) (lists_count m) [] (length-take-le (lists_count m) l le)
    (λ r lt. get_or-take (lists_count m) l r [] lt ∙ each r lt)

-- the further lists stay where each of them stays
pub sides_same : (m : ℕ) (l l' : List (List ℕ)) → length l' ≡ length l → ((r : ℕ) → lists_count m ≤ r → list_at l' r ≡ list_at l r) →
    drop (lists_count m) l' ≡ drop (lists_count m) l
sides_same m l l' len f =
    let a : length (drop (lists_count m) l') ≡ length l' - lists_count m = length-drop (lists_count m) l' in
    let b : length (drop (lists_count m) l) ≡ length l - lists_count m = length-drop (lists_count m) l in
    ext_get_or [] (drop (lists_count m) l') (drop (lists_count m) l) (omega arith)
    (λ i lt. get_or-drop (lists_count m) l' i [] ∙ f (lists_count m + i) (omega arith) ∙ sym (get_or-drop (lists_count m) l i []))
