-- What is kept beside a set of blocks, in other words for the same.
use Rattle.std.proofs.Common.{ℕ, suc, ◌+◌, ◌-◌, ◌*◌, ◌^◌, ◌/◌, ◌≡◌, ◌≤◌, ◌<◌, sym, ◌∙◌, ap, arith, List, [], drop, length, set, get_or-set_other}
use Rattle.std.specs.List.{slice_index, slice_index_or}
use Rattle.std.proofs.Math.Nat.{mul-le-mul_right, suc-mul}
use Rattle.std.proofs.lemmas.Nat.{pow_pos, shr_split}
use Rattle.std.proofs.lemmas.List.{get_or_default, get_or-drop, length-map}
use Rattle.std.proofs.lemmas.List.Sums.{count_by-le-length}
use Rattle.zp_model.specs.declared.constants.TheConstants.{MAX_PAGES}
use Rattle.zp_model.specs.declared.pageblock_type.PageblockType.{PageblockType}
use Rattle.zp_model.specs.declared.pageblock_type.PageblockType.TheVariants.{Movable}
use Rattle.zp_model.specs.declared.state.State.{State}
use Rattle.zp_model.specs.Block.{IsBlock}
use Rattle.zp_model.specs.BlockSet.{is_order}
use Rattle.zp_model.specs.Rows.{list_at}
use Rattle.zp_model.specs.Area.{pageblock_pages, kind_at, list_number, lists_count}
use Rattle.zp_model.proofs.Heads.{number_lt}
use Rattle.zp_area.specs.NotedBlocks.{free_order, blocks_of}
use Rattle.zp_area.specs.Blocks.{Blocks, block_set, count_of, list_of_block}
use Rattle.zp_area.specs.Counted.{IsCounted}
use Rattle.zp_area.specs.OneSet.{IsOneSet}
use Rattle.zp_area.proofs.OneBlock.{head_below}

pub blocks_length : (s : List State) → length (blocks_of s) ≡ length s
blocks_length s = length-map s free_order

-- a change of a free list leaves the further ones
pub aside_same : (m : ℕ) (l : List (List ℕ)) (n r : ℕ) (xs : List ℕ) → n < lists_count m → list_at (drop (lists_count m) (set l n xs)) r ≡ list_at (drop (lists_count m) l) r
aside_same m l n r xs lt =
    get_or-drop (lists_count m) (set l n xs) r [] ∙ get_or-set_other l n (lists_count m + r) xs [] (omega arith) ∙ sym (get_or-drop (lists_count m) l r [])

-- a block has an order that every zone with larger blocks can have
pub block_of_more : {m l n h k : ℕ} → m ≤ l → IsBlock m n h k → IsBlock l n h k
block_of_more le x = record { order = omega (arith, x.order); aligned = x.aligned; inside = x.inside }

-- there are no more blocks of an order than pages
pub count-le : (m : ℕ) (a : Blocks) (k : ℕ) → IsOneSet m a → count_of (block_set a) k ≤ MAX_PAGES
count-le m a k x = omega (arith, count_by-le-length (is_order k) (blocks_of a.rows.states), blocks_length a.rows.states)

-- each block's pageblock has a type
pub typed_there : (m : ℕ) (a : Blocks) (h k : ℕ) → IsOneSet m a → IsBlock m (length a.rows.states) h k → h / pageblock_pages m < length a.kinds
typed_there m a h k one block = rw one.typed (number_lt (length a.rows.states) h m (head_below m _ h k block))

-- a pageblock begins before the zone's end
pub starts_inside : (m : ℕ) (a : Blocks) (b : ℕ) → IsOneSet m a → b < length a.kinds → b * pageblock_pages m < length a.rows.states
starts_inside m a b one lt =
    let n : ℕ = length a.rows.states in
    let below : suc b ≤ (n + (2 ^ m - 1)) / 2 ^ m = omega (arith, lt, one.typed) in
    let le : suc b * 2 ^ m ≤ (n + (2 ^ m - 1)) / 2 ^ m * 2 ^ m = mul-le-mul_right (2 ^ m) below in
    let up : suc b * 2 ^ m ≡ b * 2 ^ m + 2 ^ m = suc-mul b (2 ^ m) in
    omega (arith, le, up, shr_split (n + (2 ^ m - 1)) m, pow_pos m)

-- the type that the code reads at a block's pageblock b
pub kind_found : (m : ℕ) (a : Blocks) (h k b : ℕ) (t : PageblockType) → IsOneSet m a → IsBlock m (length a.rows.states) h k → b ≡ h / pageblock_pages m → t ≡ slice_index_or a.kinds b t → t ≡ kind_at m a.kinds h
kind_found m a h k b t one block eb et =
    let lt : b < length a.kinds = rw eb (typed_there m a h k one block) in
    et ∙ get_or_default a.kinds b t Movable lt ∙ ap (λ q. slice_index_or a.kinds q Movable) eb

-- the list that it finds for the block then
pub list_found : (m : ℕ) (a : Blocks) (h k r b : ℕ) (t : PageblockType) → IsOneSet m a → IsBlock m (length a.rows.states) h k → b ≡ h / pageblock_pages m →
    t ≡ slice_index_or a.kinds b t → r ≡ list_number k t → r ≡ list_of_block m a h k
list_found m a h k r b t one block eb et er = er ∙ ap (λ q. list_number k q) (kind_found m a h k b t one block eb et)

-- there is a number for its pageblock, and it is what the code reads there
pub counted_there : (m : ℕ) (states : List State) (free_in : List ℕ) (h k : ℕ) → IsCounted m states free_in → IsBlock m (length states) h k → h / pageblock_pages m < length free_in
counted_there m states free_in h k x block = rw x.blocks (number_lt (length states) h m (head_below m _ h k block))

pub read_at : (m : ℕ) (states : List State) (free_in : List ℕ) (h k b d : ℕ) → IsCounted m states free_in → IsBlock m (length states) h k → b ≡ h / pageblock_pages m →
    d ≡ slice_index_or free_in b d → d ≡ slice_index free_in (h / pageblock_pages m)
read_at m states free_in h k b d x block eb ed = ed ∙ ap (λ q. slice_index_or free_in q d) eb ∙ get_or_default free_in _ d 0 (counted_there m states free_in h k x block)
