-- A block that is halved towards a part of it outside isolated pageblocks: what is kept beside the lists, half by half.
use Rattle.std.proofs.Common.{ℕ, suc, zero, ◌+◌, ◌-◌, ◌/◌, ◌^◌, ◌≡◌, ◌≤◌, ◌<◌, refl, sym, ◌∙◌, ap, arith, Bool, false, List, length, set, get_or-set_same, Option, None}
use Rattle.std.specs.List.{slice_index, slice_index_or}
use Rattle.std.proofs.lemmas.List.{map-set, set-set}
use Rattle.zp_model.specs.declared.pageblock_type.PageblockType.{PageblockType}
use Rattle.zp_model.specs.declared.pageblock_type.PageblockType.TheVariants.{Movable}
use Rattle.zp_model.specs.declared.state.State.TheVariants.{Free, Tail}
use Rattle.zp_model.specs.Block.{head}
use Rattle.zp_model.specs.BlockSet.{Starts}
use Rattle.zp_model.specs.RunLaws.{half_beside}
use Rattle.zp_model.specs.Rows.{IsLoose}
use Rattle.zp_model.specs.Area.{available_blocks, is_isolated, kind_at, list_number, pageblock_pages}
use Rattle.zp_model.proofs.Heads.{two}
use Rattle.zp_model.proofs.TypeNumbers.{list_number_below}
use Rattle.zp_tree.specs.Blocks.{split_towards_set, with_block, with_halves_beside, without_block}
use Rattle.zp_tree.proofs.BuddyPlaces.{head_around}
use Rattle.zp_area.specs.NotedBlocks.{free_order}
use Rattle.zp_area.specs.Blocks.{Blocks, block_set, added, removed}
use Rattle.zp_area.specs.OneSet.{IsKept, IsOneSet}
use Rattle.zp_area.specs.Towards.{halves_beside, split_towards}
use Rattle.zp_area.proofs.Adding.{coming_loose, kept_added}
use Rattle.zp_area.proofs.AvailableBlocks.{available-with, available-without, isolated_there}
use Rattle.zp_area.proofs.Indexing.{started_there}
use Rattle.zp_area.proofs.OneBlock.{head_below}
use Rattle.zp_area.proofs.OnePageblock.{changed_added, changed_again, changed_not, changed_removed}
use Rattle.zp_area.proofs.Removing.{kept_removed}
use Rattle.zp_area.proofs.Scattered.{IsChangedIn}
use Rattle.zp_area.proofs.Towards.{IsTowards, beside_place, half_coming, towards_begins, towards_ends, towards_goes}

-- the block of order o around page h of a is halved down to order j: b has the halves beside the page; of the pages of the pageblock those of the
-- run of order j around it are not counted
pub record IsHalving (m : ℕ) (a b : Blocks) (free_in : List ℕ) (h o k j : ℕ) : Type 0 where
  pub kinds : b.kinds ≡ a.kinds
  pub most : 2 ^ j ≤ slice_index free_in (h / pageblock_pages m)
  pub kept : IsKept m b (set free_in (h / pageblock_pages m) (slice_index free_in (h / pageblock_pages m) - 2 ^ j))
  pub towards : IsTowards m a b h o k j

-- the head of the block is of the page's type
pub head_kind : (m : ℕ) (kinds : List PageblockType) (h o : ℕ) → o ≤ m → kind_at m kinds (head h o) ≡ kind_at m kinds h
head_kind m kinds h o le = ap (λ q. slice_index_or kinds q Movable) (head_around h o m le)

-- the pageblock around a page of a block has a type
pub around_there : (m : ℕ) (a : Blocks) (h o : ℕ) → IsOneSet m a → Starts (block_set a) (head h o) o → h / pageblock_pages m < length a.kinds
around_there m a h o x st = rw (← head_around h o m (x.blocks.block (head h o) o st).order) (started_there m a (head h o) o x st)

pub around_typed : (m : ℕ) (a : Blocks) (h o : ℕ) → IsOneSet m a → Starts (block_set a) (head h o) o → kind_at m a.kinds h ≡ kind_at m a.kinds (head h o)
around_typed m a h o x st = sym (head_kind m a.kinds h o (x.blocks.block (head h o) o st).order)

pub halving_begins : (m : ℕ) (a : Blocks) (free_in : List ℕ) (h o k : ℕ) → IsKept m a free_in → Starts (block_set a) (head h o) o → k ≤ o →
    IsHalving m a (removed m a (head h o) o) free_in h o k o
halving_begins m a free_in h o k x st le =
    let y = kept_removed m a (head h o) o x.one st free_in x in
    let here : h / pageblock_pages m ≡ head h o / pageblock_pages m = sym (head_around h o m (x.one.blocks.block (head h o) o st).order) in
    record {
      kinds = refl;
      most = rw here y.most;
      kept = rw here y.kept;
      towards = towards_begins m a h o k x.one st le;
    }

module _ {m : ℕ} {a b : Blocks} {free_in : List ℕ} {h o k : ℕ} (j : ℕ) (x : IsHalving m a b free_in h o k (j + 1)) where
  -- the half beside the page lies in its pageblock
  pub half_place : half_beside h j / pageblock_pages m ≡ h / pageblock_pages m
  half_place = beside_place h j m (omega (arith, x.towards.coming.block.order))

  -- so its type is the page's
  pub beside_kind : (t : PageblockType) → t ≡ kind_at m a.kinds h → t ≡ kind_at m b.kinds (half_beside h j)
  beside_kind t e = rw (half_place, x.kinds) e

  -- it may come to its list
  pub beside_list : (t : PageblockType) → list_number j t < length b.rows.lists
  beside_list t = omega (arith, list_number_below m j t (half_coming j x.towards).block.order, x.kept.one.table)

  pub beside_page : half_beside h j < length b.rows.states
  beside_page = head_below _ _ _ _ (half_coming j x.towards).block

  pub beside_loose : IsLoose b.rows.lists (half_beside h j)
  beside_loose = coming_loose (half_coming j x.towards)

  pub halving_goes : k ≤ j → h / pageblock_pages m < length free_in → IsHalving m a (added m b (half_beside h j) j) free_in h o k j
  halving_goes le lt =
      let p : ℕ = h / pageblock_pages m in
      let v : ℕ = slice_index free_in (h / pageblock_pages m) in
      let was : List ℕ = set free_in p (v - 2 ^ (j + 1)) in
      let z = kept_added (half_coming j x.towards) was x.kept in
      let had : slice_index was p ≡ v - 2 ^ (j + 1) = get_or-set_same free_in p (v - 2 ^ (j + 1)) 0 lt in
      let free : set free_in p (v - 2 ^ j) ≡ set was (half_beside h j / pageblock_pages m) (slice_index was (half_beside h j / pageblock_pages m) + 2 ^ j) =
      sym (set-set free_in p (v - 2 ^ (j + 1)) (v - 2 ^ j)) ∙ ap (λ q. set was p q) (omega (arith, had, x.most, two j)) ∙ ap (λ q. set was q (slice_index was q + 2 ^ j)) (sym half_place) in
      record {
        kinds = x.kinds;
        most = omega (arith, x.most, two j);
        kept = rw free z.kept;
        towards = towards_goes j x.towards le;
      }

-- the set of blocks to which halves are added
beside_set : (d m : ℕ) (a : Blocks) (h k : ℕ) → block_set (halves_beside m a h k d) ≡ with_halves_beside (block_set a) h k d
beside_set zero m a h k = refl
beside_set (suc d) m a h k =
    beside_set d m (added m a (half_beside h (k + d)) (k + d)) h k
    ∙ ap (λ q. with_halves_beside q h k d) (map-set free_order a.rows.states (half_beside h (k + d)) (Free (k + d)))

-- all halves are added: the set is split, and the pages of the run around the page are counted no more
pub halving_ends : (m : ℕ) (a b : Blocks) (free_in : List ℕ) (h o k : ℕ) → IsHalving m a b free_in h o k k →
    IsKept m b (set free_in (h / pageblock_pages m) (slice_index free_in (h / pageblock_pages m) - 2 ^ k)) × (split_towards_set (block_set a) h o k ≡ block_set b) × (b ≡ split_towards m a h o k)
halving_ends m a b free_in h o k x =
    let after : b ≡ split_towards m a h o k = towards_ends m a b h o k x.towards in
    let tree : split_towards_set (block_set a) h o k ≡ block_set b =
    ap (λ q. with_halves_beside q h k (o - k)) (sym (map-set free_order a.rows.states (head h o) Tail)) ∙ sym (beside_set (o - k) m (removed m a (head h o) o) h k) ∙ ap block_set (sym after) in
    (x.kept, tree, after)

-- the same of the blocks outside isolated pageblocks
available-beside : (d m : ℕ) (kinds : List PageblockType) (s : List (Option ℕ)) (h k : ℕ) → k + d ≤ m → is_isolated m kinds h ≡ false →
    available_blocks m kinds (with_halves_beside s h k d) ≡ with_halves_beside (available_blocks m kinds s) h k d
available-beside zero m kinds s h k le e = refl
available-beside (suc d) m kinds s h k le e =
    available-beside d m kinds (with_block s (half_beside h (k + d)) (k + d)) h k (omega arith) e
    ∙ ap (λ q. with_halves_beside q h k d)
    (available-with m kinds s (half_beside h (k + d)) (k + d) (isolated_there m kinds h (half_beside h (k + d)) false (beside_place h (k + d) m (omega arith)) e))

pub available-towards : (m : ℕ) (kinds : List PageblockType) (s : List (Option ℕ)) (h o k : ℕ) → k ≤ o → o ≤ m → is_isolated m kinds h ≡ false →
    available_blocks m kinds (split_towards_set s h o k) ≡ split_towards_set (available_blocks m kinds s) h o k
available-towards m kinds s h o k le top e =
    available-beside (o - k) m kinds (without_block s (head h o)) h k (omega arith) e ∙ ap (λ q. with_halves_beside q h k (o - k)) (available-without m kinds s (head h o))

-- the halves lie in the page's pageblock
changed_beside : (d m : ℕ) (a : Blocks) (h k : ℕ) → k + d ≤ m → IsChangedIn m (h / pageblock_pages m) a (halves_beside m a h k d)
changed_beside zero m a h k le = changed_not m (h / pageblock_pages m) a
changed_beside (suc d) m a h k le =
    changed_again m (h / pageblock_pages m) a (added m a (half_beside h (k + d)) (k + d)) (halves_beside m a h k (suc d))
    (changed_added m (h / pageblock_pages m) a (half_beside h (k + d)) (k + d) (beside_place h (k + d) m (omega arith)))
    (changed_beside d m (added m a (half_beside h (k + d)) (k + d)) h k (omega arith))

pub changed_towards : (m b : ℕ) (a : Blocks) (h o k : ℕ) → IsOneSet m a → Starts (block_set a) (head h o) o → k ≤ o → h / pageblock_pages m ≡ b →
    IsChangedIn m b a (split_towards m a h o k)
changed_towards m b a h o k x st le e =
    let top : o ≤ m = (x.blocks.block (head h o) o st).order in
    rw (← e) (changed_again m (h / pageblock_pages m) a (removed m a (head h o) o) (split_towards m a h o k)
    (changed_removed m (h / pageblock_pages m) a (head h o) o (head_around h o m top))
    (changed_beside (o - k) m (removed m a (head h o) o) h k (omega arith)))
