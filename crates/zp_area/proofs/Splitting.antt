-- A block that is split: what is kept beside the lists, half by half.
use Rattle.std.proofs.Common.{ℕ, suc, zero, ◌+◌, ◌-◌, ◌/◌, ◌^◌, ◌≡◌, ◌≤◌, ◌<◌, refl, sym, ◌∙◌, ap, arith, List, length, set, get_or-set_same, length-set}
use Rattle.std.specs.List.{slice_index}
use Rattle.std.proofs.lemmas.List.{map-set, set-set}
use Rattle.zp_model.specs.declared.pageblock_type.PageblockType.{PageblockType}
use Rattle.zp_model.specs.declared.state.State.TheVariants.{Free, Tail}
use Rattle.zp_model.specs.Block.{IsBlock}
use Rattle.zp_model.specs.BlockSet.{Starts}
use Rattle.zp_model.specs.Rows.{IsLoose, IsOn}
use Rattle.zp_model.specs.Area.{pageblock_pages, kind_at, list_number}
use Rattle.zp_model.proofs.Heads.{two}
use Rattle.zp_model.proofs.TypeNumbers.{list_number_below}
use Rattle.zp_tree.specs.Blocks.{high_halves, split_set}
use Rattle.zp_area.specs.Given.{IsClearRun}
use Rattle.zp_area.specs.NotedBlocks.{free_order}
use Rattle.zp_area.specs.Blocks.{Blocks, block_set, added, removed, list_of_block}
use Rattle.zp_area.specs.Chains.{halves_added, split_off}
use Rattle.zp_area.specs.OneSet.{IsOneSet, IsKept}
use Rattle.zp_area.proofs.Listing.{here_from}
use Rattle.zp_area.proofs.Keeping.{blocks_length}
use Rattle.zp_area.proofs.Adding.{IsComing, coming_loose, kept_added}
use Rattle.zp_area.proofs.Halves.{high_coming, high_kind, high_list, high_number, high_page, low_coming}
use Rattle.zp_area.proofs.Removing.{clear_removed, kept_removed}

-- the block (h, o) of a is split down to order j: b has the high halves; of the pages of the pageblock the low part is not counted
pub record IsSplitting (m : ℕ) (a b : Blocks) (free_in : List ℕ) (h k o j : ℕ) : Type 0 where
  pub down : k ≤ j
  pub kinds : b.kinds ≡ a.kinds
  pub most : 2 ^ j ≤ slice_index free_in (h / pageblock_pages m)
  pub kept : IsKept m b (set free_in (h / pageblock_pages m) (slice_index free_in (h / pageblock_pages m) - 2 ^ j))
  pub block : IsBlock m (length b.rows.states) h j
  pub clear : IsClearRun m b.rows.states b.rows.lists h j
  pub after : halves_added m b h k (j - k) ≡ split_off m a h o k

-- a block of the set stands on its list
pub block_on : (m : ℕ) (a : Blocks) (h o : ℕ) → IsOneSet m a → Starts (block_set a) h o → IsOn a.rows.lists (list_of_block m a h o) h
block_on m a h o x st = (x.listed (list_of_block m a h o) (list_number_below m o _ (x.blocks.block h o st).order)).from h (here_from m (block_set a) a.kinds _ h o refl st)

pub split_begins : (m : ℕ) (a : Blocks) (free_in : List ℕ) (h k o : ℕ) → IsKept m a free_in → Starts (block_set a) h o → k ≤ o →
    IsSplitting m a (removed m a h o) free_in h k o o
split_begins m a free_in h k o x st le =
    let y = kept_removed m a h o x.one st free_in x in
    record {
      down = le;
      kinds = refl;
      most = y.most;
      kept = y.kept;
      block = rw (length-set a.rows.states h Tail, ← blocks_length a.rows.states) (x.one.blocks.block h o st);
      clear = clear_removed m a h o x.one st;
      after = refl;
    }

module _ {m : ℕ} {a b : Blocks} {free_in : List ℕ} {h k o : ℕ} (j : ℕ) (x : IsSplitting m a b free_in h k o (j + 1)) where
  -- the low part may come as a block, and so may its halves
  low : IsComing m b h (j + 1)
  low = record { one = x.kept.one; block = x.block; clear = x.clear }

  -- the high half's type is the block's
  pub half_kind : (t : PageblockType) → t ≡ kind_at m a.kinds h → t ≡ kind_at m b.kinds (h + 2 ^ j)
  half_kind t e = high_kind j low t (rw x.kinds e)

  -- it may come to its list
  pub half_list : (t : PageblockType) → list_number j t < length b.rows.lists
  half_list t = high_list j low t

  pub half_page : h + 2 ^ j < length b.rows.states
  half_page = high_page j low

  pub half_loose : IsLoose b.rows.lists (h + 2 ^ j)
  half_loose = coming_loose (high_coming j low)

  pub split_goes : k ≤ j → h / pageblock_pages m < length free_in → IsSplitting m a (added m b (h + 2 ^ j) j) free_in h k o j
  split_goes le lt =
      let p : ℕ = h / pageblock_pages m in
      let v : ℕ = slice_index free_in (h / pageblock_pages m) in
      let was : List ℕ = set free_in p (v - 2 ^ (j + 1)) in
      let z = kept_added (high_coming j low) was x.kept in
      let had : slice_index was p ≡ v - 2 ^ (j + 1) = get_or-set_same free_in p (v - 2 ^ (j + 1)) 0 lt in
      let free : set free_in p (v - 2 ^ j) ≡ set was ((h + 2 ^ j) / pageblock_pages m) (slice_index was ((h + 2 ^ j) / pageblock_pages m) + 2 ^ j) =
      sym (set-set free_in p (v - 2 ^ (j + 1)) (v - 2 ^ j)) ∙ ap (λ q. set was p q) (omega (arith, had, x.most, two j)) ∙ ap (λ q. set was q (slice_index was q + 2 ^ j)) (sym (high_number j low)) in
      let steps : j + 1 - k ≡ suc (j - k) = omega arith in
      let here : k + (j - k) ≡ j = omega arith in
      record {
        down = le;
        kinds = x.kinds;
        most = omega (arith, x.most, two j);
        kept = rw free z.kept;
        block = (low_coming j low).block;
        clear = (low_coming j low).clear;
        after = ap (λ q. halves_added m (added m b (h + 2 ^ q) q) h k (j - k)) (sym here) ∙ ap (λ q. halves_added m b h k q) (sym steps) ∙ x.after;
      }

-- the set of blocks to which halves are added
pub halves_set : (d m : ℕ) (a : Blocks) (h k : ℕ) → block_set (halves_added m a h k d) ≡ high_halves (block_set a) h k d
halves_set zero m a h k = refl
halves_set (suc d) m a h k = halves_set d m (added m a (h + 2 ^ (k + d)) (k + d)) h k ∙ ap (λ q. high_halves q h k d) (map-set free_order a.rows.states (h + 2 ^ (k + d)) (Free (k + d)))

-- all halves are added: the set is split, and the pages of the low part are counted no more
pub split_ends : (m : ℕ) (a b : Blocks) (free_in : List ℕ) (h k o : ℕ) → IsSplitting m a b free_in h k o k →
    IsKept m b (set free_in (h / pageblock_pages m) (slice_index free_in (h / pageblock_pages m) - 2 ^ k)) × (split_set (block_set a) h o k ≡ block_set b) × (b ≡ split_off m a h o k)
split_ends m a b free_in h k o x =
    let zero_left : 0 ≡ k - k = omega arith in
    let after : b ≡ split_off m a h o k = ap (λ q. halves_added m b h k q) zero_left ∙ x.after in
    let tree : split_set (block_set a) h o k ≡ block_set b =
    ap (λ q. high_halves q h k (o - k)) (sym (map-set free_order a.rows.states h Tail)) ∙ sym (halves_set (o - k) m (removed m a h o) h k) ∙ ap block_set (sym after) in
    (x.kept, tree, after)
