-- Taking a block out of the set.
use Rattle.std.proofs.Common.{ℕ, ◌+◌, ◌-◌, ◌/◌, ◌^◌, ◌≡◌, ◌≤◌, ◌<◌, ◌&&◌, not, inl, inr, refl, ◌∙◌, ap, arith, List, [], length, set, get_or-set_same, get_or-set_other, length-set}
use Rattle.std.specs.List.{slice_index}
use Rattle.std.proofs.Math.Bool.{and-false}
use Rattle.std.proofs.lemmas.Bool.{cases_eq, both_ways, false_from_ne_true}
use Rattle.std.proofs.lemmas.List.{get_or-drop, map-set}
use Rattle.zp_model.specs.declared.state.State.TheVariants.{Tail}
use Rattle.zp_model.specs.Block.{has, in_run}
use Rattle.zp_model.specs.BlockSet.{Starts, cover}
use Rattle.zp_model.specs.Rows.{list_at, stands_in, without_page}
use Rattle.zp_model.specs.Area.{pageblock_pages, lists_count}
use Rattle.zp_tree.specs.Blocks.{without_block}
use Rattle.zp_laws.proofs.Counting.{in_run-yes, has-without_any}
use Rattle.zp_area.specs.Blocks.{Blocks, block_set, list_of_block, removed}
use Rattle.zp_area.specs.Given.{IsClearRun}
use Rattle.zp_area.specs.NotedBlocks.{free_order}
use Rattle.zp_area.specs.OneSet.{IsOneSet, IsKept}
use Rattle.zp_area.proofs.Keeping.{aside_same}
use Rattle.zp_area.proofs.Listing.{listed_without, listed_without_other}
use Rattle.zp_area.proofs.OneBlock.{around_covered, cover-without, head_below, one_at, without-set}
use Rattle.zp_area.proofs.PageblockPages.{counted_less}
use Rattle.zp_model.proofs.TypeNumbers.{list_number_below}
use Rattle.zp_model.specs.Lawful.{IsListed}

-- the number of free pages holds those of the block
pub record IsLessKept (m : ℕ) (a : Blocks) (free_in : List ℕ) (h k : ℕ) : Type 0 where
  pub most : 2 ^ k ≤ slice_index free_in (h / pageblock_pages m)
  pub kept : IsKept m (removed m a h k) (set free_in (h / pageblock_pages m) (slice_index free_in (h / pageblock_pages m) - 2 ^ k))

module _ (m : ℕ) (a : Blocks) (h k : ℕ) (x : IsOneSet m a) (st : Starts (block_set a) h k) where
  -- the set without the block, and its pages
  pub removed_set : block_set (removed m a h k) ≡ without_block (block_set a) h
  removed_set = map-set free_order a.rows.states h Tail

  removed_has : (i : ℕ) → has (cover (block_set (removed m a h k))) i ≡ (has (cover (block_set a)) i && not (in_run h k i))
  removed_has i = ap (λ s. has (cover s) i) removed_set ∙ ap (λ u. has u i) (cover-without m (block_set a) h k x.blocks st) ∙ has-without_any (cover (block_set a)) h k i

  top : list_of_block m a h k < lists_count m
  top = list_number_below m k _ (x.blocks.block h k st).order

  removed_list : (r : ℕ) → r < lists_count m → IsListed m (without_block (block_set a) h) a.kinds r (list_at (removed m a h k).rows.lists r)
  removed_list r below =
      let q : ℕ = list_of_block m a h k in
      let hs : List ℕ = without_page h (list_at a.rows.lists q) in
      let lt : h < length (block_set a) = head_below m _ h k (x.blocks.block h k st) in
      elim (cases_eq r q) [
        | inl same ↦
            let e : list_at (removed m a h k).rows.lists r ≡ without_page h (list_at a.rows.lists r) = rw same (get_or-set_same a.rows.lists q hs [] (omega (arith, top, x.table))) in
            rw e (listed_without h k lt (x.listed r below))
        | inr ne ↦ rw (get_or-set_other a.rows.lists q r hs [] ne) (listed_without_other h k lt (x.listed r below) (λ j. one_at (block_set a) h k j st) ne)
      ]

  pub one_removed : IsOneSet m (removed m a h k)
  one_removed =
      let q : ℕ = list_of_block m a h k in
      let hs : List ℕ = without_page h (list_at a.rows.lists q) in
      record {
        pages = rw (length-set a.rows.states h Tail) x.pages;
        table = rw (length-set a.rows.lists q hs) x.table;
        typed = rw (length-set a.rows.states h Tail) x.typed;
        blocks = rw removed_set (without-set m (block_set a) h k x.blocks st);
        listed = λ r lt. rw removed_set (removed_list r lt);
        aside = λ r p ge on. removed_has p ∙ rw (x.aside r p ge (rw (get_or-set_other a.rows.lists q r hs [] (omega (arith, top))) at on)) refl;
      }

  pub kept_removed : (free_in : List ℕ) → IsKept m a free_in → IsLessKept m a free_in h k
  kept_removed free_in y =
      let less = counted_less m a.rows.states (removed m a h k).rows.states free_in h k y.each x.blocks (length-set a.rows.states h Tail) st removed_set in
      record {
        most = less.most;
        kept = record {
          one = one_removed;
          few = rw (length-set a.rows.lists (list_of_block m a h k) (without_page h (list_at a.rows.lists (list_of_block m a h k)))) y.few;
          each = less.each;
        };
      }

  -- the run of the block is clear then, and what was clear before
  pub clear_removed : IsClearRun m (removed m a h k).rows.states (removed m a h k).rows.lists h k
  clear_removed i lo hi = (
    removed_has i ∙ rw (in_run-yes h k i lo hi) (and-false _),
    λ r. ap (stands_in i) (aside_same m a.rows.lists (list_of_block m a h k) r _ top) ∙ false_from_ne_true _ (λ on.
        both_ways _ (x.aside (lists_count m + r) i (omega arith) (rw (get_or-drop (lists_count m) a.rows.lists r []) at on))
        (around_covered m (block_set a) i h k x.blocks (record { starts = st; from = lo; to = hi }))),
  )

  pub clear_still : (g j : ℕ) → IsClearRun m a.rows.states a.rows.lists g j → IsClearRun m (removed m a h k).rows.states (removed m a h k).rows.lists g j
  clear_still g j clear i lo hi =
      let old = clear i lo hi in
      (removed_has i ∙ rw old.0 refl, λ r. ap (stands_in i) (aside_same m a.rows.lists (list_of_block m a h k) r _ top) ∙ old.1 r)
