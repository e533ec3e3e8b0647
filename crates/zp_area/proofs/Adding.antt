-- Taking a block into the set.
use Rattle.std.proofs.Common.{ℕ, ◌+◌, ◌-◌, ◌/◌, ◌^◌, ◌≡◌, ◌≤◌, ◌<◌, ◌||◌, inl, inr, sym, ◌∙◌, ap, subst, arith, List, [], ◌∷◌, length, set, get_or-set_same, get_or-set_other, length-set}
use Rattle.std.specs.List.{slice_index}
use Rattle.std.proofs.lemmas.Nat.{pow_pos}
use Rattle.std.proofs.lemmas.Bool.{cases_eq, cases_lt, false≢true, both_ways, false_from_ne_true}
use Rattle.std.proofs.lemmas.List.{map-set, get_or-drop}
use Rattle.zp_model.specs.declared.state.State.TheVariants.{Free}
use Rattle.zp_model.specs.PageblockType.{pageblock_types}
use Rattle.zp_model.specs.Block.{IsBlock, has, in_run}
use Rattle.zp_model.specs.BlockSet.{Starts, cover}
use Rattle.zp_model.specs.Rows.{Rows, list_at, stands_in, with_list, with_state, IsLoose, IsOn}
use Rattle.zp_model.specs.Area.{pageblock_pages, lists_count}
use Rattle.zp_model.proofs.Covers.{has-cover, length-cover}
use Rattle.zp_tree.specs.Blocks.{IsApart, IsBeside, with_block}
use Rattle.zp_laws.proofs.Counting.{in_run-no, has-with_any}
use Rattle.zp_area.specs.Blocks.{Blocks, block_set, list_of_block, added}
use Rattle.zp_area.specs.Given.{IsClearRun}
use Rattle.zp_area.specs.NotedBlocks.{free_order}
use Rattle.zp_area.specs.OneSet.{IsOneSet, IsKept}
use Rattle.zp_area.proofs.Keeping.{aside_same, blocks_length}
use Rattle.zp_area.proofs.Listing.{listed_with, listed_with_other}
use Rattle.zp_area.proofs.OneBlock.{IsNew, cover-with, head_below, new_none, with-here, with-set}
use Rattle.zp_area.proofs.PageblockPages.{counted_more}
use Rattle.zp_model.proofs.TypeNumbers.{list_number_below}
use Rattle.zp_model.proofs.Pages.{in_run-to}
use Rattle.zp_model.specs.Lawful.{IsListed}

-- (h, k) may come: it is a block of the zone of which no page is in a block or on a further list
pub record IsComing (m : ℕ) (a : Blocks) (h k : ℕ) : Type 0 where
  pub one : IsOneSet m a
  pub block : IsBlock m (length a.rows.states) h k
  pub clear : IsClearRun m a.rows.states a.rows.lists h k

-- the same of an area that is the other in the words of the code
pub coming_by : (a b : Blocks) (h k : ℕ) → a ≡ b → IsOneSet a.largest a → IsBlock b.largest (length b.rows.states) h k →
    IsClearRun b.largest b.rows.states b.rows.lists h k → IsComing a.largest a h k
coming_by a b h k e one block clear = record {
  one = one;
  block = subst (λ q. IsBlock q.largest (length q.rows.states) h k) (sym e) block;
  clear = subst (λ q. IsClearRun q.largest q.rows.states q.rows.lists h k) (sym e) clear;
}

-- the numbers with the block still fit
pub record IsMoreKept (m : ℕ) (a : Blocks) (free_in : List ℕ) (h k : ℕ) : Type 0 where
  pub fits : slice_index free_in (h / pageblock_pages m) + 2 ^ k ≤ pageblock_pages m
  pub kept : IsKept m (added m a h k) (set free_in (h / pageblock_pages m) (slice_index free_in (h / pageblock_pages m) + 2 ^ k))

-- the rows after it, in the words of the code
pub now_added : (m : ℕ) (a : Blocks) (h k r : ℕ) (w : Rows) → w ≡ with_list (with_state a.rows h (Free k)) r (h ∷ list_at a.rows.lists r) → r ≡ list_of_block m a h k → w ≡ (added m a h k).rows
now_added m a h k r w ew er = rw (ew, er)

module _ {m : ℕ} {a : Blocks} {h k : ℕ} (x : IsComing m a h k) where
  pub coming_new : IsNew m (block_set a) h k
  coming_new = record { block = rw (blocks_length a.rows.states) x.block; clear = λ i lo hi on. false≢true (sym (x.clear i lo hi).0 ∙ on) }

  -- a further list has none of its pages
  coming_off : (r i : ℕ) → lists_count m ≤ r → h ≤ i → i < h + 2 ^ k → IsOn a.rows.lists r i → ⊥
  coming_off r i ge lo hi on =
      let back : lists_count m + (r - lists_count m) ≡ r = omega arith in
      both_ways _ ((x.clear i lo hi).1 (r - lists_count m)) (rw (get_or-drop (lists_count m) a.rows.lists (r - lists_count m) [], back) on)

  pub coming_loose : IsLoose a.rows.lists h
  coming_loose r =
      false_from_ne_true _ (λ on. elim (cases_lt r (lists_count m)) [
        | inl below ↦ new_none m (block_set a) h k x.one.blocks coming_new (r / pageblock_types) ((x.one.listed r below).to h on).0
        | inr ge ↦ coming_off r h ge (omega arith) (omega (arith, pow_pos k)) on
      ])

  pub coming_apart : IsApart (block_set a) h k
  coming_apart i lo hi = sym (has-cover (block_set a) i (omega (arith, x.block.inside, blocks_length a.rows.states))) ∙ (x.clear i lo hi).0

  -- the set with the block, and its pages
  pub added_set : block_set (added m a h k) ≡ with_block (block_set a) h k
  added_set = map-set free_order a.rows.states h (Free k)

  added_has : (i : ℕ) → has (cover (block_set (added m a h k))) i ≡ (has (cover (block_set a)) i || in_run h k i)
  added_has i =
      ap (λ s. has (cover s) i) added_set
      ∙ ap (λ u. has u i) (cover-with m (block_set a) h k x.one.blocks coming_new)
      ∙ has-with_any (cover (block_set a)) h k i (omega (arith, x.block.inside, blocks_length a.rows.states, length-cover (block_set a)))

  top : list_of_block m a h k < lists_count m
  top = list_number_below m k _ x.block.order

  added_list : (r : ℕ) → r < lists_count m → IsListed m (with_block (block_set a) h k) a.kinds r (list_at (added m a h k).rows.lists r)
  added_list r below =
      let q : ℕ = list_of_block m a h k in
      let lt : h < length (block_set a) = head_below m _ h k coming_new.block in
      let none = new_none m (block_set a) h k x.one.blocks coming_new in
      elim (cases_eq r q) [
        | inl same ↦
            let e : list_at (added m a h k).rows.lists r ≡ h ∷ list_at a.rows.lists r = rw same (get_or-set_same a.rows.lists q _ [] (omega (arith, top, x.one.table))) in
            rw e (listed_with h k lt (x.one.listed r below) none same)
        | inr ne ↦ rw (get_or-set_other a.rows.lists q r (h ∷ list_at a.rows.lists q) [] ne) (listed_with_other h k lt (x.one.listed r below) none ne)
      ]

  pub one_added : IsOneSet m (added m a h k)
  one_added = record {
    pages = rw (length-set a.rows.states h (Free k)) x.one.pages;
    table = rw (length-set a.rows.lists (list_of_block m a h k) (h ∷ list_at a.rows.lists (list_of_block m a h k))) x.one.table;
    typed = rw (length-set a.rows.states h (Free k)) x.one.typed;
    blocks = rw added_set (with-set m (block_set a) h k x.one.blocks coming_new);
    listed = λ r lt. rw added_set (added_list r lt);
    aside = λ r p ge on.
        let was : IsOn a.rows.lists r p = rw (get_or-set_other a.rows.lists (list_of_block m a h k) r (h ∷ list_at a.rows.lists (list_of_block m a h k)) [] (omega (arith, top))) at on in
        added_has p ∙ rw (x.one.aside r p ge was) (false_from_ne_true _ (λ run. let w = in_run-to h k p run in coming_off r p ge w.0 w.1 was));
  }

  pub kept_added : (free_in : List ℕ) → IsKept m a free_in → IsMoreKept m a free_in h k
  kept_added free_in y =
      let more = counted_more m a.rows.states (added m a h k).rows.states free_in h k y.each x.one.blocks (length-set a.rows.states h (Free k)) coming_new added_set in
      record {
        fits = more.fits;
        kept = record {
          one = one_added;
          few = rw (length-set a.rows.lists (list_of_block m a h k) (h ∷ list_at a.rows.lists (list_of_block m a h k))) y.few;
          each = more.each;
        };
      }

  -- the block is one of the set, and a run beside it is as clear as it was
  pub added_starts : Starts (block_set (added m a h k)) h k
  added_starts = rw added_set (with-here (block_set a) h k (head_below m _ h k coming_new.block))

  pub clear_beside : (g j : ℕ) → IsClearRun m a.rows.states a.rows.lists g j → IsBeside g j h k → IsClearRun m (added m a h k).rows.states (added m a h k).rows.lists g j
  clear_beside g j clear beside i lo hi =
      let old = clear i lo hi in (
        added_has i ∙ rw old.0 (in_run-no h k i (elim beside [ inl b ↦ inl (omega arith) | inr f ↦ inr (omega arith) ])),
        λ r. ap (stands_in i) (aside_same m a.rows.lists (list_of_block m a h k) r _ top) ∙ old.1 r,
      )
