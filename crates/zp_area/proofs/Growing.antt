-- A block that comes back and grows: what is kept beside the lists, buddy by buddy, and what the set is then.
use Rattle.std.proofs.Common.{ℕ, zero, suc, ◌+◌, ◌-◌, ◌/◌, ◌^◌, ◌≡◌, ◌≤◌, ◌<◌, ◌⊎◌, inl, inr, refl, sym, ◌∙◌, ap, subst, arith, List, length, set, get_or, get_or-set_same, length-set, Option, None}
use Rattle.std.specs.List.{slice_index}
use Rattle.std.proofs.lemmas.Nat.{pow_pos}
use Rattle.std.proofs.lemmas.Bool.{cases_lt}
use Rattle.std.proofs.lemmas.List.{map-set, set-get_or, set-set, set_past}
use Rattle.zp_model.specs.declared.pageblock_type.PageblockType.{PageblockType}
use Rattle.zp_model.specs.declared.state.State.TheVariants.{Tail}
use Rattle.zp_model.specs.Block.{head, IsBlock, IsBuddy}
use Rattle.zp_model.specs.BlockSet.{Starts}
use Rattle.zp_model.specs.Area.{pageblock_pages, kind_at}
use Rattle.zp_model.proofs.Heads.{two, head_le, lt_head, head_of, head_self, number_around}
use Rattle.zp_model.proofs.Pages.{run_cases}
use Rattle.zp_tree.specs.Blocks.{with_block, buddy, without_buddies, joined_set, HasBuddies}
use Rattle.zp_tree.proofs.Apart.{clear-starts}
use Rattle.zp_area.specs.Given.{IsClearRun}
use Rattle.zp_area.specs.NotedBlocks.{free_order}
use Rattle.zp_area.specs.Blocks.{Blocks, block_set, added, removed}
use Rattle.zp_area.specs.Chains.{IsJoinable, IsJoinedUp}
use Rattle.zp_area.specs.OneSet.{IsKept}
use Rattle.zp_area.proofs.NotedBlocks.{starts-from}
use Rattle.zp_area.proofs.Keeping.{blocks_length}
use Rattle.zp_area.proofs.Adding.{IsComing, added_set, kept_added}
use Rattle.zp_area.proofs.Removing.{clear_removed, clear_still, kept_removed}

-- the block (h, k), which comes back to a, has grown to (g, j): b is a without the buddies; of the pages of the pageblock those are
-- counted that are in blocks of b
pub record IsGrowing (m : ℕ) (a b : Blocks) (free_in : List ℕ) (h k g j : ℕ) : Type 0 where
  pub up : k ≤ j
  pub kinds : b.kinds ≡ a.kinds
  pub pages : length b.rows.states ≡ length a.rows.states
  pub number : g / pageblock_pages m ≡ h / pageblock_pages m
  pub most : 2 ^ j ≤ slice_index free_in (h / pageblock_pages m) + 2 ^ k
  pub kept : IsKept m b (set free_in (h / pageblock_pages m) (slice_index free_in (h / pageblock_pages m) + 2 ^ k - 2 ^ j))
  pub around : g ≡ head h j
  pub buddies : HasBuddies (block_set a) h k j
  pub same : block_set b ≡ without_buddies (block_set a) h k (j - k)
  pub block : IsBlock m (length b.rows.states) g j
  pub clear : IsClearRun m b.rows.states b.rows.lists g j
  pub after : (n : Blocks) (i : ℕ) → IsJoinedUp i m b g j n → (e : ℕ) × IsJoinedUp e m a h k n

pub grow_begins : (m : ℕ) (a : Blocks) (free_in : List ℕ) (h k : ℕ) → IsKept m a free_in → IsBlock m (length a.rows.states) h k → IsClearRun m a.rows.states a.rows.lists h k →
    IsGrowing m a a free_in h k h k
grow_begins m a free_in h k x b clear =
    let p : ℕ = h / pageblock_pages m in
    let same : slice_index free_in p + 2 ^ k - 2 ^ k ≡ slice_index free_in p = omega arith in
    let none_yet : 0 ≡ k - k = omega arith in
    record {
      up = omega arith;
      kinds = refl;
      pages = refl;
      number = refl;
      most = omega arith;
      kept = rw (same, set-get_or free_in p 0) x;
      around = sym (head_self h k b.aligned);
      buddies = λ j from to. absurd (omega arith);
      same = ap (λ d. without_buddies (block_set a) h k d) none_yet;
      block = b;
      clear = clear;
      after = λ n i w. (i, w);
    }

-- there is one buddy
pub buddy_unique : (b j c d e f : ℕ) → IsBuddy b j c d → IsBuddy b j e f → c ≡ e
buddy_unique b j c d e f x y =
    let pos : 0 < 2 ^ j = pow_pos j in
    let dx : head b (j + 1) ≡ d = head_of d b (j + 1) x.double (omega (arith, two j)) (omega (arith, two j)) in
    let dy : head b (j + 1) ≡ f = head_of f b (j + 1) y.double (omega (arith, two j)) (omega (arith, two j)) in
    omega arith

-- a block of the set without some buddies was there before
starts_before : (d : ℕ) (s : List (Option ℕ)) (h k p i : ℕ) → Starts (without_buddies s h k d) p i → Starts s p i
starts_before zero s h k p i st = st
starts_before (suc d) s h k p i st =
    let left : List (Option ℕ) = without_buddies s h k d in
    let q : ℕ = buddy h (k + d) in
    starts_before d s h k p i (elim (cases_lt q (length left)) [
      | inl lt ↦ (clear-starts left q p i lt st).1
      | inr past ↦ sym (ap (λ s. get_or s p None) (set_past left q None past)) ∙ st
    ])

module _ {m : ℕ} {a b : Blocks} {free_in : List ℕ} {h k g j : ℕ} (x : IsGrowing m a b free_in h k g j) where
  pub grown_coming : IsComing m b g j
  grown_coming = record { one = x.kept.one; block = x.block; clear = x.clear }

  -- what has grown is a block of the set's pages
  pub grown_block : IsBlock m (length (block_set a)) (head h j) j
  grown_block = rw (blocks_length a.rows.states, ← x.pages, ← x.around) x.block

  -- the type of the pageblock is that of the grown block's
  pub grown_kind : (t : PageblockType) → t ≡ kind_at m a.kinds h → t ≡ kind_at m b.kinds g
  grown_kind t e = rw (x.number, x.kinds) e

  -- a free buddy leaves, and the block doubles
  module _ {c d : ℕ} (y : IsJoinable m b g j c d) where
    pub buddy_starts : Starts (block_set b) c j
    buddy_starts = starts-from b.rows.states c j y.free

    pub buddy_block : IsBlock m (length b.rows.states) c j
    buddy_block = rw (← blocks_length b.rows.states) (x.kept.one.blocks.block c j buddy_starts)

    pub double_block : IsBlock m (length b.rows.states) d (j + 1)
    double_block = record { order = omega (arith, y.order); aligned = y.buddy.double; inside = let q = y.buddy.halves in omega (arith, two j, x.block.inside, buddy_block.inside) }

    double_number : d / pageblock_pages m ≡ h / pageblock_pages m
    double_number =
        let q = y.buddy.halves in
        sym (number_around d g (j + 1) m (omega (arith, y.order)) y.buddy.double (omega (arith, two j)) (omega (arith, two j, pow_pos j))) ∙ x.number

    buddy_number : c / pageblock_pages m ≡ h / pageblock_pages m
    buddy_number =
        let q = y.buddy.halves in
        number_around d c (j + 1) m (omega (arith, y.order)) y.buddy.double (omega (arith, two j)) (omega (arith, two j, pow_pos j)) ∙ double_number

    pub buddy_kind : (t : PageblockType) → t ≡ kind_at m a.kinds h → t ≡ kind_at m b.kinds c
    buddy_kind t e = rw (buddy_number, x.kinds) e

    -- the block lies in its double
    inside_double : (d ≤ h) × (h < d + 2 ^ (j + 1))
    inside_double =
        let q = y.buddy.halves in
        let lo : g ≤ h = rw x.around (head_le h j) in
        let hi : h < g + 2 ^ j = rw x.around (lt_head h j) in
        (omega (arith, two j), omega (arith, two j))

    double_around : d ≡ head h (j + 1)
    double_around = sym (head_of d h (j + 1) y.buddy.double inside_double.0 inside_double.1)

    buddy_around : c ≡ buddy h j
    buddy_around = let q = y.buddy.halves in let e = x.around in omega (arith, double_around, pow_pos j)

    more_buddies : HasBuddies (block_set a) h k (j + 1)
    more_buddies i from to = elim (cases_lt i j) [
      | inl lt ↦ x.buddies i from lt
      | inr ge ↦
          let e : j ≡ i = omega arith in
          let here : Starts (block_set b) (buddy h j) j = rw buddy_around at buddy_starts in
          let before : Starts (block_set a) (buddy h j) j = starts_before (j - k) (block_set a) h k (buddy h j) j (rw x.same at here) in
          let P : ℕ → Type 0 = λ n. Starts (block_set a) (buddy h n) n in
          subst P e before
    ]

    one_less : block_set (removed m b c j) ≡ without_buddies (block_set a) h k (j + 1 - k)
    one_less =
        let at : k + (j - k) ≡ j = let u = x.up in omega arith in
        let steps : suc (j - k) ≡ j + 1 - k = let u = x.up in omega arith in
        map-set free_order b.rows.states c Tail
        ∙ ap (λ s. set s c None) x.same
        ∙ ap (λ q. set (without_buddies (block_set a) h k (j - k)) q None) (buddy_around ∙ ap (λ n. buddy h n) (sym at))
        ∙ ap (λ n. without_buddies (block_set a) h k n) steps

    double_clear : IsClearRun m (removed m b c j).rows.states (removed m b c j).rows.lists d (j + 1)
    double_clear i lo hi = elim (halves_cases i lo hi) [
      | inl w ↦ clear_still m b c j x.kept.one buddy_starts g j x.clear i w.0 w.1
      | inr w ↦ clear_removed m b c j x.kept.one buddy_starts i w.0 w.1
    ]
      where
        halves_cases : (i : ℕ) → d ≤ i → i < d + 2 ^ (j + 1) → ((g ≤ i) × (i < g + 2 ^ j)) ⊎ ((c ≤ i) × (i < c + 2 ^ j))
        halves_cases i lo hi = let q = y.buddy.halves in elim (run_cases g j i) [ inl w ↦ inl w | inr out ↦ inr (omega (arith, two j), omega (arith, two j)) ]

    pub grow_goes : h / pageblock_pages m < length free_in → IsGrowing m a (removed m b c j) free_in h k d (j + 1)
    grow_goes lt =
        let p : ℕ = h / pageblock_pages m in
        let v : ℕ = slice_index free_in (h / pageblock_pages m) in
        let was : List ℕ = set free_in p (v + 2 ^ k - 2 ^ j) in
        let z = kept_removed m b c j x.kept.one buddy_starts was x.kept in
        let had : slice_index was p ≡ v + 2 ^ k - 2 ^ j = get_or-set_same free_in p (v + 2 ^ k - 2 ^ j) 0 lt in
        let most : 2 ^ j ≤ slice_index was p = rw buddy_number at z.most in
        let free : set free_in p (v + 2 ^ k - 2 ^ (j + 1)) ≡ set was (c / pageblock_pages m) (slice_index was (c / pageblock_pages m) - 2 ^ j) =
        sym (set-set free_in p (v + 2 ^ k - 2 ^ j) (v + 2 ^ k - 2 ^ (j + 1))) ∙ ap (λ q. set was p q) (omega (arith, had, x.most, two j)) ∙ ap (λ q. set was q (slice_index was q - 2 ^ j)) (sym buddy_number) in
        record {
          up = let u = x.up in omega arith;
          kinds = x.kinds;
          pages = length-set b.rows.states c Tail ∙ x.pages;
          number = double_number;
          most = omega (arith, had, most, x.most, two j);
          kept = rw free z.kept;
          around = double_around;
          buddies = more_buddies;
          same = one_less;
          block = rw (length-set b.rows.states c Tail) double_block;
          clear = double_clear;
          after = λ n i r. x.after n (suc i) (c, d, y, r);
        }

  -- the grown block has no free buddy, and is added
  pub grow_ends : ((c d : ℕ) → IsJoinable m b g j c d → ⊥) → h / pageblock_pages m < length free_in →
      IsKept m (added m b g j) (set free_in (h / pageblock_pages m) (slice_index free_in (h / pageblock_pages m) + 2 ^ k)) ×
      (joined_set (block_set a) h k j ≡ block_set (added m b g j)) ×
      ((e : ℕ) × IsJoinedUp e m a h k (added m b g j))
  grow_ends stop lt =
      let p : ℕ = h / pageblock_pages m in
      let v : ℕ = slice_index free_in (h / pageblock_pages m) in
      let was : List ℕ = set free_in p (v + 2 ^ k - 2 ^ j) in
      let z = kept_added grown_coming was x.kept in
      let had : slice_index was p ≡ v + 2 ^ k - 2 ^ j = get_or-set_same free_in p (v + 2 ^ k - 2 ^ j) 0 lt in
      let free : set free_in p (v + 2 ^ k) ≡ set was (g / pageblock_pages m) (slice_index was (g / pageblock_pages m) + 2 ^ j) =
      sym (set-set free_in p (v + 2 ^ k - 2 ^ j) (v + 2 ^ k)) ∙ ap (λ q. set was p q) (omega (arith, had, x.most)) ∙ ap (λ q. set was q (slice_index was q + 2 ^ j)) (sym x.number) in
      let tree : joined_set (block_set a) h k j ≡ with_block (block_set b) g j =
      ap (λ s. with_block s (head h j) j) (sym x.same) ∙ ap (λ q. with_block (block_set b) q j) (sym x.around) in
      (rw free z.kept, tree ∙ sym (added_set grown_coming), x.after (added m b g j) 0 (refl, stop))
