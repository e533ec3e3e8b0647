-- The looks at a run and at the blocks around it decide whether it is clear.
use Rattle.std.proofs.Common.{ℕ, ◌+◌, ◌-◌, ◌/◌, ◌^◌, ◌≡◌, ◌≤◌, ◌<◌, inl, inr, refl, ◌∙◌, ap, arith, [], length, true}
use Rattle.std.proofs.lemmas.Bool.{cases_lt, both_ways, false_from_ne_true, leb-true, ltb-true, and_parts}
use Rattle.std.proofs.lemmas.List.{get_or-drop}
use Rattle.std.proofs.lemmas.Nat.{pow_pos}
use Rattle.zp_model.specs.Block.{has, head, IsBlock}
use Rattle.zp_model.specs.BlockSet.{Starts, cover}
use Rattle.zp_model.specs.PageblockType.{pageblock_types}
use Rattle.zp_model.specs.Rows.{IsLoose, IsOn, stands_in}
use Rattle.zp_model.specs.Area.{lists_count}
use Rattle.zp_model.proofs.Heads.{head_le, lt_head, head_of, head_same, head_room}
use Rattle.zp_area.specs.Blocks.{Blocks, block_set, list_of_block}
use Rattle.zp_area.specs.Given.{IsClearRun}
use Rattle.zp_area.specs.OneSet.{IsOneSet}
use Rattle.zp_area.proofs.Keeping.{blocks_length}
use Rattle.zp_area.proofs.Listing.{here_from}
use Rattle.zp_area.proofs.OneBlock.{IsAround, covered_around, around_covered}
use Rattle.zp_buddy.specs.Held.{IsHeld}
use Rattle.zp_buddy.proofs.Settled.{starts_block}
use Rattle.zp_model.proofs.TypeNumbers.{list_number_below}

-- what a buddy allocator keeps is of one set of blocks
pub one_held : (m : ℕ) (a : Blocks) (free : ℕ) → IsHeld m a free → IsOneSet m a
one_held m a free x = record {
  pages = x.sound.pages;
  table = x.sound.table;
  typed = x.typed;
  blocks = record {
    block = λ h k st. rw (blocks_length a.rows.states) (starts_block m a h k x.sound st);
    apart = λ h k g j i sh sg ih ig.
        let p = and_parts _ _ ih in
        let q = and_parts _ _ ig in
        (x.sound.normal.apart h k g j i sh sg (leb-true h i p.0) (ltb-true i (h + 2 ^ k) p.1) (leb-true g i q.0) (ltb-true i (g + 2 ^ j) q.1)).0;
  };
  listed = x.sound.listed;
  aside = λ r p ge on. false_from_ne_true _ (x.sound.aside r p ge on);
}

module _ (m : ℕ) (a : Blocks) (x : IsOneSet m a) where
  -- a larger block has all of the run
  pub larger_free : (at k : ℕ) → Starts (block_set a) (head at k) k → has (cover (block_set a)) at ≡ true
  larger_free at k st = around_covered m (block_set a) at (head at k) k x.blocks (record { starts = st; from = head_le at k; to = lt_head at k })

  -- a page on a list is not clear
  pub listed_not_clear : (r i h k : ℕ) → IsOn a.rows.lists r i → h ≤ i → i < h + 2 ^ k → IsClearRun m a.rows.states a.rows.lists h k → ⊥
  listed_not_clear r i h k on lo hi clear =
      elim (cases_lt r (lists_count m)) [
        | inl lt ↦
            both_ways _ (clear i lo hi).0
            (around_covered m (block_set a) i i (r / pageblock_types) x.blocks (record { starts = ((x.listed r lt).to i on).0; from = omega arith; to = omega (arith, pow_pos (r / pageblock_types)) }))
        | inr ge ↦
            let e : lists_count m + (r - lists_count m) ≡ r = omega arith in
            both_ways _ ((clear i lo hi).1 (r - lists_count m)) (rw (get_or-drop (lists_count m) a.rows.lists (r - lists_count m) [], e) on)
      ]

  -- a run of which no page is on a list, and that no larger block has, is clear
  pub clear_decided : (at k : ℕ) → IsBlock m (length a.rows.states) at k → ((i : ℕ) → at ≤ i → i < at + 2 ^ k → IsLoose a.rows.lists i) →
      ((j : ℕ) → k < j → j ≤ m → Starts (block_set a) (head at j) j → ⊥) → IsClearRun m a.rows.states a.rows.lists at k
  clear_decided at k block loose larger i lo hi = (
    false_from_ne_true _ (λ e.
        let w = covered_around (block_set a) i e in
        let z : IsAround (block_set a) i w.0 w.1 = w.2 in
        let b = x.blocks.block w.0 w.1 z.starts in
        elim (cases_lt k w.1) [
          | inl big ↦
              let same : head at w.1 ≡ w.0 = rw (← head_same at i k w.1 (omega arith) block.aligned lo hi) (head_of w.0 i w.1 b.aligned z.from z.to) in
              larger w.1 big b.order (rw same z.starts)
          | inr small ↦
              let pos : 0 < 2 ^ w.1 = pow_pos w.1 in
              let in_run : (at ≤ w.0) × (w.0 < at + 2 ^ k) = omega (
                arith,
                head_of at i k block.aligned lo hi,
                head_room w.0 w.1 k small b.aligned,
                head_same w.0 i w.1 k small b.aligned z.from z.to,
                head_le w.0 k,
              ) in
              let q = list_of_block m a w.0 w.1 in
              let on : IsOn a.rows.lists q w.0 = (x.listed q (list_number_below m w.1 _ b.order)).from w.0 (here_from m (block_set a) a.kinds q w.0 w.1 refl z.starts) in
              both_ways _ (loose w.0 in_run.0 in_run.1 q) on
        ]),
    λ r. ap (stands_in i) (get_or-drop (lists_count m) a.rows.lists r []) ∙ loose i lo hi (lists_count m + r),
  )
