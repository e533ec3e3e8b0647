-- How many pages of each pageblock are in blocks, with one block more and with one block less.
use Rattle.std.proofs.Common.{ℕ, ◌+◌, ◌-◌, ◌*◌, ◌/◌, ◌%◌, ◌^◌, ◌≡◌, ◌≢◌, ◌≤◌, ◌<◌, inl, inr, sym, ◌∙◌, ap, arith, Bool, min, max, List, length, set, get_or-set_same, get_or-set_other, length-set}
use Rattle.std.specs.List.{range_with_len, count_by, slice_index}
use Rattle.std.proofs.lemmas.Nat.{pow_pos}
use Rattle.std.proofs.lemmas.Bool.{cases_eq, cases_lt}
use Rattle.std.proofs.lemmas.List.Sums.{count_by-le-length}
use Rattle.std.proofs.lemmas.List.FromFn.{length-range_with_len}
use Rattle.zp_model.specs.declared.state.State.{State}
use Rattle.zp_model.specs.Block.{IsBlock, has, in_run, with_run, without}
use Rattle.zp_model.specs.BlockSet.{Starts, cover}
use Rattle.zp_model.specs.Area.{pageblock_pages, size_in}
use Rattle.zp_model.proofs.Heads.{head_le, head_room, number_lt, runs_apart}
use Rattle.zp_model.proofs.Normal.{Filled}
use Rattle.zp_model.proofs.Pages.{In}
use Rattle.zp_model.proofs.Covers.{length-cover}
use Rattle.zp_laws.proofs.Counting.{counts-add, count-run, in_run-yes, in_run-no, one-without, without-with_run}
use Rattle.zp_tree.specs.Blocks.{IsBlockSet, with_block, without_block}
use Rattle.zp_area.specs.NotedBlocks.{blocks_of}
use Rattle.zp_area.specs.Counted.{IsCounted}
use Rattle.zp_area.proofs.Keeping.{blocks_length}
use Rattle.zp_area.proofs.OneBlock.{IsNew, head_below, around_covered, cover-with, cover-without}

-- a pageblock loses as many pages as it shares with a run that leaves
size_in-without : (m : ℕ) (u : List Bool) (h k b : ℕ) → Filled (In u) h k →
    size_in m u b ≡ size_in m (without u h k) b + (min (b * pageblock_pages m + pageblock_pages m) (h + 2 ^ k) - max (b * pageblock_pages m) h)
unfolding size_in
size_in-without m u h k b f =
    counts-add (has u) (has (without u h k)) (in_run h k) (b * pageblock_pages m) (pageblock_pages m) (λ i lo hi. one-without u h k i f)
    ∙ ap (λ n. count_by (has (without u h k)) (range_with_len (b * pageblock_pages m) (pageblock_pages m)) + n)
    (count-run (in_run h k) h (2 ^ k) (b * pageblock_pages m) (pageblock_pages m) (in_run-yes h k) (in_run-no h k))

-- so the pageblock of a block that leaves loses its pages, and no other loses any
size_in_less : (m : ℕ) (u : List Bool) (h k : ℕ) → Filled (In u) h k → h % 2 ^ k ≡ 0 → k ≤ m →
    (size_in m u (h / pageblock_pages m) ≡ size_in m (without u h k) (h / pageblock_pages m) + 2 ^ k) × ((b : ℕ) → b ≢ h / pageblock_pages m → size_in m (without u h k) b ≡ size_in m u b)
size_in_less m u h k f al le =
    let room : h + 2 ^ k ≤ h / pageblock_pages m * pageblock_pages m + pageblock_pages m = head_room h k m le al in
    let p : 0 < 2 ^ k = pow_pos k in (
      omega (arith, size_in-without m u h k (h / pageblock_pages m) f, head_le h m),
      λ b ne. elim (cases_lt b (h / pageblock_pages m)) [
        | inl before ↦ omega (arith, size_in-without m u h k b f, head_le h m, runs_apart b (h / pageblock_pages m) m before)
        | inr ge ↦ omega (arith, size_in-without m u h k b f, runs_apart (h / pageblock_pages m) b m (omega arith))
      ],
    )

-- one of the numbers changes
counted_set : (m : ℕ) (s z : List State) (free_in : List ℕ) (b n : ℕ) → IsCounted m s free_in → length z ≡ length s → b < length free_in →
    size_in m (cover (blocks_of z)) b ≡ n → ((c : ℕ) → c ≢ b → size_in m (cover (blocks_of z)) c ≡ size_in m (cover (blocks_of s)) c) → IsCounted m z (set free_in b n)
counted_set m s z free_in b n x len lt here there = record {
  blocks = length-set free_in b n ∙ rw len x.blocks;
  each = λ c. elim (cases_eq c b) [
    | inl same ↦ rw same (get_or-set_same free_in b n 0 lt ∙ sym here)
    | inr ne ↦ get_or-set_other free_in b c n 0 ne ∙ x.each c ∙ sym (there c ne)
  ];
}

-- no pageblock has more pages than a pageblock has
size_in-le : (m : ℕ) (u : List Bool) (b : ℕ) → size_in m u b ≤ pageblock_pages m
unfolding size_in
size_in-le m u b =
    omega (arith, count_by-le-length (has u) (range_with_len (b * pageblock_pages m) (pageblock_pages m)), length-range_with_len (b * pageblock_pages m) (pageblock_pages m))

-- what is counted with the block (h, k) more, which is in the states z: its pages come to the number of its pageblock, which still is one of a pageblock
pub record IsCountedMore (m : ℕ) (z : List State) (free_in : List ℕ) (h k : ℕ) : Type 0 where
  pub fits : slice_index free_in (h / pageblock_pages m) + 2 ^ k ≤ pageblock_pages m
  pub each : IsCounted m z (set free_in (h / pageblock_pages m) (slice_index free_in (h / pageblock_pages m) + 2 ^ k))

-- and with the block (h, k) less, which is not in the states z
pub record IsCountedLess (m : ℕ) (z : List State) (free_in : List ℕ) (h k : ℕ) : Type 0 where
  pub most : 2 ^ k ≤ slice_index free_in (h / pageblock_pages m)
  pub each : IsCounted m z (set free_in (h / pageblock_pages m) (slice_index free_in (h / pageblock_pages m) - 2 ^ k))

module _ (m : ℕ) (s z : List State) (free_in : List ℕ) (h k : ℕ) (x : IsCounted m s free_in) (sound : IsBlockSet m (blocks_of s)) (same : length z ≡ length s) where
  numbered : IsBlock m (length (blocks_of s)) h k → h / pageblock_pages m < length free_in
  numbered b = rw x.blocks (number_lt (length s) h m (rw (blocks_length s) at (head_below m (length (blocks_of s)) h k b)))

  pub counted_more : IsNew m (blocks_of s) h k → blocks_of z ≡ with_block (blocks_of s) h k → IsCountedMore m z free_in h k
  counted_more n ez =
      let u : List Bool = cover (blocks_of s) in
      let b : ℕ = h / pageblock_pages m in
      let ec : cover (blocks_of z) ≡ with_run u h k = ap cover ez ∙ cover-with m (blocks_of s) h k sound n in
      let w = without-with_run u h k (omega (arith, n.block.inside, length-cover (blocks_of s))) n.clear in
      let y = size_in_less m (with_run u h k) h k w.0 n.block.aligned n.block.order in
      let here : size_in m (cover (blocks_of z)) (h / pageblock_pages m) ≡ slice_index free_in (h / pageblock_pages m) + 2 ^ k = rw ec (y.0 ∙ rw (w.1, x.each b)) in
      record {
        fits = omega (arith, size_in-le m (cover (blocks_of z)) b);
        each = counted_set m s z free_in b (slice_index free_in b + 2 ^ k) x same (numbered n.block) here (λ c ne. rw ec (sym (y.1 c ne) ∙ ap (λ v. size_in m v c) w.1));
      }

  pub counted_less : Starts (blocks_of s) h k → blocks_of z ≡ without_block (blocks_of s) h → IsCountedLess m z free_in h k
  counted_less st ez =
      let u : List Bool = cover (blocks_of s) in
      let b : ℕ = h / pageblock_pages m in
      let block = sound.block h k st in
      let ec : cover (blocks_of z) ≡ without u h k = ap cover ez ∙ cover-without m (blocks_of s) h k sound st in
      let y = size_in_less m u h k (λ i lo hi. around_covered m (blocks_of s) i h k sound (record { starts = st; from = lo; to = hi })) block.aligned block.order in
      let here : slice_index free_in (h / pageblock_pages m) ≡ size_in m (cover (blocks_of z)) (h / pageblock_pages m) + 2 ^ k = rw (ec, x.each b) y.0 in
      record {
        most = omega arith;
        each = counted_set m s z free_in b (slice_index free_in b - 2 ^ k) x same (numbered block) (omega arith) (λ c ne. rw ec (y.1 c ne));
      }
