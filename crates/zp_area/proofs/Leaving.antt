-- A block that leaves a pageblock of whatever type: the blocks that can be chosen, and the count of isolated pages.
use Rattle.std.proofs.Common.{ℕ, ◌-◌, ◌≡◌, ◌≤◌, ◌<◌, inl, inr, sym, ◌∙◌, ap, arith, true, cond, List, length, set, get_or-set_other, length-set, Option, None}
use Rattle.std.specs.List.{slice_index, slice_index_or}
use Rattle.std.proofs.lemmas.Bool.{cases_Bool, false≢true}
use Rattle.zp_model.specs.declared.pageblock_type.PageblockType.{PageblockType}
use Rattle.zp_model.specs.declared.pageblock_type.PageblockType.TheVariants.{Movable}
use Rattle.zp_model.specs.PageblockType.{is_isolate}
use Rattle.zp_model.specs.Area.{available_blocks, is_isolated, kind_at}
use Rattle.zp_tree.specs.Blocks.{without_block}
use Rattle.zp_area.specs.Available.{isolated_sum}
use Rattle.zp_area.proofs.AvailableBlocks.{available-without, available_same}
use Rattle.zp_area.proofs.IsolatedPages.{sum_isolated, sum_open}

-- a block that leaves a pageblock of this type, in the words of the code
pub told_without : (m : ℕ) (kinds : List PageblockType) (s : List (Option ℕ)) (h : ℕ) (t : PageblockType) → t ≡ kind_at m kinds h →
    cond (is_isolate t) (available_blocks m kinds s) (without_block (available_blocks m kinds s) h) ≡ available_blocks m kinds (without_block s h)
told_without m kinds s h t e = elim (cases_Bool (is_isolate t)) [
  | inl is ↦ rw is (sym (available_same m kinds s (without_block s h) (length-set s h None) (λ g shown.
      get_or-set_other s h g None None (λ same. false≢true (sym shown ∙ ap (is_isolated m kinds) same ∙ ap is_isolate (sym e) ∙ is)))))
  | inr not ↦ rw not (sym (available-without m kinds s h))
]

-- an isolated pageblock's number is part of the sum
pub sum_most : (ts : List PageblockType) (ns : List ℕ) (b : ℕ) → b < length ts → b < length ns → is_isolate (slice_index_or ts b Movable) ≡ true → slice_index ns b ≤ isolated_sum ts ns
sum_most ts ns b lt le e = omega (arith, sum_isolated ts ns b 0 lt le e)

-- so pages that leave a pageblock of this type are counted no more where it is isolated
pub sum_left : (ts : List PageblockType) (ns : List ℕ) (b p : ℕ) (t : PageblockType) → t ≡ slice_index_or ts b Movable → b < length ts → b < length ns → p ≤ slice_index ns b →
    cond (is_isolate t) (isolated_sum ts ns - p) (isolated_sum ts ns) ≡ isolated_sum ts (set ns b (slice_index ns b - p))
sum_left ts ns b p t e lt le most = elim (cases_Bool (is_isolate t)) [
  | inl is ↦ rw is (omega (arith, sum_isolated ts ns b (slice_index ns b - p) lt le (ap is_isolate (sym e) ∙ is)))
  | inr not ↦ rw not (sym (sum_open ts ns b (slice_index ns b - p) (ap is_isolate (sym e) ∙ not)))
]
