-- The first block of a type is taken, its high halves stay, or its lowest pages are: what is left is what a take of its low part, or of these pages, leaves.
use Rattle.std.proofs.Common.{ℕ, ◌-◌, ◌≡◌, ◌<◌, ◌∙◌, arith, sym, Some}
use Rattle.std.proofs.lemmas.Nat.{pow_pos}
use Rattle.zp_model.specs.declared.migrate_type.MigrateType.{MigrateType}
use Rattle.zp_model.specs.PageblockType.{pageblock_type}
use Rattle.zp_model.specs.Choose.{own}
use Rattle.zp_area.specs.Blocks.{Blocks, removed}
use Rattle.zp_area.specs.OneSet.{IsOneSet}
use Rattle.zp_area.specs.Standing.{AreFirstTaken, IsFirstTaken}
use Rattle.zp_area.proofs.SameLargest.{largest-halves}
use Rattle.zp_buddy.specs.Choices.{area_in}
use Rattle.zp_buddy.specs.Runs.{IsRunTaking}
use Rattle.zp_buddy.specs.Sound.{IsSound}
use Rattle.zp_buddy.proofs.Choosing.{own_fronts}
use Rattle.zp_buddy.proofs.Runs.{run_own}
use Rattle.zp_buddy.proofs.SplitBlocks.{IsLeft, left_split}
use Rattle.zp_buddy.proofs.SplitPages.{left_pages}

module _ {a n : Blocks} (t : MigrateType) {k h o j : ℕ} (x : IsFirstTaken a (pageblock_type t) k h o j n) where
  -- it is the block of the request's own type
  pub first_own : own (area_in a.largest a) k t ≡ Some h
  first_own = sym (own_fronts a.largest a k t) ∙ x.first

  pub first_largest : n.largest ≡ a.largest
  first_largest = rw x.after (largest-halves a.largest (removed a.largest a h o) h j (o - j))

  pub first_left : IsSound a.largest a.rows.states a.kinds a.rows.lists → IsLeft a.largest h j a n
  first_left s = rw x.after (left_split a.largest a h j o s x.starts x.within)

-- the lowest pages of the block of the request's own type
pub first_run : (a y : Blocks) (t : MigrateType) (most h o n : ℕ) → 0 < most → IsSound a.largest a.rows.states a.kinds a.rows.lists → IsOneSet a.largest a →
    AreFirstTaken a (pageblock_type t) most h o n y → IsRunTaking a t most y h n
first_run a y t most h o n wanted s one x =
    let some : 0 < n = omega (arith, x.count, pow_pos o) in
    run_own a y t most h o n s (sym (own_fronts a.largest a 0 t) ∙ x.first) x.starts wanted x.count (rw x.after (left_pages a h o n s one x.starts some (omega (arith, x.count))))
