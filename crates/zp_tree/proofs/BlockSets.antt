-- Blocks of a set that have a page in common.
use Rattle.std.proofs.Common.{ℕ, ◌+◌, ◌^◌, ◌≡◌, ◌≤◌, ◌<◌, sym, ◌∙◌, List, replicate, Option, None}
use Rattle.std.proofs.lemmas.Option.{none-some}
use Rattle.zp_model.specs.BlockSet.{Starts}
use Rattle.zp_model.proofs.Pages.{in_run-from}
use Rattle.zp_model.proofs.RowLists.{replicated}
use Rattle.zp_tree.specs.Blocks.{IsBlockSet}

-- they start at one page
pub same_page : (m : ℕ) (s : List (Option ℕ)) (a k b j i : ℕ) → IsBlockSet m s → Starts s a k → Starts s b j → a ≤ i → i < a + 2 ^ k → b ≤ i → i < b + 2 ^ j → a ≡ b
same_page m s a k b j i x y z from to from_b to_b = x.apart a k b j i y z (in_run-from a k i from to) (in_run-from b j i from_b to_b)

pub no_start : (n i o : ℕ) → Starts (replicate n None) i o → ⊥
no_start n i o e = none-some o (sym (replicated {X = Option ℕ} n i None) ∙ e)
