-- The halves of a block that may come: each of them may come, the high one first.
use Rattle.std.proofs.Common.{ℕ, suc, zero, ◌+◌, ◌/◌, ◌^◌, ◌≡◌, ◌<◌, inl, refl, ◌∙◌, arith, length, length-set}
use Rattle.std.proofs.Math.Nat.{add-mod_right}
use Rattle.std.proofs.lemmas.Nat.{pow_pos}
use Rattle.zp_model.specs.declared.pageblock_type.PageblockType.{PageblockType}
use Rattle.zp_model.specs.declared.state.State.TheVariants.{Free}
use Rattle.zp_model.specs.Area.{kind_at, list_number, pageblock_pages}
use Rattle.zp_model.proofs.Heads.{two, aligned_down, number_around}
use Rattle.zp_model.proofs.TypeNumbers.{list_number_below}
use Rattle.zp_area.specs.Blocks.{Blocks, added}
use Rattle.zp_area.specs.Chains.{halves_added}
use Rattle.zp_area.proofs.Adding.{IsComing, clear_beside, one_added}
use Rattle.zp_area.proofs.OneBlock.{head_below}

module _ {m : ℕ} {a : Blocks} {h : ℕ} (j : ℕ) (x : IsComing m a h (j + 1)) where
  pub high_coming : IsComing m a (h + 2 ^ j) j
  high_coming = record {
    one = x.one;
    block = record { order = omega (arith, x.block.order); aligned = add-mod_right h (2 ^ j) ∙ aligned_down j (j + 1) h (omega arith) x.block.aligned; inside = omega (arith, x.block.inside, two j) };
    clear = λ i lo hi. x.clear i (omega arith) (omega (arith, two j));
  }

  -- it lies in the block's pageblock
  pub high_number : (h + 2 ^ j) / pageblock_pages m ≡ h / pageblock_pages m
  high_number = number_around h (h + 2 ^ j) (j + 1) m x.block.order x.block.aligned (omega arith) (omega (arith, two j, pow_pos j))

  -- so its type is the block's
  pub high_kind : (t : PageblockType) → t ≡ kind_at m a.kinds h → t ≡ kind_at m a.kinds (h + 2 ^ j)
  high_kind t e = rw high_number e

  -- it may come to its list
  pub high_list : (t : PageblockType) → list_number j t < length a.rows.lists
  high_list t = omega (arith, list_number_below m j t high_coming.block.order, x.one.table)

  pub high_page : h + 2 ^ j < length a.rows.states
  high_page = head_below _ _ _ _ high_coming.block

  -- and the low half then
  pub low_coming : IsComing m (added m a (h + 2 ^ j) j) h j
  low_coming = record {
    one = one_added high_coming;
    block = record { order = omega (arith, x.block.order); aligned = aligned_down j (j + 1) h (omega arith) x.block.aligned; inside = rw (length-set a.rows.states (h + 2 ^ j) (Free j)) (omega (arith, x.block.inside, two j)) };
    clear = clear_beside high_coming h j (λ i lo hi. x.clear i lo (omega (arith, two j))) (inl (omega arith));
  }

-- the low run that halves leave
pub halves_coming : (d m : ℕ) (a : Blocks) (h k : ℕ) → IsComing m a h (k + d) → IsComing m (halves_added m a h k d) h k
halves_coming zero m a h k x = let here : k + 0 ≡ k = omega arith in rw here at x
halves_coming (suc d) m a h k x = let up : k + suc d ≡ k + d + 1 = omega arith in halves_coming d m (added m a (h + 2 ^ (k + d)) (k + d)) h k (low_coming (k + d) (rw up at x))

pub kinds-halves : (d m : ℕ) (a : Blocks) (h k : ℕ) → (halves_added m a h k d).kinds ≡ a.kinds
kinds-halves zero m a h k = refl
kinds-halves (suc d) m a h k = kinds-halves d m (added m a (h + 2 ^ (k + d)) (k + d)) h k

pub halves_rows : (d m : ℕ) (a : Blocks) (h k : ℕ) → halves_added m a h k d ≡ record a { rows = (halves_added m a h k d).rows }
halves_rows zero m a h k = refl
halves_rows (suc d) m a h k = halves_rows d m (added m a (h + 2 ^ (k + d)) (k + d)) h k
