-- Notes of pages that are not free, and what they leave of a buddy allocator's fields.
use Rattle.std.proofs.Common.{ℕ, ◌≡◌, ◌∙◌, refl, length-set}
use Rattle.zp_model.specs.declared.state.State.{State}
use Rattle.zp_model.specs.Frames.{IsNote}
use Rattle.zp_area.specs.Blocks.{Blocks, block_set, noted, noted_run}
use Rattle.zp_area.specs.Given.{AreClearPages}
use Rattle.zp_area.proofs.Holding.{IsHolding, by_pages, noted_set}
use Rattle.zp_buddy.specs.Held.{IsHeld}
use Rattle.zp_buddy.proofs.ClearByLooks.{one_held}
use Rattle.zp_buddy.proofs.Settled.{noted_sound}

pub held_noted : (a : Blocks) (free h : ℕ) (s : State) → IsHeld a.largest a free → IsHolding a.largest a h s → IsHeld a.largest (noted a h s) free
held_noted a free h s x y =
    let e : block_set (noted a h s) ≡ block_set a = noted_set a.largest a h s y in
    record {
      sound = noted_sound a.largest a h s e x.sound;
      typed = rw (length-set a.rows.states h s) x.typed;
      counted = rw e x.counted;
    }

-- the same of clear pages in a row
module _ (a : Blocks) (free h n : ℕ) (s : State) (x : IsHeld a.largest a free) (clear : AreClearPages a.largest a.rows.states a.rows.lists h n) (note : IsNote s) where
  pub held_run : IsHeld a.largest (noted_run a h n s) free
  held_run = by_pages (λ b. IsHeld b.largest b free) s note (λ b g y z. held_noted b free g s y z) n a h x (one_held a.largest a free x) (λ i lo hi. (clear i lo hi).0)

  -- the blocks stay
  pub run_set : block_set (noted_run a h n s) ≡ block_set a
  run_set = by_pages (λ b. block_set b ≡ block_set a) s note (λ b g e z. noted_set b.largest b g s z ∙ e) n a h refl (one_held a.largest a free x) (λ i lo hi. (clear i lo hi).0)
