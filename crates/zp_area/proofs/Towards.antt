-- A block that is halved towards a part of it, at whatever place the part has there.
use Rattle.std.proofs.Common.{ℕ, suc, zero, ◌+◌, ◌-◌, ◌/◌, ◌^◌, ◌%◌, ◌≡◌, ◌≤◌, ◌<◌, ◌⊎◌, inl, inr, refl, sym, ◌∙◌, ap, arith, length-set}
use Rattle.std.proofs.Math.Nat.{add-mod_right}
use Rattle.std.proofs.lemmas.Nat.{pow_pos}
use Rattle.zp_model.specs.declared.state.State.TheVariants.{Free, Tail}
use Rattle.zp_model.specs.Block.{IsBuddy, head}
use Rattle.zp_model.specs.BlockSet.{Starts}
use Rattle.zp_model.specs.RunLaws.{half_beside}
use Rattle.zp_model.proofs.Halving.{beside_buddy}
use Rattle.zp_model.proofs.Heads.{two, aligned_down, head_aligned, head_le, lt_head, number_around}
use Rattle.zp_area.specs.Blocks.{Blocks, block_set, added, removed}
use Rattle.zp_area.specs.OneSet.{IsOneSet}
use Rattle.zp_area.specs.Towards.{halves_beside, split_towards}
use Rattle.zp_area.proofs.Adding.{IsComing, clear_beside, one_added}
use Rattle.zp_area.proofs.Growing.{buddy_unique}
use Rattle.zp_area.proofs.Keeping.{blocks_length}
use Rattle.zp_area.proofs.Removing.{clear_removed, one_removed}

-- the buddy of the aligned run around a page is the half beside it
pub beside_is : (h j c d : ℕ) → IsBuddy (head h j) j c d → c ≡ half_beside h j
beside_is h j c d x = buddy_unique (head h j) j c d (half_beside h j) (head h (j + 1)) x (beside_buddy h j)

-- it lies in the page's pageblock
pub beside_place : (h j m : ℕ) → j < m → half_beside h j / 2 ^ m ≡ h / 2 ^ m
beside_place h j m lt =
    let double : h / 2 ^ m ≡ head h (j + 1) / 2 ^ m = number_around (head h (j + 1)) h (j + 1) m (omega arith) (head_aligned h (j + 1)) (head_le h (j + 1)) (lt_head h (j + 1)) in
    let halves = (beside_buddy h j).halves in
    let from : head h (j + 1) ≤ half_beside h j = elim halves [ inl e ↦ omega (arith, e.1) | inr e ↦ omega (arith, e.0) ] in
    let to : half_beside h j < head h (j + 1) + 2 ^ (j + 1) = elim halves [ inl e ↦ omega (arith, e.1, two j, pow_pos j) | inr e ↦ omega (arith, e.0, two j, pow_pos j) ] in
    number_around (head h (j + 1)) (half_beside h j) (j + 1) m (omega arith) (head_aligned h (j + 1)) from to ∙ sym double

-- of the two halves of a run that may come, each may, and the other one then
module _ {m : ℕ} {a : Blocks} (b j c d : ℕ) (y : IsBuddy b j c d) (x : IsComing m a d (j + 1)) where
  aligned_half : (g : ℕ) → (g ≡ d) ⊎ (g ≡ d + 2 ^ j) → g % 2 ^ j ≡ 0
  aligned_half g (inl e) = rw e (aligned_down j (j + 1) d (omega arith) y.double)
  aligned_half g (inr e) = rw e (add-mod_right d (2 ^ j) ∙ aligned_down j (j + 1) d (omega arith) y.double)

  pub buddy_coming : IsComing m a c j
  buddy_coming = record {
    one = x.one;
    block = record {
      order = omega (arith, x.block.order);
      aligned = aligned_half c (elim y.halves [ inl w ↦ inr w.1 | inr w ↦ inl w.0 ]);
      inside = omega (arith, x.block.inside, two j);
    };
    clear = λ i lo hi. x.clear i (omega arith) (omega (arith, two j));
  }

  pub other_coming : IsComing m (added m a c j) b j
  other_coming = record {
    one = one_added buddy_coming;
    block = record {
      order = omega (arith, x.block.order);
      aligned = aligned_half b (elim y.halves [ inl w ↦ inl w.0 | inr w ↦ inr w.1 ]);
      inside = rw (length-set a.rows.states c (Free j)) (omega (arith, x.block.inside, two j));
    };
    clear = clear_beside buddy_coming b j (λ i lo hi. x.clear i (omega arith) (omega (arith, two j))) (elim y.halves [ inl w ↦ inl (omega arith) | inr w ↦ inr (omega arith) ]);
  }

-- of the block of order o around page h, which has left a, the run of order j around the page is in no block of b; all else of it is
pub record IsTowards (m : ℕ) (a b : Blocks) (h o k j : ℕ) : Type 0 where
  pub down : k ≤ j
  pub coming : IsComing m b (head h j) j
  pub after : halves_beside m b h k (j - k) ≡ split_towards m a h o k

pub towards_begins : (m : ℕ) (a : Blocks) (h o k : ℕ) → IsOneSet m a → Starts (block_set a) (head h o) o → k ≤ o → IsTowards m a (removed m a (head h o) o) h o k o
towards_begins m a h o k x st le = record {
  down = le;
  coming = record {
    one = one_removed m a (head h o) o x st;
    block = rw (length-set a.rows.states (head h o) Tail, ← blocks_length a.rows.states) (x.blocks.block (head h o) o st);
    clear = clear_removed m a (head h o) o x st;
  };
  after = refl;
}

module _ {m : ℕ} {a b : Blocks} {h o k : ℕ} (j : ℕ) (x : IsTowards m a b h o k (j + 1)) where
  pub half_coming : IsComing m b (half_beside h j) j
  half_coming = buddy_coming (head h j) j (half_beside h j) (head h (j + 1)) (beside_buddy h j) x.coming

  -- the half beside the run comes
  pub towards_goes : k ≤ j → IsTowards m a (added m b (half_beside h j) j) h o k j
  towards_goes le =
      let steps : j + 1 - k ≡ suc (j - k) = omega arith in
      let here : k + (j - k) ≡ j = omega arith in
      record {
        down = le;
        coming = other_coming (head h j) j (half_beside h j) (head h (j + 1)) (beside_buddy h j) x.coming;
        after = ap (λ q. halves_beside m (added m b (half_beside h q) q) h k (j - k)) (sym here) ∙ ap (λ q. halves_beside m b h k q) (sym steps) ∙ x.after;
      }

pub towards_ends : (m : ℕ) (a b : Blocks) (h o k : ℕ) → IsTowards m a b h o k k → b ≡ split_towards m a h o k
towards_ends m a b h o k x = let none_left : 0 ≡ k - k = omega arith in ap (λ q. halves_beside m b h k q) none_left ∙ x.after

-- the order of the largest block stays
pub largest-beside : (d m : ℕ) (a : Blocks) (h k : ℕ) → (halves_beside m a h k d).largest ≡ a.largest
largest-beside zero m a h k = refl
largest-beside (suc d) m a h k = largest-beside d m (added m a (half_beside h (k + d)) (k + d)) h k
