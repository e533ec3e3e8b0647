-- A run at any place that is noted as out, block by block of its cut.
use Rattle.std.proofs.Common.{ℕ, suc, zero, ◌+◌, ◌-◌, ◌^◌, ◌≡◌, ◌≤◌, ◌<◌, inl, inr, refl, sym, ◌∙◌, ap, arith, false, List, ◌∷◌, length, length-set, set}
use Rattle.std.proofs.lemmas.Bool.{cases_lt}
use Rattle.std.proofs.lemmas.Nat.{pow_below, pow_pos}
use Rattle.zp_model.specs.declared.migrate_type.MigrateType.{MigrateType}
use Rattle.zp_model.specs.declared.state.State.TheVariants.{Out}
use Rattle.zp_model.specs.Block.{has, IsBlock}
use Rattle.zp_model.specs.Frames.{Frames, IsClear}
use Rattle.zp_model.specs.RunLaws.{IsFitting}
use Rattle.zp_model.specs.Runs.{cut, cut_up_to, fitting_order, hand_out_blocks, hand_out_run}
use Rattle.zp_model.specs.Zone.{PlainZone}
use Rattle.zp_model.proofs.Cuts.{fitting, fitting_unique}
use Rattle.zp_buddy.specs.Runs.{AreClear}
use Rattle.zp_zone.specs.Kept.{IsPostedAside, plain_of}
use Rattle.zp_zone.specs.RunsAt.{IsNotedRun}
use Rattle.zp_zone.proofs.Noted.{IsOffAll, aside_noted, off_apart, plain-noted}

-- a cut has no more blocks than pages
cut_same : (a b m h n : ℕ) → n ≤ a → n ≤ b → cut_up_to m a h n ≡ cut_up_to m b h n
cut_same zero zero m h n le lt = refl
cut_same zero (suc b) m h zero le lt = refl
cut_same zero (suc b) m h (suc n) le lt = absurd (omega arith)
cut_same (suc a) zero m h zero le lt = refl
cut_same (suc a) zero m h (suc n) le lt = absurd (omega arith)
cut_same (suc a) (suc b) m h zero le lt = refl
cut_same (suc a) (suc b) m h (suc n) le lt =
    let k : ℕ = fitting_order m h (suc n) in
    let p : ℕ × ℕ = (h, fitting_order m h (suc n)) in
    ap (λ (bs : List (ℕ × ℕ)). p ∷ bs) (cut_same a b m (h + 2 ^ k) (suc n - 2 ^ k) (omega (arith, pow_pos k)) (omega (arith, pow_pos k)))

-- its first block, and the cut of the rest
pub cut_first : (m h n : ℕ) → 0 < n → cut m h n ≡ (h, fitting_order m h n) ∷ cut m (h + 2 ^ fitting_order m h n) (n - 2 ^ fitting_order m h n)
cut_first m h zero some = absurd (omega arith)
cut_first m h (suc n) some =
    let k : ℕ = fitting_order m h (suc n) in
    let p : ℕ × ℕ = (h, fitting_order m h (suc n)) in
    ap (λ (bs : List (ℕ × ℕ)). p ∷ bs) (cut_same n (suc n - 2 ^ k) m (h + 2 ^ k) (suc n - 2 ^ k) (omega (arith, pow_pos k)) (omega arith))

-- of the run (h, n) the blocks before page next are noted in f as out to w, each with its type, which is y then
pub record IsNotingRun (f y : Frames) (w : ℕ) (kind : ℕ → MigrateType) (h n next left : ℕ) : Type 0 where
  pub area : y.area ≡ f.area
  pub plain : (base min : ℕ) → hand_out_blocks (plain_of y base min) w kind (cut f.area.largest next left) ≡ hand_out_run (plain_of f base min) w kind h n
  pub sides : y.sides ≡ f.sides
  pub pages : length y.states ≡ length f.states
  pub beside : IsPostedAside y.sides y.states
  pub clear : AreClear f next left

pub noting_begins : (f : Frames) (w : ℕ) (kind : ℕ → MigrateType) (h n : ℕ) → AreClear f h n → IsPostedAside f.sides f.states → IsNotingRun f f w kind h n h n
noting_begins f w kind h n clear beside = record { area = refl; plain = λ base min. refl; sides = refl; pages = refl; beside = beside; clear = clear }

module _ {f y : Frames} {w : ℕ} {kind : ℕ → MigrateType} {h n next left : ℕ} (x : IsNotingRun f y w kind h n next left) (some : 0 < left) where
  note_fits : IsFitting f.area.largest next left (fitting_order f.area.largest next left)
  note_fits = fitting f.area.largest next left (omega arith)

  pub note_size : 2 ^ fitting_order f.area.largest next left ≤ left
  note_size = note_fits.inside

  pub note_unfree : has y.area.free next ≡ false
  note_unfree = rw x.area (x.clear.free next (omega arith) (omega arith))

  pub noting_goes : IsNotingRun f (record y { states = set y.states next (Out (fitting_order f.area.largest next left) (kind next) w) }) w kind h n
      (next + 2 ^ fitting_order f.area.largest next left) (left - 2 ^ fitting_order f.area.largest next left)
  noting_goes =
      let k : ℕ = fitting_order f.area.largest next left in
      let off : IsOffAll y.sides next = λ r. rw x.sides (x.clear.aside r next (omega arith) (omega arith)) in
      let bs : List (ℕ × ℕ) = cut f.area.largest (next + 2 ^ fitting_order f.area.largest next left) (left - 2 ^ fitting_order f.area.largest next left) in
      record {
        area = x.area;
        plain = λ base min.
            ap (λ (z : PlainZone). hand_out_blocks z w kind bs) (plain-noted y base min next (Out k (kind next) w) (off_apart y.sides next off))
            ∙ ap (λ (cs : List (ℕ × ℕ)). hand_out_blocks (plain_of y base min) w kind cs) (sym (cut_first f.area.largest next left some)) ∙ x.plain base min;
        sides = x.sides;
        pages = length-set y.states next (Out k (kind next) w) ∙ x.pages;
        beside = aside_noted y.sides y.states next (Out k (kind next) w) x.beside off (λ v. refl);
        clear = record {
          inside = omega (arith, note_fits.inside, x.clear.inside);
          free = λ i lo hi. x.clear.free i (omega arith) (omega (arith, note_fits.inside));
          aside = λ r i lo hi. x.clear.aside r i (omega arith) (omega (arith, note_fits.inside));
        };
      }

pub noting_ends : (f y : Frames) (w : ℕ) (kind : ℕ → MigrateType) (h n next left : ℕ) → left ≡ 0 → IsNotingRun f y w kind h n next left → IsNotedRun f y w kind h n
noting_ends f y w kind h n next left none x = record {
  plain = λ base min. ap (λ l. hand_out_blocks (plain_of y base min) w kind (cut f.area.largest next l)) (sym none) ∙ x.plain base min;
  sides = x.sides;
  pages = x.pages;
  beside = x.beside;
}

-- the cut of a run that is a block is this block
pub block_fits : (m pages h n k : ℕ) → IsBlock m pages h k → 2 ^ k ≡ n → fitting_order m h n ≡ k
block_fits m pages h n k x whole = fitting_unique m h n k (record { order = x.order; aligned = x.aligned; inside = omega (arith, whole); greatest = λ j le al fits. elim (cases_lt k j) [ inl more ↦ absurd (omega (arith, pow_below k j more, fits, whole)) | inr most ↦ most ] })

-- a run that is a block is noted by one note
pub block_noted : (f : Frames) (w : ℕ) (kind : ℕ → MigrateType) (h n k : ℕ) → IsClear f h k → 2 ^ k ≡ n → IsPostedAside f.sides f.states →
    IsNotedRun f (record f { states = set f.states h (Out k (kind h) w) }) w kind h n
block_noted f w kind h n k block whole beside =
    let j : ℕ = fitting_order f.area.largest h n in
    let same : fitting_order f.area.largest h n ≡ k = block_fits f.area.largest (length f.area.free) h n k block.block whole in
    let clear : AreClear f h n = record {
      inside = omega (arith, block.block.inside, whole);
      free = λ i lo hi. block.free i lo (omega (arith, whole));
      aside = λ r i lo hi. block.aside r i lo (omega (arith, whole));
    } in
    let some : 0 < n = omega (arith, whole, pow_pos k) in
    let none : n - 2 ^ fitting_order f.area.largest h n ≡ 0 = rw same (omega (arith, whole)) in
    rw same at
    (noting_ends f (record f { states = set f.states h (Out j (kind h) w) }) w kind h n (h + 2 ^ j) (n - 2 ^ j) none (noting_goes (noting_begins f w kind h n clear beside) some))
