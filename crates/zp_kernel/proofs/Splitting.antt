-- A block is split: its pieces are held cut by cut.
use Rattle.std.proofs.Common.{ℕ, ◌+◌, ◌-◌, ◌^◌, ◌≡◌, ◌≤◌, ◌<◌, ◌∙◌, refl, sym, ap, arith, true, false, not, length}
use Rattle.std.specs.Prelude.{◌&&◌, ◌*◌, Option}
use Rattle.std.specs.List.{list_all}
use Rattle.std.specs.Option.{is_some}
use Rattle.std.specs.FinMap.{get, insert}
use Rattle.zp_model.specs.declared.constants.TheConstants.{LARGEST_ORDER}
use Rattle.zp_model.specs.Runs.{cut, fitting_order}
use Rattle.zp_model.specs.RunLaws.{IsFitting}
use Rattle.zp_model.proofs.Cuts.{cut_length, fitting}
use Rattle.zp_zone.proofs.RunsNoted.{cut_first}
use Rattle.zp_kernel.specs.declared.held.Held.{Held}
use Rattle.zp_kernel.specs.Frames.{Frames, frame_behind, is_clear, piece, with_cut, with_pieces}

-- the first block of a cut has a page, and none past the run
pub first_size : (h n : ℕ) → 0 < n → 2 ^ fitting_order LARGEST_ORDER h n ≤ n
first_size h n some = let x : IsFitting LARGEST_ORDER h n (fitting_order LARGEST_ORDER h n) = fitting LARGEST_ORDER h n (omega arith) in x.inside

-- the first block of a cut is held, and then the rest
pub cut_goes : (f : ℕ) (h : Held) (i n k g : ℕ) (x : Held) (fs gs : Frames) → 0 < n → k ≡ fitting_order LARGEST_ORDER i n → g ≡ frame_behind f i → x ≡ piece h i k → gs ≡ insert fs g x →
    with_cut f h (i + 2 ^ k) (n - 2 ^ k) gs ≡ with_cut f h i n fs
cut_goes f h i n k g x fs gs some is at what put =
    ap (λ y. with_cut f h (i + 2 ^ k) (n - 2 ^ k) y) (put ∙ ap (λ y. insert fs y x) at ∙ ap (insert fs (frame_behind f i)) what)
    ∙ ap (λ j. with_cut f h (i + 2 ^ j) (n - 2 ^ j) (insert fs (frame_behind f i) (piece h i j))) is
    ∙ sym (ap (λ bs. with_pieces f h bs fs) (cut_first LARGEST_ORDER i n some))

-- the first block's frame is clear or not, and then those of the rest
clear_first : (fs : Frames) (f i n k g : ℕ) (o : Option Held) → 0 < n → k ≡ fitting_order LARGEST_ORDER i n → g ≡ frame_behind f i → o ≡ get fs g →
    is_clear fs f i n ≡ (not (is_some o) && is_clear fs f (i + 2 ^ k) (n - 2 ^ k))
clear_first fs f i n k g o some is at found =
    ap (list_all (λ (b : ℕ × ℕ). not (is_some (get fs (frame_behind f b.0))))) (cut_first LARGEST_ORDER i n some)
    ∙ ap (λ j. not (is_some (get fs (frame_behind f i))) && is_clear fs f (i + 2 ^ j) (n - 2 ^ j)) (sym is)
    ∙ ap (λ y. not (is_some y) && is_clear fs f (i + 2 ^ k) (n - 2 ^ k)) (sym (found ∙ ap (get fs) at))

pub clear_goes : (fs : Frames) (f i n k g : ℕ) (o : Option Held) → 0 < n → k ≡ fitting_order LARGEST_ORDER i n → g ≡ frame_behind f i → o ≡ get fs g → is_some o ≡ false →
    is_clear fs f (i + 2 ^ k) (n - 2 ^ k) ≡ is_clear fs f i n
clear_goes fs f i n k g o some is at found none =
    sym (clear_first fs f i n k g o some is at found ∙ ap (λ b. not b && is_clear fs f (i + 2 ^ k) (n - 2 ^ k)) none)

pub clear_ends : (fs : Frames) (f i n g : ℕ) (o : Option Held) → 0 < n → g ≡ frame_behind f i → o ≡ get fs g → is_some o ≡ true → is_clear fs f i n ≡ false
clear_ends fs f i n g o some at found there =
    let k : ℕ = fitting_order LARGEST_ORDER i n in
    clear_first fs f i n k g o some refl at found ∙ ap (λ b. not b && is_clear fs f (i + 2 ^ k) (n - 2 ^ k)) there

-- a block less is to be held
pub length_goes : (i n k : ℕ) → 0 < n → k ≡ fitting_order LARGEST_ORDER i n → length (cut LARGEST_ORDER i n) ≡ 1 + length (cut LARGEST_ORDER (i + 2 ^ k) (n - 2 ^ k))
length_goes i n k some is = rw is (ap length (cut_first LARGEST_ORDER i n some) ∙ omega arith)

-- a cut of fewer pages than the largest block has is of few blocks
pub few_pieces : (i n : ℕ) → n < 2 ^ LARGEST_ORDER → length (cut LARGEST_ORDER i n) ≤ 2 * LARGEST_ORDER
few_pieces i n less = omega (arith, cut_length LARGEST_ORDER i n, less)
