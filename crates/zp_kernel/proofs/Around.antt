-- The block around a frame, found run by run.
use Rattle.std.proofs.Common.{ℕ, suc, ◌≡◌, ◌≤◌, ◌+◌, ◌-◌, ◌*◌, ◌%◌, ◌^◌, ◌∙◌, refl, sym, ap, arith}
use Rattle.std.specs.Prelude.{Option}
use Rattle.std.proofs.Math.Pow.{pow_mono}
use Rattle.std.specs.List.{range_with_len}
use Rattle.std.specs.FinMap.{get}
use Rattle.zp_model.specs.declared.constants.TheConstants.{LARGEST_ORDER}
use Rattle.zp_kernel.specs.declared.held.Holder.{Holder}
use Rattle.zp_kernel.specs.Frames.{Frames, holder_among, holder_around, or_else, reaching}

pub around_all : (fs : Frames) (f : ℕ) → holder_around fs f ≡ holder_among fs f (range_with_len 1 LARGEST_ORDER)
unfolding holder_around
around_all fs f = refl

-- the run of order k comes before the others
pub among_next : (fs : Frames) (f k m n run : ℕ) (r : Option Holder) → m ≡ suc n → run ≡ 2 ^ k → r ≡ reaching (f - f % run) (f % run) (get fs (f - f % run)) →
    holder_among fs f (range_with_len k m) ≡ or_else r (holder_among fs f (range_with_len (k + 1) n))
among_next fs f k m n run r more is found =
    ap (λ x. holder_among fs f (range_with_len k x)) more
    ∙ ap (λ x. or_else (reaching (f - f % x) (f % x) (get fs (f - f % x))) (holder_among fs f (range_with_len (k + 1) n))) (sym is)
    ∙ ap (λ o. or_else o (holder_among fs f (range_with_len (k + 1) n))) (sym found)

-- how many frames a run has, as a shift answers it
pub run_is : (k : ℕ) → k ≤ 10 → 1 * 2 ^ k % 2 ^ 64 ≡ 2 ^ k
run_is k small = let few : 2 ^ k ≤ 2 ^ 10 = pow_mono small in omega (arith, few)
