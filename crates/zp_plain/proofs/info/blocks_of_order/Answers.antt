use Rattle.std.proofs.Common.{ℕ, ◌≡◌, ◌-◌, arith, sym, ◌∙◌, ap, Bool, List, length}
use Rattle.std.specs.List.{range_with_len, count_by}
use Rattle.zp_model.specs.Block.{is_max}
use Rattle.zp_model.specs.Info.{blocks_of_order}
use Rattle.zp_plain.proofs.Looking.{count_step, count_end}
use Rattle.zp_plain.proofs.info.blocks_of_order.Goals as goal
use Rattle.zp_plain.proofs.info.blocks_of_order.Goals.{then-is_max, else-is_max}

count_all : (m : ℕ) (u : List Bool) (k n : ℕ) → n ≡ length u → count_by (λ h. is_max m u h k) (range_with_len 0 n) ≡ blocks_of_order m u k
unfolding blocks_of_order
count_all m u k n e = ap (λ q. count_by (λ h. is_max m u h k) (range_with_len 0 q)) e

pub heads-init : goal.heads-init
heads-init c = record {
  within = omega arith;
  counted = let e = count_all c.args.largest c.args.set.now c.args.order (length c.args.set.now - 0) (omega arith) in omega (arith, e);
}

pub heads-preserved : goal.heads-preserved
heads-preserved c =
    let p : ℕ → Bool = λ h. is_max c.args.largest c.args.set.now h c.args.order in
    let step = count_step p c.heads.i (length c.args.set.now) c.is_max.result (omega arith) (ap p (sym c.at.ensures) ∙ sym c.is_max.ensures) in
    elim c.if-is_max.branch [
      | then-is_max w ↦
          let h = rw w.if-is_max.true at step in
          record { within = omega (arith, c.heads.invariant.within, w.blocks-is); counted = omega (arith, h, c.heads.invariant.counted, w.blocks-is) }
      | else-is_max w ↦
          let h = rw w.if-is_max.false at step in
          record { within = omega (arith, c.heads.invariant.within, w.blocks-is); counted = omega (arith, h, c.heads.invariant.counted, w.blocks-is) }
    ]

pub returns : goal.returns
returns c = omega (arith, c.heads.invariant.counted, count_end (λ h. is_max c.args.largest c.args.set.now h c.args.order) c.heads.i (length c.args.set.now) (omega arith))
