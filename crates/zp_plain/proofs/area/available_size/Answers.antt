use Rattle.std.proofs.Common.{ℕ, ◌≡◌, ◌-◌, ◌&&◌, not, arith, sym, ◌∙◌, ap, Bool, List, length, cond}
use Rattle.std.specs.List.{range_with_len, count_by}
use Rattle.zp_model.specs.declared.pageblock_type.PageblockType.{PageblockType}
use Rattle.zp_model.specs.Block.{has, size}
use Rattle.zp_model.specs.Area.{available, is_isolated}
use Rattle.zp_laws.proofs.Counting.{sum-map}
use Rattle.zp_plain.proofs.Looking.{count_step, count_end}
use Rattle.zp_plain.proofs.area.available_size.Goals as goal
use Rattle.zp_plain.proofs.area.available_size.Goals.{then-is_available, else-is_available}

abbrev open_at : ℕ → List Bool → List PageblockType → ℕ → Bool
open_at m u kinds h = has u h && not (is_isolated m kinds h)

count_all : (m : ℕ) (u : List Bool) (kinds : List PageblockType) (n : ℕ) → n ≡ length u → count_by (open_at m u kinds) (range_with_len 0 n) ≡ size (available m kinds u)
unfolding available size
count_all m u kinds n e =
    ap (λ q. count_by (open_at m u kinds) (range_with_len 0 q)) e
    ∙ sym (sum-map (λ (b : Bool). cond b 1 0) (open_at m u kinds) (range_with_len 0 (length u)))

pub pages-init : goal.pages-init
pages-init c = record {
  within = omega arith;
  counted = let e = count_all c.args.largest c.args.set.now c.args.kinds.now (length c.args.set.now - 0) (omega arith) in omega (arith, e);
}

pub pages-preserved : goal.pages-preserved
pages-preserved c =
    let p : ℕ → Bool = open_at c.args.largest c.args.set.now c.args.kinds.now in
    let step = count_step p c.pages.i (length c.args.set.now) c.is_available.result (omega arith) (ap p (sym c.at.ensures) ∙ sym c.is_available.ensures) in
    elim c.if-is_available.branch [
      | then-is_available w ↦
          let h = rw w.if-is_available.true at step in
          record { within = omega (arith, c.pages.invariant.within, w.pages-is); counted = omega (arith, h, c.pages.invariant.counted, w.pages-is) }
      | else-is_available w ↦
          let h = rw w.if-is_available.false at step in
          record { within = omega (arith, c.pages.invariant.within, w.pages-is); counted = omega (arith, h, c.pages.invariant.counted, w.pages-is) }
    ]

pub returns : goal.returns
returns c = omega (arith, c.pages.invariant.counted, count_end (open_at c.args.largest c.args.set.now c.args.kinds.now) c.pages.i (length c.args.set.now) (omega arith))
