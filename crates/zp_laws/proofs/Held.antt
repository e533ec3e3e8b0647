-- What it says that a block is out in a worker's name.
use Rattle.std.proofs.Common.{ℕ, ◌-◌, ◌≡◌, ◌≤◌, ◌==◌, refl, ap, arith, true, false, Option, Some, None}
use Rattle.std.proofs.lemmas.Bool.{and_parts, eqb-true, leb-true, false≢true, false_from_ne_true}
use Rattle.zp_model.specs.Block.{has, in_run, IsBlock}
use Rattle.zp_model.specs.Zone.{PlainZone, Holding, holding_at, is_of, holds, pages_of}
use Rattle.zp_model.specs.Run.{is_out}
use Rattle.zp_model.specs.Lawful.{IsLawful}
use Rattle.zp_laws.proofs.Counting.{one_if}
use Rattle.zp_laws.proofs.HandedOut.{out-has}
use Rattle.zp_laws.proofs.Keeping.{block-inside, one_place}

-- the block out at page h is of order k, in worker w's name
pub record IsHolding (z : PlainZone) (w h k : ℕ) : Type 0 where
  pub holding : Holding
  pub at : holding_at z.out h ≡ Some holding
  pub order : holding.order ≡ k
  pub worker : holding.worker ≡ w

pub held-to : (z : PlainZone) (w h k : ℕ) → holds z w h k ≡ true → IsHolding z w h k
held-to z w h k e = go (holding_at z.out h) refl e
  where
    go : (o : Option Holding) → holding_at z.out h ≡ o → is_of w k o ≡ true → IsHolding z w h k
    go None q e = absurd (false≢true e)
    go (Some x) q e =
        let a = and_parts (x.order == k) (x.worker == w) e in
        record { holding = x; at = q; order = eqb-true x.order k a.0; worker = eqb-true x.worker w a.1 }

pub out-to : (z : PlainZone) (w p k : ℕ) → is_out z w p k ≡ true → (z.base ≤ p) × (holds z w (p - z.base) k ≡ true)
out-to z w p k e = let a = and_parts _ _ e in (leb-true z.base p a.0, a.1)

pub out_held : (z : PlainZone) (w p k : ℕ) → is_out z w p k ≡ true → IsHolding z w (p - z.base) k
out_held z w p k e = held-to z w (p - z.base) k (out-to z w p k e).1

pub held_block : (z : PlainZone) (w h k : ℕ) → IsLawful z → IsHolding z w h k → IsBlock z.area.largest (pages_of z) h k
held_block z w h k l x = rw x.order at (l.out h x.holding x.at).0

-- no page of a block out is free
pub held-not_free : (z : PlainZone) (w h k i : ℕ) → IsLawful z → IsHolding z w h k → in_run h k i ≡ true → has z.area.free i ≡ false
held-not_free z w h k i l x r = false_from_ne_true _ (λ e.
    let b = block-inside z.area.largest (pages_of z) h k i (held_block z w h k l x) r in
    let free : one_if (has z.area.free i) ≡ 1 = ap one_if e in
    omega (arith, out-has z.out h i x.holding x.at (rw x.order r), one_place z l i b.2))
