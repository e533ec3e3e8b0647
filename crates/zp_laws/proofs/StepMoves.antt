-- Each step that is defined moves exactly the pages that it hands out or that are given back.
use Rattle.std.proofs.Common.{ℕ, ◌+◌, ◌-◌, ◌^◌, ◌≡◌, ◌<◌, ◌==◌, inl, inr, refl, sym, ◌∙◌, ap, arith, true, ◌||◌, [], ◌∷◌, ◌++◌, Option, Some, None}
use Rattle.std.specs.Prelude.{slice_get}
use Rattle.std.proofs.Math.Bool.{or-false}
use Rattle.std.proofs.lemmas.Bool.{and_parts, cases_order, le-leb, lt-leb, lt-ltb, le-ltb, eq-eqb, ne_eqb}
use Rattle.zp_model.specs.declared.migrate_type.MigrateType.{MigrateType}
use Rattle.zp_model.specs.declared.pageblock_type.PageblockType.{PageblockType}
use Rattle.zp_model.specs.declared.pageblock_type.PageblockType.TheVariants.{Isolate}
use Rattle.zp_model.specs.declared.request.Request.{Request}
use Rattle.zp_model.specs.Block.{in_run}
use Rattle.zp_model.specs.Rows.{stands_in}
use Rattle.zp_model.specs.Choose.{Chosen, choose}
use Rattle.zp_model.specs.PageblockType.{pageblock_type}
use Rattle.zp_model.specs.Zone.{PlainZone, Holding, holding_at, workers_of}
use Rattle.zp_model.specs.Step.{alloc_chosen, alloc_low_at, freed, handed_on, collected, drained, with_kind, step}
use Rattle.zp_model.specs.Run.{may_ask, is_out}
use Rattle.zp_model.specs.Lawful.{IsLawful}
use Rattle.zp_laws.specs.FreePages.{handed_out, given_back, IsMove}
use Rattle.zp_laws.proofs.Settling.{stands-append}
use Rattle.zp_laws.proofs.Areas.{free-taken, free-leave, free-give, free-retype}
use Rattle.zp_laws.proofs.Choosing.{choose_found, take_low_found, found_free}
use Rattle.zp_laws.proofs.Held.{IsHolding, out-to, out_held, held_block, held-not_free}
use Rattle.zp_laws.proofs.Moves.{none, move_by, move_none, move_out, move_back, move_out_out, move_back_back}
use Rattle.zp_laws.proofs.RunSteps.{alloc_run_by, alloc_run_at_by, may_free-to, run_freed_moves, run_taken_moves}
use Rattle.zp_laws.proofs.Outcomes.{alloc_by, low_by, collected_by, isolated_by, released_by, refill_by}
use Rattle.zp_laws.proofs.Steps.{chosen_lawful, drained_by}

nothing : (z : PlainZone) → IsMove z z none none
nothing z = move_none z z refl refl

chosen-moves : (z : PlainZone) (w k : ℕ) (t : MigrateType) (c : Chosen) → choose z.area k t ≡ Some c → IsLawful z →
    IsMove z (alloc_chosen z w k t (Some c)).zone (in_run (z.base + c.head) k) none
chosen-moves z w k t c e l =
    move_out z (alloc_chosen z w k t (Some c)).zone c.head k refl (free-taken z.area k t c) (found_free z.area.largest z.area.free k c.head (choose_found z.area k t c l.lists e))

-- a block out comes back
freed-moves : (z : PlainZone) (w p k : ℕ) → IsLawful z → is_out z w p k ≡ true → IsMove z (freed z (p - z.base) k) none (in_run p k)
freed-moves z w p k l e =
    let x : IsHolding z w (p - z.base) k = out_held z w p k e in
    let at : z.base + (p - z.base) ≡ p = omega (arith, (out-to z w p k e).0) in
    rw at at (move_back z (freed z (p - z.base) k) (p - z.base) k refl (free-give z.area (p - z.base) k) (held_block z w (p - z.base) k l x).inside
    (λ i r. held-not_free z w (p - z.base) k i l x r))

posted-moves : (z : PlainZone) (to h : ℕ) (o : Option Holding) → IsMove z (handed_on z to h o) none none
posted-moves z to h None = nothing z
posted-moves z to h (Some x) = move_none z (handed_on z to h (Some x)) refl refl

with_kind-moves : (z : PlainZone) (b : ℕ) (t : PageblockType) → IsMove z (with_kind z b t) none none
with_kind-moves z b t = move_none z (with_kind z b t) refl (free-retype z.area b t)

run-one : (a p : ℕ) → in_run a 0 p ≡ (p == a)
run-one a p = elim (cases_order a p) [
  | inl same ↦ rw (le-leb a p (omega arith), lt-ltb p (a + 2 ^ 0) (omega arith), eq-eqb p a (sym same)) refl
  | inr other ↦ elim other [
    | inl lt ↦ rw (le-leb a p (omega arith), le-ltb p (a + 2 ^ 0) (omega arith), ne_eqb p a (λ s. let bad : ⊥ = omega arith in bad)) refl
    | inr gt ↦ rw (lt-leb a p gt, ne_eqb p a (λ s. let bad : ⊥ = omega arith in bad)) refl
  ]
]

stands-one : (p a : ℕ) → stands_in p (a ∷ []) ≡ (p == a)
stands-one p a = or-false (p == a)

pub step_moves : (z : PlainZone) (w : ℕ) (q : Request) → IsLawful z → w < workers_of z → may_ask z w q ≡ true →
    IsMove z (step z w q).zone (handed_out q (step z w q).reply) (given_back q)
step_moves z w (Request.Alloc k t m) l lt e =
    alloc_by (λ o. IsMove z o.zone (handed_out (Request.Alloc k t m) o.reply) none) z w k t m (λ r. nothing z) (λ c e. chosen-moves z w k t c e l)
step_moves z w (Request.AllocLow k) l lt e = low_by (λ o. IsMove z o.zone (handed_out (Request.AllocLow k) o.reply) none) z w k (nothing z) (λ h e.
    move_out z (alloc_low_at z w k (Some h)).zone h k refl (free-leave z.area h k) (found_free z.area.largest z.area.free k h (take_low_found z.area k h e)))
step_moves z w (Request.Free p k) l lt e = freed-moves z w p k l e
step_moves z w (Request.Post p k to) l lt e = posted-moves z to (p - z.base) (holding_at z.out (p - z.base))
step_moves z w Request.Collect l lt e = collected_by (λ o. IsMove z o.zone none none) z w (nothing z) (λ p ps e. move_none z (collected z w (p ∷ ps)).zone refl refl)
step_moves z w (Request.Refill t m n) l lt e =
    refill_by (λ o. IsMove z o.zone (handed_out (Request.Refill t m n) o.reply) none) (λ y got. IsLawful y × (w < workers_of y) × IsMove z y (λ p. stands_in p got) none) w t m
    (λ y got c e i.
    let x = (alloc_chosen y w 0 t (Some c)).zone in
    let p = y.base + c.head in (
      chosen_lawful y w 0 t c e i.0 i.1,
      i.1,
      move_by z x (λ q. stands_in q got || in_run p 0 q) (λ q. stands_in q (got ++ p ∷ [])) none none
          (move_out_out z y x (λ q. stands_in q got) (in_run p 0) i.2 (chosen-moves y w 0 t c e i.0))
          (λ q. stands-append q got (p ∷ []) ∙ ap (λ b. stands_in q got || b) (stands-one q p ∙ sym (run-one p q))) (λ q. refl),
    ))
    (λ y r i. i.2) (λ y got i. i.2) z [] n (l, lt, nothing z)
step_moves z w (Request.Drain t ps) l lt e =
    let a = and_parts _ _ e in
    drained_by (λ y qs. IsMove y (drained y qs) none (λ p. stands_in p qs)) w (λ y k. nothing y) (λ y q qs k out rest.
    let x = freed y (q - y.base) 0 in
    move_by y (drained x qs) none none (λ p. in_run q 0 p || stands_in p qs) (λ p. stands_in p (q ∷ qs))
    (move_back_back y x (drained x qs) (in_run q 0) (λ p. stands_in p qs) (freed-moves y w q 0 k out) rest) (λ p. refl) (λ p. rw (run-one q p))) z ps a.0 a.1 l
step_moves z w (Request.Isolate b) l lt e =
    isolated_by (λ o. IsMove z o.zone (handed_out (Request.Isolate b) o.reply) none) z b (slice_get z.area.kinds b) (λ r. nothing z) (with_kind-moves z b Isolate)
step_moves z w (Request.Release b t) l lt e =
    released_by (λ o. IsMove z o.zone (handed_out (Request.Release b t) o.reply) none) z b t (slice_get z.area.kinds b) (λ r. nothing z)
    (with_kind-moves z b (pageblock_type t))
step_moves z w (Request.AllocRun n a m) l lt e =
    alloc_run_by (λ o. IsMove z o.zone (handed_out (Request.AllocRun n a m) o.reply) none) z w n a m (λ r. nothing z) (λ h x. run_taken_moves z w h n x)
step_moves z w (Request.AllocRunAt p n) l lt e =
    alloc_run_at_by (λ o. IsMove z o.zone (handed_out (Request.AllocRunAt p n) o.reply) none) z w p n (λ r. nothing z) (λ le x.
    let at : z.base + (p - z.base) ≡ p = omega arith in
    rw at at (run_taken_moves z w (p - z.base) n x))
step_moves z w (Request.FreeRun p n) l lt e =
    let x = may_free-to z w p n e in
    let at : z.base + (p - z.base) ≡ p = omega (arith, x.0) in
    rw at at (run_freed_moves z w (p - z.base) n l x.1)
