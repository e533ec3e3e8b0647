-- What a run that goes out, or comes back, leaves of what is out, for the calls after it.
use Rattle.std.proofs.Common.{ℕ, ◌+◌, ◌-◌, ◌^◌, ◌≡◌, ◌≤◌, ◌<◌, refl, sym, ◌∙◌, ap, arith, Bool, true, false, cond, leb, ◌&&◌, Option, Some, None}
use Rattle.std.specs.Option.{is_some, option_map}
use Rattle.std.proofs.lemmas.Bool.{and_from, both_ways, eq-eqb, false_from_ne_true, le-leb}
use Rattle.zp_model.specs.declared.request.Request.{Request}
use Rattle.zp_model.specs.Area.{Area}
use Rattle.zp_model.specs.Block.{has}
use Rattle.zp_model.specs.Lawful.{IsLawful}
use Rattle.zp_model.specs.Run.{is_out}
use Rattle.zp_model.specs.Runs.{block_around, is_lent_run, may_free_run, run_freed, run_taken}
use Rattle.zp_model.specs.Step.{step}
use Rattle.zp_model.specs.Zone.{PlainZone, Holding, is_of, holds, pages_of, workers_of}
use Rattle.zp_model.proofs.LowestRun.{all-from, all-to}
use Rattle.zp_model.proofs.Pages.{in_run-from}
use Rattle.zp_model.proofs.RunParts.{length-with_pages, with_pages-new, within-from, within-to}
use Rattle.zp_laws.specs.KeptRuns.{lent_type}
use Rattle.zp_laws.proofs.Areas.{free-give_run}
use Rattle.zp_laws.proofs.Around.{IsAround, around-from}
use Rattle.zp_laws.proofs.HandedOut.{in_run-head}
use Rattle.zp_laws.proofs.Held.{IsHolding, held-not_free, held-to, held_block, out-to, out_held}
use Rattle.zp_laws.proofs.KeepingRuns.{IsFree, IsLent, freed_run_rest, run_taken_lawful, run_taken_rest}
use Rattle.zp_laws.proofs.RunBooks.{run_step_lent, taken_lent}
use Rattle.zp_laws.proofs.RunSteps.{lent_inside, may_free-to, run_freed_lawful}
use Rattle.zp_zone.specs.NamedZone.{AreFresh, KeepsLentBut, KeepsOut}

-- no block out starts in a run of free pages
pub free_fresh : (z : PlainZone) (h n : ℕ) → IsLawful z → IsFree z h n → AreFresh z (z.base + h) n
free_fresh z h n l x q r v k = false_from_ne_true (is_out z v q k) (λ e.
    let y : IsHolding z v (q - z.base) k = out_held z v q k e in
    let s = within-to (z.base + h) n q r in
    both_ways (has z.area.free (q - z.base)) (held-not_free z v (q - z.base) k (q - z.base) l y (in_run-head (q - z.base) k))
    (x.full (q - z.base) (within-from h n (q - z.base) (omega (arith, s.0)) (omega (arith, s.0, s.1)))))

-- a run of free pages goes out
module _ (z : PlainZone) (l : IsLawful z) (w h n : ℕ) (lt : w < workers_of z) (x : IsFree z h n) where
  -- the blocks that are out stay out
  pub taken_keeps : KeepsOut z (run_taken z w h n)
  taken_keeps v p k e =
      let i : ℕ = p - z.base in
      let y : IsHolding z v i k = out_held z v p k e in
      let around : IsAround z.out v i (i, y.holding) = record { at = y.at; worker = y.worker; page = in_run-head i y.holding.order } in
      let still = (taken_lent z l w h n lt x).kept v i (i, y.holding) around in
      let base = (run_taken_rest z w h n).base in
      rw base (and_from _ _ (le-leb z.base p (out-to z v p k e).0)
      (ap (is_of v k) still.at ∙ and_from _ _ (eq-eqb y.holding.order k y.order) (eq-eqb y.holding.worker v y.worker)))

  -- its pages are lent
  pub taken_lends : 1 ≤ n → may_free_run (run_taken z w h n) w (z.base + h) n ≡ true
  unfolding is_lent_run
  taken_lends some =
      let y : PlainZone = run_taken z w h n in
      let base : (run_taken z w h n).base ≡ z.base = (run_taken_rest z w h n).base in
      let at : z.base + h - z.base ≡ h = omega arith in
      rw (base, at) (and_from _ _ (and_from _ _ (le-leb z.base (z.base + h) (omega arith)) (le-leb 1 n some))
      (all-from (λ i. is_some (block_around (run_taken z w h n) w i)) h n (λ i lo hi.
      let c = (taken_lent z l w h n lt x).new i (within-from h n i lo hi) in
      ap is_some (around-from (run_taken z w h n) (run_taken_lawful z w h n l lt x) w i c.0 c.1))))

-- a run that is lent comes back: its pages are free
pub freed_free : (z : PlainZone) (w h n : ℕ) → IsLawful z → IsLent z w h n → IsFree (run_freed z w h n) h n
freed_free z w h n l x =
    let r = freed_run_rest z w h n in
    let inside = lent_inside z w h n l x in
    record {
      inside = rw (ap (λ (a : Area). a.free) r.area, free-give_run z.area h n, length-with_pages z.area.free h n) inside;
      full = λ i q.
          let s = within-to h n i q in
          ap (λ (a : Area). has a.free i) r.area ∙ ap (λ u. has u i) (free-give_run z.area h n) ∙ with_pages-new z.area.free h n i (omega (arith, s.1, inside)) s.0 s.1;
    }

-- one page is lent where there is a type for which it is
lent_one : (z : PlainZone) (w q : ℕ) → may_free_run z w q 1 ≡ is_some (lent_type z w q)
unfolding is_lent_run
lent_one z w q = parts (leb z.base q) (block_around z w (q - z.base))
  where
    parts : (a : Bool) (o : Option (ℕ × Holding)) → ((a && leb 1 1) && (is_some o && true)) ≡ is_some (cond a (option_map (λ (b : ℕ × Holding). b.1.kind) o) None)
    parts true None = refl
    parts true (Some b) = refl
    parts false None = refl
    parts false (Some b) = refl

module _ (z : PlainZone) (w p n : ℕ) (l : IsLawful z) (lt : w < workers_of z) (lent : may_free_run z w p n ≡ true) where
  pub freed_gone : AreFresh (step z w (Request.FreeRun p n)).zone p n
  freed_gone =
      let x = may_free-to z w p n lent in
      let h : ℕ = p - z.base in
      let y : PlainZone = run_freed z w (p - z.base) n in
      let at : (run_freed z w (p - z.base) n).base + (p - z.base) ≡ p = rw (freed_run_rest z w h n).base (omega (arith, x.0)) in
      rw at at (free_fresh y h n (run_freed_lawful z l w h n lt x.1) (freed_free z w h n l x.1))

  pub freed_keeps : KeepsLentBut w p n z (step z w (Request.FreeRun p n)).zone
  freed_keeps q out e =
      let y : PlainZone = (step z w (Request.FreeRun p n)).zone in
      lent_one (step z w (Request.FreeRun p n)).zone w q ∙ ap is_some (run_step_lent z w (Request.FreeRun p n) q l lt lent tt ∙ rw out refl) ∙ sym (lent_one z w q) ∙ e

-- a page of a block that is out to a worker is lent
pub lent_block : (z : PlainZone) (w h k j : ℕ) → IsLawful z → holds z w h k ≡ true → h ≤ j → j < h + 2 ^ k → is_some (block_around z w j) ≡ true
lent_block z w h k j l e lo hi =
    let x : IsHolding z w h k = held-to z w h k e in
    let b : ℕ × Holding = (h, x.holding) in
    ap is_some (around-from z l w j b (record { at = x.at; worker = x.worker; page = rw x.order (in_run-from h k j lo hi) }))

-- such a block lies in the zone
pub lent_inside_zone : (z : PlainZone) (w h k : ℕ) → IsLawful z → holds z w h k ≡ true → h + 2 ^ k ≤ pages_of z
lent_inside_zone z w h k l e = (held_block z w h k l (held-to z w h k e)).inside

-- so is a run where each of its pages is
pub lent_all : (z : PlainZone) (w h n : ℕ) → ((i : ℕ) → h ≤ i → i < h + n → is_some (block_around z w i) ≡ true) → is_lent_run z w h n ≡ true
unfolding is_lent_run
lent_all z w h n f = all-from (λ i. is_some (block_around z w i)) h n f

-- and none is of which a page is not
pub lent_not : (z : PlainZone) (w h n i : ℕ) → h ≤ i → i < h + n → block_around z w i ≡ None → is_lent_run z w h n ≡ false
unfolding is_lent_run
lent_not z w h n i lo hi none = false_from_ne_true _ (λ e. both_ways _ (ap is_some none) (all-to (λ i. is_some (block_around z w i)) h n e i lo hi))

-- a run that is lent lies in the zone
pub may_not : (z : PlainZone) (w p n : ℕ) → IsLawful z → (z.base ≤ p → 0 < n → p - z.base + n ≤ pages_of z → ⊥) → may_free_run z w p n ≡ false
may_not z w p n l outside = false_from_ne_true _ (λ e.
    let x = may_free-to z w p n e in
    outside x.0 (omega (arith, x.1.some)) (lent_inside z w (p - z.base) n l x.1))

-- where the run lies in the zone, its pages tell
pub may_where : (z : PlainZone) (w p n h : ℕ) → z.base ≤ p → 0 < n → h ≡ p - z.base → is_lent_run z w h n ≡ may_free_run z w p n
may_where z w p n h le some at = rw (at, le-leb z.base p le, le-leb 1 n (omega arith)) refl
