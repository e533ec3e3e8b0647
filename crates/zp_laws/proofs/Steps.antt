-- Each step that is defined keeps a lawful zone lawful, and so does a legal list of entries.
use Rattle.std.proofs.Common.{ℕ, ◌-◌, ◌≡◌, ◌≤◌, ◌<◌, ◌==◌, refl, sym, ◌∙◌, ap, arith, Bool, true, false, List, [], ◌∷◌, length, Option, Some, None}
use Rattle.std.specs.Prelude.{slice_get}
use Rattle.std.specs.List.{list_all}
use Rattle.std.proofs.lemmas.Bool.{and_parts, and_from, ltb-true, eq-eqb, not-true, or_parts, both_ways, le-leb}
use Rattle.std.proofs.lemmas.List.{length-set, get_or-set_other}
use Rattle.zp_model.specs.declared.migrate_type.MigrateType.{MigrateType}
use Rattle.zp_model.specs.declared.pageblock_type.PageblockType.{PageblockType}
use Rattle.zp_model.specs.declared.pageblock_type.PageblockType.TheVariants.{Isolate}
use Rattle.zp_model.specs.declared.mark.Mark.{Mark}
use Rattle.zp_model.specs.Entries.{Entry}
use Rattle.zp_model.specs.declared.request.Request.{Request}
use Rattle.zp_model.specs.Area.{kind_at}
use Rattle.zp_model.specs.PageblockType.{noted_type, pageblock_type}
use Rattle.zp_model.specs.Block.{with_run}
use Rattle.zp_model.specs.Choose.{Chosen, choose}
use Rattle.zp_model.specs.Rows.{stands_in}
use Rattle.zp_model.specs.Take.{taken, leave, give, take_low_answer}
use Rattle.zp_model.specs.Zone.{PlainZone, Holding, holding_at, posted_to, is_of, workers_of}
use Rattle.zp_model.specs.Step.{alloc, alloc_chosen, alloc_low_at, freed, handed_on, collected, refill, drained, with_kind, step}
use Rattle.zp_model.specs.Run.{may_ask, is_out, is_distinct, run, IsLegal}
use Rattle.zp_model.specs.Lawful.{IsLawful}
use Rattle.zp_laws.proofs.Areas.{free-taken, largest-taken, kinds-taken, lists-taken, free-leave, largest-leave, kinds-leave, lists-leave, free-give, largest-give, kinds-give, lists-give, free-retype, largest-retype, kinds-retype, lists-retype}
use Rattle.zp_laws.proofs.Choosing.{choose_found, take_low_found}
use Rattle.zp_laws.proofs.HandedOut.{times-parts}
use Rattle.zp_laws.proofs.Held.{IsHolding, out-to, out_held}
use Rattle.zp_laws.proofs.Keeping.{goes_out, comes_back, posted_lawful, front_lawful}
use Rattle.zp_laws.proofs.KeepingRuns.{run_taken_lawful}
use Rattle.zp_laws.proofs.RunSteps.{alloc_run_by, alloc_run_at_by, may_free-to, run_freed_lawful}
use Rattle.zp_laws.proofs.Outcomes.{alloc_by, low_by, collected_by, isolated_by, released_by, refill_by}

-- a block that is chosen goes out
pub chosen_lawful : (z : PlainZone) (w k : ℕ) (t : MigrateType) (c : Chosen) → choose z.area k t ≡ Some c → IsLawful z → w < workers_of z → IsLawful (alloc_chosen z w k t (Some c)).zone
chosen_lawful z w k t c e l lt =
    goes_out z l (taken z.area k t (Some c)) w c.head k t lt (choose_found z.area k t c l.lists e) (lists-taken z.area k t c l.lists) (largest-taken z.area k t c)
    (free-taken z.area k t c) (kinds-taken z.area k t c)

pub alloc_lawful : (z : PlainZone) (w k : ℕ) (t : MigrateType) (m : Mark) → IsLawful z → w < workers_of z → IsLawful (alloc z w k t m).zone
alloc_lawful z w k t m l lt = alloc_by (λ o. IsLawful o.zone) z w k t m (λ r. l) (λ c e. chosen_lawful z w k t c e l lt)

pub alloc_low_lawful : (z : PlainZone) (w k : ℕ) → IsLawful z → w < workers_of z → IsLawful (alloc_low_at z w k (take_low_answer z.area k)).zone
alloc_low_lawful z w k l lt = low_by (λ o. IsLawful o.zone) z w k l (λ h e.
    goes_out z l (leave z.area h k) w h k (noted_type (kind_at z.area.largest z.area.kinds h)) lt (take_low_found z.area k h e) (lists-leave z.area h k l.lists) (largest-leave z.area h k)
    (free-leave z.area h k) (ap length (kinds-leave z.area h k)))

pub freed_lawful : (z : PlainZone) (w h k : ℕ) → IsLawful z → IsHolding z w h k → IsLawful (freed z h k)
freed_lawful z w h k l x =
    comes_back z l (give z.area h k) h x.holding x.at (lists-give z.area h k l.lists) (largest-give z.area h k)
    (free-give z.area h k ∙ ap (λ (n : ℕ). with_run z.area.free h n) (sym x.order)) (ap length (kinds-give z.area h k))

pub post_lawful : (z : PlainZone) (to h : ℕ) → IsLawful z → to < workers_of z → IsLawful (handed_on z to h (holding_at z.out h))
post_lawful z to h l lt = go (holding_at z.out h) refl
  where
    go : (o : Option Holding) → holding_at z.out h ≡ o → IsLawful (handed_on z to h o)
    go None e = l
    go (Some x) e = posted_lawful z l to h x e lt

pub collect_lawful : (z : PlainZone) (w : ℕ) → IsLawful z → w < workers_of z → IsLawful (collected z w (posted_to z w)).zone
collect_lawful z w l lt = collected_by (λ o. IsLawful o.zone) z w l (λ p ps e. front_lawful z l w p ps e lt)

pub refill_lawful : (z : PlainZone) (w : ℕ) (t : MigrateType) (m : Mark) (got : List ℕ) (n : ℕ) → IsLawful z → w < workers_of z → IsLawful (refill z w t m got n).zone
refill_lawful z w t m got n l lt =
    refill_by (λ o. IsLawful o.zone) (λ y got. IsLawful y × (w < workers_of y)) w t m (λ y got c e i. (chosen_lawful y w 0 t c e i.0 i.1, i.1)) (λ y r i. i.0) (λ y got i. i.0) z got n (l, lt)

-- a block out at another page stays out when one comes back
pub still_out : (z : PlainZone) (w p k q j : ℕ) → z.base ≤ p → (q ≡ p → ⊥) → is_out z w q j ≡ true → is_out (freed z (p - z.base) k) w q j ≡ true
still_out z w p k q j le ne e =
    let o = out-to z w q j e in
    let apart : (q - z.base) ≡ (p - z.base) → ⊥ = λ s. ne (omega (arith, o.0)) in
    and_from _ _ (le-leb z.base q o.0)
    (ap (λ (v : Option Holding). is_of w j v) (get_or-set_other z.out (p - z.base) (q - z.base) None None apart) ∙ o.1)

-- a test that passes at all of a list where another does
all_kept : (f g : ℕ → Bool) (p : ℕ) (ps : List ℕ) → stands_in p ps ≡ false → ((q : ℕ) → (q ≡ p → ⊥) → f q ≡ true → g q ≡ true) → list_all f ps ≡ true → list_all g ps ≡ true
all_kept f g p [] s keep e = refl
all_kept f g p (q ∷ ps) s keep e =
    let a = and_parts _ _ e in
    let b = or_parts _ _ s in
    and_from _ _ (keep q (λ same. both_ways (p == q) b.0 (eq-eqb p q (sym same))) a.0) (all_kept f g p ps b.1 keep a.1)

-- what holds where nothing is left to give back, and of each page and the rest where it holds of the rest, holds of all pages given back
pub drained_by : (Q : PlainZone → List ℕ → Type 0) (w : ℕ) → ((y : PlainZone) → IsLawful y → Q y []) →
    ((y : PlainZone) (p : ℕ) (ps : List ℕ) → IsLawful y → is_out y w p 0 ≡ true → Q (freed y (p - y.base) 0) ps → Q y (p ∷ ps)) →
    (z : PlainZone) (ps : List ℕ) → list_all (λ p. is_out z w p 0) ps ≡ true → is_distinct ps ≡ true → IsLawful z → Q z ps
drained_by Q w none more z [] e d l = none z l
drained_by Q w none more z (p ∷ ps) e d l =
    let a = and_parts _ _ e in
    let b = and_parts _ _ d in
    let y = freed z (p - z.base) 0 in
    more z p ps l a.0 (drained_by Q w none more y ps
    (all_kept (λ q. is_out z w q 0) (λ q. is_out y w q 0) p ps (not-true _ b.0) (λ q ne out. still_out z w p 0 q 0 (out-to z w p 0 a.0).0 ne out) a.1) b.1
    (freed_lawful z w (p - z.base) 0 l (out_held z w p 0 a.0)))

-- no page leaves its place when a pageblock gets another type
retyped_lawful : (z : PlainZone) (b : ℕ) (t : PageblockType) → IsLawful z → IsLawful (with_kind z b t)
retyped_lawful z b t l = record {
  places = l.places ∙ sym (ap length (free-retype z.area b t));
  kinds = rw (free-retype z.area b t, largest-retype z.area b t, kinds-retype z.area b t) (length-set z.area.kinds b t ∙ l.kinds);
  out = rw (free-retype z.area b t, largest-retype z.area b t) l.out;
  posted = rw (free-retype z.area b t, largest-retype z.area b t) l.posted;
  once = λ i lt. times-parts (with_kind z b t) i ∙ rw (free-retype z.area b t) (sym (times-parts z i) ∙ l.once i (rw (free-retype z.area b t) at lt));
  lists = lists-retype z.area b t l.lists;
}

pub step_lawful : (z : PlainZone) (w : ℕ) (q : Request) → IsLawful z → w < workers_of z → may_ask z w q ≡ true → IsLawful (step z w q).zone
step_lawful z w (Request.Alloc k t m) l lt e = alloc_lawful z w k t m l lt
step_lawful z w (Request.AllocLow k) l lt e = alloc_low_lawful z w k l lt
step_lawful z w (Request.Free p k) l lt e = freed_lawful z w (p - z.base) k l (out_held z w p k e)
step_lawful z w (Request.Post p k to) l lt e = post_lawful z to (p - z.base) l (ltb-true to (workers_of z) (and_parts _ _ e).1)
step_lawful z w Request.Collect l lt e = collect_lawful z w l lt
step_lawful z w (Request.Refill t m n) l lt e = refill_lawful z w t m [] n l lt
step_lawful z w (Request.Drain t ps) l lt e = let a = and_parts _ _ e in drained_by (λ y qs. IsLawful (drained y qs)) w (λ y k. k) (λ y p qs k out r. r) z ps a.0 a.1 l
step_lawful z w (Request.Isolate b) l lt e = isolated_by (λ o. IsLawful o.zone) z b (slice_get z.area.kinds b) (λ r. l) (retyped_lawful z b Isolate l)
step_lawful z w (Request.Release b t) l lt e =
    released_by (λ o. IsLawful o.zone) z b t (slice_get z.area.kinds b) (λ r. l) (retyped_lawful z b (pageblock_type t) l)
step_lawful z w (Request.AllocRun n a m) l lt e = alloc_run_by (λ o. IsLawful o.zone) z w n a m (λ r. l) (λ h x. run_taken_lawful z w h n l lt x)
step_lawful z w (Request.AllocRunAt p n) l lt e = alloc_run_at_by (λ o. IsLawful o.zone) z w p n (λ r. l) (λ le x. run_taken_lawful z w (p - z.base) n l lt x)
step_lawful z w (Request.FreeRun p n) l lt e = run_freed_lawful z l w (p - z.base) n lt (may_free-to z w p n e).1

pub run_lawful : (z : PlainZone) (es : List Entry) → IsLawful z → IsLegal z es → IsLawful (run z es)
run_lawful z [] l legal = l
run_lawful z (e ∷ es) l legal = let d = (legal.0).0 in run_lawful (step z e.worker e.request).zone es (step_lawful z e.worker e.request l d.0 d.1) legal.1
