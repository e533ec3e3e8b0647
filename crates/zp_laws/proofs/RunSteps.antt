-- What a request for a run comes to: it is refused, or a run of free pages goes out, or one that is lent comes back.
use Rattle.std.proofs.Common.{ℕ, ◌+◌, ◌-◌, ◌≡◌, ◌≤◌, ◌<◌, refl, ◌∙◌, ap, arith, Bool, true, false, length, ◌&&◌, cond, leb, Option, Some, None}
use Rattle.std.specs.Option.{is_some}
use Rattle.std.proofs.lemmas.Bool.{and_parts, false_from_ne_true, leb-true}
use Rattle.zp_model.specs.declared.mark.Mark.{Mark}
use Rattle.zp_model.specs.declared.refused.Refused.{Refused}
use Rattle.zp_model.specs.declared.refused.Refused.TheVariants.{BadRun, BelowMark, NoBlock, NotFree}
use Rattle.zp_model.specs.declared.request.Reply.{Reply}
use Rattle.zp_model.specs.Area.{Area}
use Rattle.zp_model.specs.Block.{has}
use Rattle.zp_model.specs.Lawful.{IsLawful}
use Rattle.zp_model.specs.Mark.{pages_at_hand}
use Rattle.zp_model.specs.Runs.{block_around, give_run, has_pages, is_above_by, is_lent_run, is_run, is_within, kept_before, kept_from, lowest_run, may_free_run, run_freed, run_taken, without_blocks}
use Rattle.zp_model.specs.Step.{Outcome, alloc_run, alloc_run_at, alloc_run_found, refuse}
use Rattle.zp_model.specs.Zone.{PlainZone, Holding, pages_of, workers_of}
use Rattle.zp_model.proofs.LowestRun.{all-to, available-to, has_pages-to, lowest_found}
use Rattle.zp_model.proofs.RunParts.{length-with_pages, length-without_pages, within-from, within-to}
use Rattle.zp_laws.specs.FreePages.{IsMove, IsSameZone}
use Rattle.zp_laws.proofs.Areas.{free-give_run, free-leave_run, largest-give_run, largest-leave_run}
use Rattle.zp_laws.proofs.Around.{IsAround, around-from, around-to, some_around}
use Rattle.zp_laws.proofs.Counting.{one_if}
use Rattle.zp_laws.proofs.HandedOut.{out-has}
use Rattle.zp_laws.proofs.Keeping.{block-inside, one_place}
use Rattle.zp_laws.proofs.KeepingRuns.{IsFree, IsLent, freed_run_lawful, freed_run_rest, run_taken_rest}
use Rattle.zp_laws.proofs.Moves.{move_back_run, move_out_run, none}

-- a request for a run is refused, or one of free pages goes out
pub alloc_run_by : (P : Outcome → Type 0) (z : PlainZone) (w n a : ℕ) (m : Mark) → ((r : Refused) → P (refuse z r)) → ((h : ℕ) → IsFree z h n → P (alloc_run_found z w n (Some h))) →
    P (alloc_run z w n a m)
alloc_run_by P z w n a m none some =
    elim (is_above_by z.min (pages_at_hand z) n m) as (λ b. P (cond b (alloc_run_found z w n (lowest_run z n a)) (refuse z BelowMark))) [
      | true ↦ found (lowest_run z n a) refl
      | false ↦ none BelowMark
    ]
  where
    found : (o : Option ℕ) → lowest_run z n a ≡ o → P (alloc_run_found z w n o)
    found None e = none NoBlock
    found (Some h) e =
        let x = lowest_found z n a h e in
        let y = and_parts _ _ x.1 in
        some h (record {
          inside = x.0;
          full = λ i q. let r = within-to h n i q in (available-to z.area.largest z.area.kinds z.area.free i (has_pages-to _ h n y.1 i r.0 r.1)).0;
        })

pub alloc_run_at_by : (P : Outcome → Type 0) (z : PlainZone) (w p n : ℕ) → ((r : Refused) → P (refuse z r)) →
    (z.base ≤ p → IsFree z (p - z.base) n → P (record { reply = Reply.Page p; zone = run_taken z w (p - z.base) n })) → P (alloc_run_at z w p n)
alloc_run_at_by P z w p n none some =
    inside (leb z.base p && is_run (pages_of z) (p - z.base) n) refl
  where
    h : ℕ
    h = p - z.base

    taken : Outcome
    taken = record { reply = Reply.Page p; zone = run_taken z w h n }

    full : (t : Bool) → has_pages z.area.free h n ≡ t → z.base ≤ p → h + n ≤ pages_of z → P (cond t (record { reply = Reply.Page p; zone = run_taken z w h n }) (refuse z NotFree))
    full false e le room = none NotFree
    full true e le room = some le (record { inside = room; full = λ i q. let r = within-to h n i q in has_pages-to z.area.free h n e i r.0 r.1 })

    inside : (t : Bool) → (leb z.base p && is_run (pages_of z) h n) ≡ t →
        P (cond t (cond (has_pages z.area.free h n) (record { reply = Reply.Page p; zone = run_taken z w h n }) (refuse z NotFree)) (refuse z BadRun))
    inside false e = none BadRun
    inside true e =
        let a = and_parts (leb z.base p) (is_run (pages_of z) h n) e in
        let b = and_parts _ _ a.1 in
        full (has_pages z.area.free h n) refl (leb-true z.base p a.0) (leb-true (h + n) (pages_of z) b.1)

pub lent-to : (z : PlainZone) (w h n : ℕ) → 1 ≤ n → is_lent_run z w h n ≡ true → IsLent z w h n
unfolding is_lent_run
lent-to z w h n some e = record {
  some = some;
  around = λ i q.
      let r = within-to h n i q in
      let c = some_around z w i (all-to (λ i. is_some (block_around z w i)) h n e i r.0 r.1) in
      (c.0, around-to z w i c.0 c.1);
}

pub may_free-to : (z : PlainZone) (w p n : ℕ) → may_free_run z w p n ≡ true → (z.base ≤ p) × IsLent z w (p - z.base) n
may_free-to z w p n e =
    let a = and_parts _ _ e in
    let b = and_parts _ _ a.0 in
    (leb-true z.base p b.0, lent-to z w (p - z.base) n (leb-true 1 n b.1) a.1)

-- a run that is lent comes back: there are blocks around its first page and its last
pub free_run_by : (P : PlainZone → Type 0) (z : PlainZone) (w h n : ℕ) → IsLawful z → IsLent z w h n →
    ((b e : ℕ × Holding) → IsAround z.out w h b → IsAround z.out w (h + n - 1) e →
    P (kept_from (kept_before (without_blocks (record z { area = give_run z.area h n }) h n) w h (Some b)) w (h + n) (Some e))) → P (run_freed z w h n)
free_run_by P z w h n l x some =
    let b = x.around h (within-from h n h (omega arith) (omega (arith, x.some))) in
    let e = x.around (h + n - 1) (within-from h n (h + n - 1) (omega (arith, x.some)) (omega (arith, x.some))) in
    rw (around-from z l w h b.0 b.1, around-from z l w (h + n - 1) e.0 e.1) (some b.0 e.0 b.1 e.1)

pub run_freed_lawful : (z : PlainZone) → IsLawful z → (w h n : ℕ) → w < workers_of z → IsLent z w h n → IsLawful (run_freed z w h n)
run_freed_lawful z l w h n lt x = free_run_by IsLawful z w h n l x (λ b e s t. freed_run_lawful z l w h n x b e s t lt)

-- the free pages move
pub run_taken_moves : (z : PlainZone) (w h n : ℕ) → IsFree z h n → IsMove z (run_taken z w h n) (is_within (z.base + h) n) none
run_taken_moves z w h n x =
    let r = run_taken_rest z w h n in
    move_out_run z (run_taken z w h n) h n r.base (ap (λ (a : Area). a.free) r.area ∙ free-leave_run z.area h n) x.full

-- no page that is lent is free
pub lent-not_free : (z : PlainZone) (w i : ℕ) (c : ℕ × Holding) → IsLawful z → IsAround z.out w i c → has z.area.free i ≡ false
lent-not_free z w i c l x = false_from_ne_true (has z.area.free i) (λ e.
    let b = block-inside z.area.largest (pages_of z) c.0 c.1.order i (l.out c.0 c.1 x.at).0 x.page in
    let free : one_if (has z.area.free i) ≡ 1 = ap one_if e in
    let bad : ⊥ = omega (arith, out-has z.out c.0 i c.1 x.at x.page, one_place z l i b.2) in
    bad)

-- a run that is lent lies in the zone
pub lent_inside : (z : PlainZone) (w h n : ℕ) → IsLawful z → IsLent z w h n → h + n ≤ pages_of z
lent_inside z w h n l x =
    let e = x.around (h + n - 1) (within-from h n (h + n - 1) (omega (arith, x.some)) (omega (arith, x.some))) in
    let b = block-inside z.area.largest (pages_of z) e.0.0 e.0.1.order (h + n - 1) (l.out e.0.0 e.0.1 e.1.at).0 e.1.page in
    omega (arith, b.2, x.some)

pub run_freed_moves : (z : PlainZone) (w h n : ℕ) → IsLawful z → IsLent z w h n → IsMove z (run_freed z w h n) none (is_within (z.base + h) n)
run_freed_moves z w h n l x =
    let r = freed_run_rest z w h n in
    move_back_run z (run_freed z w h n) h n r.base (ap (λ (a : Area). a.free) r.area ∙ free-give_run z.area h n) (lent_inside z w h n l x)
    (λ i q. let c = x.around i q in lent-not_free z w i c.0 l c.1)

-- what no request for a run changes
pub run_taken-same : (z : PlainZone) (w h n : ℕ) → IsSameZone z (run_taken z w h n)
run_taken-same z w h n =
    let r = run_taken_rest z w h n in
    record {
      largest = ap (λ (a : Area). a.largest) r.area ∙ largest-leave_run z.area h n;
      pages = ap (λ (a : Area). length a.free) r.area ∙ ap length (free-leave_run z.area h n) ∙ length-without_pages z.area.free h n;
      base = r.base;
      min = r.min;
      workers = ap length r.posted;
    }

pub run_freed-same : (z : PlainZone) (w h n : ℕ) → IsSameZone z (run_freed z w h n)
run_freed-same z w h n =
    let r = freed_run_rest z w h n in
    record {
      largest = ap (λ (a : Area). a.largest) r.area ∙ largest-give_run z.area h n;
      pages = ap (λ (a : Area). length a.free) r.area ∙ ap length (free-give_run z.area h n) ∙ length-with_pages z.area.free h n;
      base = r.base;
      min = r.min;
      workers = ap length r.posted;
    }
