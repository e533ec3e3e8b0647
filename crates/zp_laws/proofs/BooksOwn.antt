-- What a worker's request does to its own part of the books is said by the request and its reply, and where a run is allocated by the types of the pageblocks.
use Rattle.std.proofs.Common.{ℕ, ◌+◌, ◌-◌, ◌≡◌, refl, sym, ◌∙◌, ap, arith, true, List, [], ◌∷◌, ◌++◌, length, Option, Some, None}
use Rattle.std.specs.Prelude.{slice_get, slice_set}
use Rattle.std.proofs.lemmas.Bool.{and_parts}
use Rattle.std.proofs.lemmas.Bool.Decides.{nat_tests}
use Rattle.std.proofs.lemmas.List.{map-set, length-append}
use Rattle.zp_model.specs.Entries.{Entry}
use Rattle.zp_model.specs.declared.request.Request.{Request}
use Rattle.zp_model.specs.declared.request.Reply.{Reply}
use Rattle.zp_model.specs.Area.{kind_at}
use Rattle.zp_model.specs.PageblockType.{noted_type}
use Rattle.zp_model.specs.Zone.{PlainZone, Holding}
use Rattle.zp_model.specs.Step.{freed, drained, step}
use Rattle.zp_model.specs.Run.{may_ask}
use Rattle.zp_model.specs.Books.{Books, Part, only, own, made_by, part, entry_of, entered, with_pages, without_pages, blocks_after_in, noted_in, type_of_page}
use Rattle.zp_model.specs.Runs.{hand_out_run}
use Rattle.zp_laws.proofs.BooksOut.{own_set}
use Rattle.zp_laws.proofs.Held.{out_held}
use Rattle.zp_laws.proofs.Outcomes.{alloc_by, low_by, collected_by, isolated_by, released_by, refill_by}
use Rattle.zp_laws.proofs.RunsOwn.{freed_own, taken_own}
use Rattle.zp_laws.proofs.RunSteps.{alloc_run_by, alloc_run_at_by}
use Rattle.zp_laws.proofs.Sameness.{step-same}

made_same : (e : Entry) (entries : List Entry) → made_by e.worker (entries ++ e ∷ []) ≡ made_by e.worker entries ++ e ∷ []
made_same e [] = grind (arith, nat_tests)
made_same e (x ∷ xs) = grind (arith, nat_tests, made_same e xs)

own_gone : (w h : ℕ) (out : List (Option Holding)) → own w (slice_set out h None) ≡ slice_set (own w out) h None
own_gone w h out = map-set (only w) out h None

-- the same where the page is answered by its absolute number
own-back : (x : Holding) (base h : ℕ) (out : List (Option Holding)) → own x.worker (slice_set out h (Some x)) ≡ slice_set (own x.worker out) (base + h - base) (Some x)
own-back x base h out = let e : base + h - base ≡ h = omega arith in rw e (own_set x out h)

own-drained_after : (w : ℕ) (z : PlainZone) (ps : List ℕ) → own w (drained z ps).out ≡ without_pages z.base ps (own w z.out)
own-drained_after w z [] = refl
own-drained_after w z (p ∷ ps) = own-drained_after w (freed z (p - z.base) 0) ps ∙ ap (without_pages z.base ps) (own_gone w (p - z.base) z.out)

-- one page more is out
with_pages-push : (base : ℕ) (x : Holding) (ps : List ℕ) (p : ℕ) (out : List (Option Holding)) →
    with_pages base x (ps ++ p ∷ []) out ≡ slice_set (with_pages base x ps out) (p - base) (Some x)
with_pages-push base x [] p out = refl
with_pages-push base x (q ∷ ps) p out = with_pages-push base x ps p (slice_set out (q - base) (Some x))

own-step_after : (w : ℕ) (z : PlainZone) (r : Request) → may_ask z w r ≡ true → own w (step z w r).zone.out ≡ blocks_after_in z z.base w r (step z w r).reply (own w z.out)
own-step_after w z (Request.Alloc k t m) e =
    alloc_by (λ o. own w o.zone.out ≡ blocks_after_in z z.base w (Request.Alloc k t m) o.reply (own w z.out)) z w k t m (λ r. refl)
    (λ c e. own-back (record { order = k; kind = t; worker = w }) z.base c.head z.out)
own-step_after w z (Request.AllocLow k) e =
    low_by (λ o. own w o.zone.out ≡ blocks_after_in z z.base w (Request.AllocLow k) o.reply (own w z.out)) z w k refl
    (λ h e. own-back (record { order = k; kind = noted_type (kind_at z.area.largest z.area.kinds h); worker = w }) z.base h z.out)
own-step_after w z (Request.Free p k) e = own_gone w (p - z.base) z.out
own-step_after w z (Request.Post p k to) e = let x = out_held z w p k (and_parts _ _ e).0 in rw x.at (own_gone w (p - z.base) z.out)
own-step_after w z Request.Collect e =
    collected_by (λ o. own w o.zone.out ≡ blocks_after_in z z.base w Request.Collect o.reply (own w z.out)) z w refl
    (λ p ps e. own-back (record { order = p.order; kind = p.kind; worker = w }) z.base p.head z.out)
own-step_after w z (Request.Refill t m n) e =
    let x : Holding = record { order = 0; kind = t; worker = w } in
    refill_by (λ o. own w o.zone.out ≡ blocks_after_in z z.base w (Request.Refill t m n) o.reply (own w z.out)) (λ y got. (y.base ≡ z.base) × (own w y.out ≡ with_pages z.base x got (own w z.out)))
    w t m
    (λ y got c e i.
    let b : y.base + c.head - z.base ≡ c.head = omega (arith, i.0) in
    (i.0, own_set x y.out c.head ∙ rw (with_pages-push z.base x got (y.base + c.head) (own w z.out), b, i.1)))
    (λ y r i. i.1) (λ y got i. i.1) z [] n (refl, refl)
own-step_after w z (Request.Drain t ps) e = own-drained_after w z ps
own-step_after w z (Request.Isolate b) e =
    isolated_by (λ o. own w o.zone.out ≡ blocks_after_in z z.base w (Request.Isolate b) o.reply (own w z.out)) z b (slice_get z.area.kinds b) (λ r. refl) refl
own-step_after w z (Request.Release b t) e =
    released_by (λ o. own w o.zone.out ≡ blocks_after_in z z.base w (Request.Release b t) o.reply (own w z.out)) z b t (slice_get z.area.kinds b) (λ r. refl) refl
own-step_after w z (Request.AllocRun n a m) e =
    alloc_run_by (λ o. own w o.zone.out ≡ blocks_after_in z z.base w (Request.AllocRun n a m) o.reply (own w z.out)) z w n a m (λ r. refl) (λ h x.
    let at : z.base + h - z.base ≡ h = omega arith in
    taken_own z w h n ∙ ap (λ g. (hand_out_run (record z { out = own w z.out }) w (type_of_page z) g n).out) (sym at))
own-step_after w z (Request.AllocRunAt p n) e =
    alloc_run_at_by (λ o. own w o.zone.out ≡ blocks_after_in z z.base w (Request.AllocRunAt p n) o.reply (own w z.out)) z w p n (λ r. refl)
    (λ le x. taken_own z w (p - z.base) n)
own-step_after w z (Request.FreeRun p n) e = freed_own z w (p - z.base) n

part_to : (w : ℕ) (r : Request) (b : Books) → (step b.plain w r).zone.base ≡ b.plain.base →
    own w (step b.plain w r).zone.out ≡ blocks_after_in b.plain b.plain.base w r (step b.plain w r).reply (own w b.plain.out) → part w (entered w r b) ≡ noted_in b.plain w r (step b.plain w r).reply (part w b)
part_to w r b x y = λ i. record { base = x i; blocks = y i; entries = made_same (entry_of b.plain w r) b.entries i }

-- a request that may be made does to its worker's own part what request and reply say
pub request_noted : (w : ℕ) (r : Request) (b : Books) → may_ask b.plain w r ≡ true → part w (entered w r b) ≡ noted_in b.plain w r (step b.plain w r).reply (part w b)
request_noted w r b e = part_to w r b (step-same b.plain w r).base (own-step_after w b.plain r e)

-- it makes one entry more
pub noted-entries : (z : PlainZone) (w : ℕ) (r : Request) (q : Reply) (s : Part) → length (noted_in z w r q s).entries ≡ length s.entries + 1
noted-entries z w r q s = length-append s.entries ((let e : Entry = record { worker = w; request = r; reply = q } in e) ∷ [])
