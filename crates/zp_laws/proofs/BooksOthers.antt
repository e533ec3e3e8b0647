-- No request changes what is other workers'.
use Rattle.std.proofs.Common.{ℕ, ◌-◌, ◌≡◌, ◌≢◌, ◌<◌, refl, ◌∙◌, ap, arith, true, List, [], ◌∷◌, ◌++◌, None}
use Rattle.std.specs.Prelude.{slice_get, slice_set}
use Rattle.std.proofs.lemmas.Bool.{and_parts}
use Rattle.std.proofs.lemmas.Bool.Decides.{nat_tests}
use Rattle.zp_model.specs.Entries.{Entry}
use Rattle.zp_model.specs.declared.request.Request.{Request}
use Rattle.zp_model.specs.Area.{kind_at}
use Rattle.zp_model.specs.PageblockType.{noted_type}
use Rattle.zp_model.specs.Zone.{PlainZone, workers_of}
use Rattle.zp_model.specs.Step.{drained, step}
use Rattle.zp_model.specs.Run.{may_ask}
use Rattle.zp_model.specs.Lawful.{IsLawful}
use Rattle.zp_model.specs.Books.{Books, only, own, made_by, part, entry_of, entered}
use Rattle.zp_laws.proofs.BooksOut.{only_other, own_other, own-taken}
use Rattle.zp_laws.proofs.Held.{IsHolding, out_held}
use Rattle.zp_laws.proofs.Keeping.{posted_place}
use Rattle.zp_laws.proofs.Outcomes.{alloc_by, low_by, collected_by, isolated_by, released_by, refill_by}
use Rattle.zp_laws.proofs.RunBooks.{freed_others, taken_lent}
use Rattle.zp_laws.proofs.RunSteps.{alloc_run_by, alloc_run_at_by, may_free-to}
use Rattle.zp_laws.proofs.Sameness.{step-same}
use Rattle.zp_laws.proofs.StaysOut.{chosen_place, low_place}
use Rattle.zp_laws.proofs.Steps.{chosen_lawful, drained_by}

-- the books' part of one worker, by what it is made of
part_by : (u : ℕ) (b d : Books) → d.plain.base ≡ b.plain.base → own u d.plain.out ≡ own u b.plain.out → made_by u d.entries ≡ made_by u b.entries → part u d ≡ part u b
part_by u b d x y z = λ i. record { base = x i; blocks = y i; entries = z i }

-- an entry is its worker's own
made_other : (u : ℕ) (e : Entry) (entries : List Entry) → u ≢ e.worker → made_by u (entries ++ e ∷ []) ≡ made_by u entries
made_other u e [] ne = grind (arith, nat_tests)
made_other u e (x ∷ xs) ne = grind (arith, nat_tests, made_other u e xs ne)

-- another's block is out no more
own-left : (z : PlainZone) (u w h k : ℕ) → IsHolding z w h k → u ≢ w → own u (slice_set z.out h None) ≡ own u z.out
own-left z u w h k x ne = own_other u z.out h None refl (ap (only u) x.at ∙ only_other u x.holding (λ e. ne (e ∙ x.worker)))

own-step : (u w : ℕ) (z : PlainZone) (r : Request) → IsLawful z → w < workers_of z → may_ask z w r ≡ true → u ≢ w → own u (step z w r).zone.out ≡ own u z.out
own-step u w z (Request.Alloc k t m) l lt e ne =
    alloc_by (λ o. own u o.zone.out ≡ own u z.out) z w k t m (λ r. refl) (λ c e. own-taken u c.head z.out (record { order = k; kind = t; worker = w }) ne (chosen_place z k t c e l).1)
own-step u w z (Request.AllocLow k) l lt e ne = low_by (λ o. own u o.zone.out ≡ own u z.out) z w k refl (λ h e.
    own-taken u h z.out (record { order = k; kind = noted_type (kind_at z.area.largest z.area.kinds h); worker = w }) ne (low_place z k h e l).1)
own-step u w z (Request.Free p k) l lt e ne = own-left z u w (p - z.base) k (out_held z w p k e) ne
own-step u w z (Request.Post p k to) l lt e ne =
    let x = out_held z w p k (and_parts _ _ e).0 in
    rw x.at (own-left z u w (p - z.base) k x ne)
own-step u w z Request.Collect l lt e ne = collected_by (λ o. own u o.zone.out ≡ own u z.out) z w refl (λ p ps e.
    own-taken u p.head z.out (record { order = p.order; kind = p.kind; worker = w }) ne (posted_place z l w p ps e lt).1)
own-step u w z (Request.Refill t m n) l lt e ne =
    refill_by (λ o. own u o.zone.out ≡ own u z.out) (λ y got. IsLawful y × (w < workers_of y) × (own u y.out ≡ own u z.out)) w t m
    (λ y got c e i.
    (chosen_lawful y w 0 t c e i.0 i.1, i.1, own-taken u c.head y.out (record { order = 0; kind = t; worker = w }) ne (chosen_place y 0 t c e i.0).1 ∙ i.2))
    (λ y r i. i.2) (λ y got i. i.2) z [] n (l, lt, refl)
own-step u w z (Request.Drain t ps) l lt e ne =
    let a = and_parts _ _ e in
    drained_by (λ y qs. own u (drained y qs).out ≡ own u y.out) w (λ y k. refl) (λ y p qs k out r. r ∙ own-left y u w (p - y.base) 0 (out_held y w p 0 out) ne) z ps a.0 a.1 l
own-step u w z (Request.Isolate b) l lt e ne = isolated_by (λ o. own u o.zone.out ≡ own u z.out) z b (slice_get z.area.kinds b) (λ r. refl) refl
own-step u w z (Request.Release b t) l lt e ne = released_by (λ o. own u o.zone.out ≡ own u z.out) z b t (slice_get z.area.kinds b) (λ r. refl) refl
own-step u w z (Request.AllocRun n a m) l lt e ne = alloc_run_by (λ o. own u o.zone.out ≡ own u z.out) z w n a m (λ r. refl) (λ h x. (taken_lent z l w h n lt x).others u ne)
own-step u w z (Request.AllocRunAt p n) l lt e ne =
    alloc_run_at_by (λ o. own u o.zone.out ≡ own u z.out) z w p n (λ r. refl) (λ le x. (taken_lent z l w (p - z.base) n lt x).others u ne)
own-step u w z (Request.FreeRun p n) l lt e ne = freed_others z l w (p - z.base) n lt (may_free-to z w p n e).1 u ne

-- a request that may be made leaves what is other workers'
pub request_others : (u w : ℕ) (r : Request) (b : Books) → IsLawful b.plain → w < workers_of b.plain → may_ask b.plain w r ≡ true → u ≢ w → part u (entered w r b) ≡ part u b
request_others u w r b l lt e ne =
    part_by u b (entered w r b) (step-same b.plain w r).base (own-step u w b.plain r l lt e ne) (made_other u (entry_of b.plain w r) b.entries ne)
