-- Each page of a lawful zone lies in a block that is noted.
use Rattle.std.proofs.Common.{ℕ, suc, ◌+◌, ◌-◌, ◌≡◌, ◌≤◌, ◌<◌, inl, inr, refl, sym, ◌∙◌, ap, subst, arith, Bool, true, false, List, [], ◌∷◌, length, get_or, Option, Some, None}
use Rattle.std.specs.Prelude.{slice_get}
use Rattle.std.specs.List.{range_with_len, sum_by, count_by}
use Rattle.std.proofs.lemmas.Bool.{cases_lt, false≢true}
use Rattle.std.proofs.lemmas.List.Sums.{sum_by-cons}
use Rattle.zp_model.specs.declared.state.State.{State}
use Rattle.zp_model.specs.declared.state.State.TheVariants.{Free, Out, Posted}
use Rattle.zp_model.specs.Block.{has, in_run}
use Rattle.zp_model.specs.Described.{IsNoted}
use Rattle.zp_model.specs.Lawful.{IsLawful, holding_has, times_out, times_posted}
use Rattle.zp_model.specs.Zone.{PlainZone, Holding, PostedBlock, holding_at, pages_of, posted_to}
use Rattle.zp_model.proofs.MaximalBlocks.{each_page_in_one_block}
use Rattle.zp_model.proofs.Pages.{in_run-from, in_run-to}
use Rattle.zp_laws.proofs.Counting.{one_if}
use Rattle.zp_laws.proofs.HandedOut.{count_posted, times-parts}
use Rattle.zp_zone.specs.NamedZone.{IsPageOf, IsToldOf}
use Rattle.zp_view.specs.Blocks.{reaches}

-- what is noted at the first page has not the other one
pub record Misses (z : PlainZone) (first page : ℕ) : Type 0 where
  pub state : State
  pub noted : IsNoted z (first - z.base) state
  pub misses : reaches state first page ≡ false

-- whatever is noted at place h reaches the page
pub record Reaching (z : PlainZone) (page h : ℕ) : Type 0 where
  pub below : z.base + h ≤ page
  pub all : (s : State) → IsNoted z h s → reaches s (z.base + h) page ≡ true

-- where something was counted, there is one that was
pub record Counted {X : Type 0} (p : X → Bool) (xs : List X) : Type 0 where
  pub place : ℕ
  pub one : X
  pub there : slice_get xs place ≡ Some one
  pub passes : p one ≡ true

pub some_counted : {X : Type 0} (p : X → Bool) (xs : List X) → 1 ≤ count_by p xs → Counted p xs
some_counted p [] le = absurd (omega arith)
some_counted p (x ∷ xs) le =
    elim (cases_lt 0 (one_if (p x))) [
      | inl lt ↦ record { place = 0; one = x; there = refl; passes = yes (p x) lt }
      | inr none ↦
          let r = some_counted p xs (omega (arith, sum_by-cons (λ y. one_if (p y)) x xs)) in
          record { place = suc r.place; one = r.one; there = r.there; passes = r.passes }
    ]
  where
    yes : (b : Bool) → 0 < one_if b → b ≡ true
    yes b lt = grind arith

some_summed : {X : Type 0} (f : X → ℕ) (xs : List X) (d : X) → 1 ≤ sum_by f xs → (k : ℕ) × (1 ≤ f (get_or xs k d))
some_summed f [] d le = absurd (omega arith)
some_summed f (x ∷ xs) d le =
    elim (cases_lt 0 (f x)) [
      | inl lt ↦ (0, omega arith)
      | inr none ↦ let r = some_summed f xs d (omega (arith, sum_by-cons f x xs)) in (suc r.0, r.1)
    ]

shifted : (b h k i page : ℕ) → page ≡ b + i → in_run h k i ≡ true → in_run (b + h) k page ≡ true
shifted b h k i page e r = let a = in_run-to h k i r in in_run-from (b + h) k page (omega (arith, a.0)) (omega (arith, a.1))

module _ (z : PlainZone) (page i : ℕ) (e : page ≡ z.base + i) where
  reached : (h k : ℕ) (t s : State) → ((first p : ℕ) → reaches t first p ≡ in_run first k p) → s ≡ t → in_run h k i ≡ true → reaches s (z.base + h) page ≡ true
  reached h k t s same is r = subst (λ u. reaches u (z.base + h) page ≡ true) (sym is) (same (z.base + h) page ∙ shifted z.base h k i page e r)

  below : (h k : ℕ) → in_run h k i ≡ true → z.base + h ≤ page
  below h k r = let a = in_run-to h k i r in omega (arith, a.0)

  free_around : has z.area.free i ≡ true → (h : ℕ) × Reaching z page h
  free_around f =
      let x = each_page_in_one_block z.area.largest z.area.free i f in
      (x.0, record { below = below x.0 x.1 x.2.1; all = λ s n. reached x.0 x.1 (Free x.1) s (λ a b. refl) ((n.free x.1).1 x.2.0) x.2.1 })

  out_around : (h : ℕ) (o : Option Holding) → holding_at z.out h ≡ o → holding_has h i o ≡ true → Reaching z page h
  out_around h None is r = absurd (false≢true r)
  out_around h (Some x) is r =
      record { below = below h x.order r; all = λ s n. reached h x.order (Out x.order x.kind x.worker) s (λ a b. refl) ((n.out x.order x.kind x.worker).1 is) r }

  posted_around : (w : ℕ) → Counted (λ (p : PostedBlock). in_run p.head p.order i) (posted_to z w) → (h : ℕ) × Reaching z page h
  posted_around w c =
      let p = c.one in
      (p.head, record { below = below p.head p.order c.passes; all = λ s n. reached p.head p.order (Posted p.order p.kind w) s (λ a b. refl) ((n.posted p.order p.kind w).1 (c.place, c.there)) c.passes })

  some_out : 1 ≤ times_out z.out i → (h : ℕ) × Reaching z page h
  unfolding times_out
  some_out le =
      let c = some_counted (λ h. holding_has h i (holding_at z.out h)) (range_with_len 0 (length z.out)) le in
      (c.one, out_around c.one (holding_at z.out c.one) refl c.passes)

  some_posted : 1 ≤ times_posted z.posted i → (h : ℕ) × Reaching z page h
  unfolding times_posted
  some_posted le =
      let w = some_summed (λ ps. count_posted ps i) z.posted [] le in
      posted_around w.0 (some_counted (λ (p : PostedBlock). in_run p.head p.order i) (posted_to z w.0) w.1)

  some_place : one_if (has z.area.free i) + times_out z.out i + times_posted z.posted i ≡ 1 → (h : ℕ) × Reaching z page h
  some_place one =
      elim (cases_lt 0 (one_if (has z.area.free i))) [
        | inl lt ↦ free_around (yes (has z.area.free i) lt)
        | inr none ↦
            elim (cases_lt 0 (times_out z.out i)) [
              | inl lt ↦ some_out lt
              | inr nothing ↦ some_posted (omega arith)
            ]
      ]
    where
      yes : (b : Bool) → 0 < one_if b → b ≡ true
      yes b lt = grind arith

pub block_there : (z : PlainZone) (page : ℕ) → IsLawful z → IsPageOf z page → (h : ℕ) × Reaching z page h
block_there z page lawful there =
    let i = page - z.base in
    let e : page ≡ z.base + i = omega (arith, there.0) in
    let lt : i < pages_of z = omega (arith, there.0, there.1) in
    some_place z page i e (sym (times-parts z i) ∙ lawful.once i lt)

-- what is told of a page that does not reach another
pub missed_at : (z : PlainZone) (first page : ℕ) (s : State) (b f : Option ℕ) → IsToldOf z first s b f → reaches s first page ≡ false → Misses z first page
missed_at z first page s b f told e = record { state = s; noted = told.described.noted; misses = e }

-- not all pages from a page of the zone down miss it
pub met : (z : PlainZone) (page : ℕ) → IsLawful z → IsPageOf z page → ((d : ℕ) → z.base + d ≤ page → Misses z (page - d) page) → ⊥
met z page lawful there all =
    let b = block_there z page lawful there in
    let d = page - (z.base + b.0) in
    let below : z.base + b.0 ≤ page = b.1.below in
    let m = all d (omega arith) in
    let first : page - d ≡ z.base + b.0 = omega arith in
    let place : page - d - z.base ≡ b.0 = omega arith in
    false≢true (sym m.misses ∙ ap (λ f. reaches m.state f page) first ∙ b.1.all m.state (subst (λ h. IsNoted z h m.state) place m.noted))
