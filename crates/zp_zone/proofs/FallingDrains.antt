-- The pages of a run, each out as a block of order 0, come back the highest first: what that is of a drain, and what a zone's fields become.
use Rattle.std.proofs.Common.{ℕ, suc, zero, ◌+◌, ◌-◌, ◌≡◌, ◌≤◌, ◌<◌, ◌⊎◌, inl, inr, refl, sym, ◌∙◌, ap, arith, subst, true, set, List, All, length, map, Option, None, get_or}
use Rattle.std.proofs.lemmas.Bool.{or_cases}
use Rattle.std.proofs.lemmas.List.{ext_get_or, get_or_default, get_or-map as get_or-map_at, length-map, set_comm, take_all}
use Rattle.std.proofs.lemmas.List.Elements.{All-get_or}
use Rattle.zp_model.specs.declared.state.State.TheVariants.{Tail}
use Rattle.zp_model.specs.Area.{Area}
use Rattle.zp_model.specs.Block.{has}
use Rattle.zp_model.specs.Frames.{Frames, with_area}
use Rattle.zp_model.specs.Lawful.{IsLawful}
use Rattle.zp_model.specs.Rows.{with_run}
use Rattle.zp_model.specs.Run.{is_distinct, is_out}
use Rattle.zp_model.specs.Step.{drained}
use Rattle.zp_model.specs.Take.{give}
use Rattle.zp_model.specs.Zone.{PlainZone, Holding}
use Rattle.zp_model.proofs.Covers.{length-with}
use Rattle.zp_model.proofs.Pages.{in_run-to}
use Rattle.zp_laws.proofs.Areas.{free-give}
use Rattle.zp_laws.proofs.Counting.{has-with_any}
use Rattle.zp_laws.proofs.Held.{IsHolding, out-to, out_held}
use Rattle.zp_buddy.specs.FallingRuns.{AreTails, falling_run}
use Rattle.zp_buddy.specs.Runs.{AreClear, gives}
use Rattle.zp_zone.specs.Kept.{plain_of, IsKept}
use Rattle.zp_zone.specs.NamedZone.{AreOut, NamedZone}
use Rattle.zp_zone.specs.Runs.{AreFalling}
use Rattle.zp_zone.proofs.BlockSteps.{IsAsked, held_clear, named}
use Rattle.zp_zone.proofs.DrainParts.{cleared, drained_is, part_lawful}
use Rattle.zp_zone.proofs.RunFrames.{out_run}
use Rattle.zp_zone.proofs.RunsBack.{IsWithin, back, kept_back, note_at, plain_back}

-- what is out with the last page of a run first
out_run_end : (n : ℕ) (out : List (Option Holding)) (h : ℕ) (v : Option Holding) → out_run (set out (h + n) v) h n v ≡ out_run out h (suc n) v
out_run_end zero out h v = let e : h + 0 ≡ h = omega arith in ap (λ q. set out q v) e
out_run_end (suc n) out h v =
    let e : h + suc n ≡ h + 1 + n = omega arith in
    ap (λ o. out_run o (h + 1) n v) (set_comm out (h + suc n) h v v (λ s. omega arith) ∙ ap (λ q. set (set out h v) q v) e) ∙ out_run_end n (set out h v) (h + 1) v

-- the pages of a run, the highest first, clear what the run clears
cleared_falling : (n : ℕ) (out : List (Option Holding)) (h : ℕ) → out_run out h n None ≡ cleared out (falling_run h n)
cleared_falling zero out h = refl
cleared_falling (suc n) out h = sym (out_run_end n out h None) ∙ cleared_falling n (set out (h + n) None) h

-- the pages that are free then
gives_marks : (n : ℕ) (a : Area) (h i : ℕ) → h + n ≤ length a.free → has (gives a (falling_run h n)).free i ≡ true → (has a.free i ≡ true) ⊎ IsWithin h n i
gives_marks zero a h i room e = inl e
gives_marks (suc n) a h i room e =
    let b : Area = give a (h + n) 0 in
    let len : length b.free ≡ length a.free = ap length (free-give a (h + n) 0) ∙ length-with a.free (h + n) 0 in
    elim (gives_marks n b h i (omega arith) e) [
      | inr new ↦ inr (new.0, omega (arith, new.1))
      | inl old ↦ elim (or_cases _ _ (sym (has-with_any a.free (h + n) 0 i (omega arith)) ∙ (rw (free-give a (h + n) 0) at old))) [
        | inl was ↦ inl was
        | inr here ↦ let r = in_run-to (h + n) 0 i here in inr (omega (arith, r.0), omega (arith, r.1))
      ]
    ]

length-falling : (n h : ℕ) → length (falling_run h n) ≡ n
length-falling zero h = refl
length-falling (suc n) h = ap suc (length-falling n h)

get_or-falling : (n h d : ℕ) → d < n → get_or (falling_run h n) d 0 + d + 1 ≡ h + n
get_or-falling zero h d lt = absurd (omega (arith, lt))
get_or-falling (suc n) h zero lt = omega arith
get_or-falling (suc n) h (suc d) lt = let more : get_or (falling_run h n) d 0 + d + 1 ≡ h + n = get_or-falling n h d (omega arith) in omega (arith, more)

-- n pages from h on are out to worker w, each as a block of order 0
module _ (f : Frames) (base min w h n : ℕ) (x : IsAsked f base min) (some : 0 < n) (out : (i : ℕ) → h ≤ i → i < h + n → IsHolding (plain_of f base min) w i 0) where
  pub falling_clear : AreClear f h n
  falling_clear =
      let last : ℕ = h + n - 1 in
      let c = held_clear f base min w last 0 x (out last (omega arith) (omega arith)) in
      record {
        inside = omega (arith, c.block.inside);
        free = λ i lo hi. (held_clear f base min w i 0 x (out i lo hi)).free i (omega arith) (omega arith);
        aside = λ r i lo hi. (held_clear f base min w i 0 x (out i lo hi)).aside r i (omega arith) (omega arith);
      }

  pub falling_tails : AreTails (record f { states = with_run f.states h n Tail }) h (h + n)
  falling_tails i lo hi = note_at f base min h n x falling_clear i (lo, hi)

  abbrev left : Area
  left = gives f.area (falling_run h n)

  abbrev pages : List ℕ
  pages = map (λ q. base + q) (falling_run h n)

  abbrev after : Frames
  after = with_area (record f { states = with_run f.states h n Tail }) left

  drained_back : back f base min h n x falling_clear left (λ i e. gives_marks n f.area h i falling_clear.inside e) ≡ drained (plain_of f base min) pages
  drained_back = let z : PlainZone = plain_of f base min in (λ i. record z { area = left; out = cleared_falling n z.out h i }) ∙ sym (drained_is (falling_run h n) z)

  pub falling_back : plain_of after base min ≡ drained (plain_of f base min) pages
  falling_back = plain_back f base min h n x falling_clear left (λ i e. gives_marks n f.area h i falling_clear.inside e) ∙ drained_back

  pub falling_kept : {count : ℕ} → (name : List ℕ) → IsKept name f base min count → IsLawful (drained (plain_of f base min) pages) → IsKept name after base min count
  falling_kept {count} name y lawful = kept_back f base min h n x falling_clear left (λ i e. gives_marks n f.area h i falling_clear.inside e) name y (rw drained_back lawful)

-- what the code knows of the pages of such a drain: the place of the lowest, the last one
abbrev pub lowest : ℕ → List ℕ → ℕ
lowest base pages = get_or pages (length pages - 1) 0 - base

module _ (z : PlainZone) (w : ℕ) (pages : List ℕ) (some : 0 < length pages) (out : AreOut z w pages) (falling : AreFalling pages) where
  abbrev n : ℕ
  n = length pages

  here : (d : ℕ) → d < n → is_out z w (get_or pages d 0) 0 ≡ true
  here d lt = All-get_or (λ q. is_out z w q 0 ≡ true) pages d 0 lt out

  pub based : z.base ≤ get_or pages (n - 1) 0
  based = (out-to z w (get_or pages (n - 1) 0) 0 (here (n - 1) (omega arith))).0

  at : (d : ℕ) → d < n → get_or pages d 0 + d + 1 ≡ z.base + lowest z.base pages + n
  at d lt = omega (arith, falling d lt, falling (n - 1) (omega arith), based)

  pub falling_out : (i : ℕ) → lowest z.base pages ≤ i → i < lowest z.base pages + n → IsHolding z w i 0
  falling_out i lo hi =
      let d : ℕ = lowest z.base pages + n - 1 - i in
      let lt : d < n = omega (arith, lo, hi) in
      let same : get_or pages d 0 ≡ z.base + i = omega (arith, at d lt, lo, hi) in
      let place : z.base + i - z.base ≡ i = omega arith in
      rw place at (out_held z w (z.base + i) 0 (rw same at (here d lt)))

  pub falling_pages : pages ≡ map (λ q. z.base + q) (falling_run (lowest z.base pages) n)
  falling_pages =
      let run : List ℕ = falling_run (lowest z.base pages) n in
      let len : length run ≡ n = length-falling n (lowest z.base pages) in
      ext_get_or 0 pages (map (λ q. z.base + q) run) (sym (length-map run (λ q. z.base + q) ∙ len)) (λ d lt.
      let e : get_or run d 0 + d + 1 ≡ lowest z.base pages + n = get_or-falling n (lowest z.base pages) d lt in
      let same : get_or pages d 0 ≡ z.base + get_or run d 0 = omega (arith, at d lt, e) in
      same ∙ sym (get_or-map_at (λ q. z.base + q) run d 0 0 (omega (arith, len))))

-- as the code finds it
pub lowest_place : (pages : List ℕ) (page n base at : ℕ) → 0 < length pages → page ≡ get_or pages (length pages - 1) page → n ≡ page → at ≡ n - base → at ≡ lowest base pages
lowest_place pages page n base at some is same e = e ∙ ap (λ q. q - base) (same ∙ is ∙ get_or_default pages (length pages - 1) page 0 (omega arith))

-- the frames once they came back
abbrev pub falling_given : Frames → ℕ → List ℕ → Frames
falling_given f base pages =
    let h : ℕ = lowest base pages in
    with_area (record f { states = with_run f.states h (length pages) Tail }) (gives f.area (falling_run h (length pages)))

-- in the words of a zone that contracts see
module _ (Z : NamedZone) (name : List ℕ) (f : Frames) (base min w : ℕ) (pages : List ℕ) (e : named name (plain_of f base min) ≡ Z) (x : IsAsked f base min)
    (out : AreOut Z.plain w pages) (some : 0 < length pages) (falling : AreFalling pages) where
  abbrev z : PlainZone
  z = plain_of f base min

  outs : AreOut z w pages
  outs = rw (← e) at out

  holds_run : (i : ℕ) → lowest base pages ≤ i → i < lowest base pages + length pages → IsHolding z w i 0
  holds_run = falling_out z w pages some outs falling

  pub drain_clear : AreClear f (lowest base pages) (length pages)
  drain_clear = falling_clear f base min w (lowest base pages) (length pages) x some holds_run

  pub drain_tails : AreTails (record f { states = with_run f.states (lowest base pages) (length pages) Tail }) (lowest base pages) (lowest base pages + length pages)
  drain_tails = falling_tails f base min w (lowest base pages) (length pages) x some holds_run

  pub drain_based : base ≤ get_or pages (length pages - 1) 0
  drain_based = based z w pages some outs falling

  pub drain_back : named name (plain_of (falling_given f base pages) base min) ≡ record Z { plain = drained Z.plain pages }
  drain_back =
      let after : NamedZone → NamedZone = λ y. record y { plain = drained y.plain pages } in
      ap (named name) (falling_back f base min w (lowest base pages) (length pages) x some holds_run ∙ ap (drained z) (sym (falling_pages z w pages some outs falling))) ∙ ap after e

  pub drain_kept : {count : ℕ} → IsKept name f base min count → is_distinct pages ≡ true → IsKept name (falling_given f base pages) base min count
  drain_kept {count} y distinct =
      let P : List ℕ → Type 0 = λ q. IsLawful (drained z q) in
      let all : P pages = subst P (take_all (length pages) pages (omega arith)) (part_lawful z w (length pages) pages outs distinct x.lawful) in
      falling_kept f base min w (lowest base pages) (length pages) x some holds_run name y (subst P (falling_pages z w pages some outs falling) all)
