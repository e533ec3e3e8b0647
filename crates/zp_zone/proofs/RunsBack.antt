-- Pages in a row that are noted as nothing and come back: what a zone's fields become, whatever free area they leave.
use Rattle.std.proofs.Common.{ℕ, suc, zero, ◌+◌, ◌≡◌, ◌≤◌, ◌<◌, ◌⊎◌, inl, inr, refl, sym, ◌∙◌, ap, arith, true, set, List, length, get_or-set_same, get_or-set_other, length-set, None}
use Rattle.std.proofs.lemmas.Bool.{both_ways, cases_eq, cases_lt, false_from_ne_true}
use Rattle.zp_model.specs.declared.state.State.{State}
use Rattle.zp_model.specs.declared.state.State.TheVariants.{Tail, Free}
use Rattle.zp_model.specs.Area.{Area}
use Rattle.zp_model.specs.Block.{has}
use Rattle.zp_model.specs.Frames.{Frames, IsFramed, with_area}
use Rattle.zp_model.specs.Lawful.{IsLawful}
use Rattle.zp_model.specs.Rows.{state_at, with_run}
use Rattle.zp_model.specs.Zone.{PlainZone, posted_pages}
use Rattle.zp_model.proofs.MaximalBlocks.{length-restated, max_has}
use Rattle.zp_model.proofs.Runs.{length-run}
use Rattle.zp_buddy.specs.Runs.{AreClear}
use Rattle.zp_zone.specs.Kept.{holding_of, plain_of, IsKept}
use Rattle.zp_zone.proofs.BlockSteps.{IsAsked, not_out}
use Rattle.zp_zone.proofs.Noted.{IsBeside, aside_restated, kept_by, pages_same, plain-with_area}
use Rattle.zp_zone.proofs.RunFrames.{IsRunOff, aside_noted_run, out_run, plain-noted_run}

-- the pages of a run from h on
abbrev pub IsWithin : ℕ → ℕ → ℕ → Type 0
IsWithin h n i = (h ≤ i) × (i < h + n)

pub cases_run : (h n i : ℕ) → IsWithin h n i ⊎ (IsWithin h n i → ⊥)
cases_run h n i = elim (cases_lt i h) [
  | inl below ↦ inr (λ r. omega (arith, below, r.0))
  | inr from ↦ elim (cases_lt i (h + n)) [ inl lt ↦ inl (from, lt) | inr past ↦ inr (λ r. omega (arith, past, r.1)) ]
]

-- what is noted of the pages of a run, and of the others
noted_off : (n : ℕ) (s : List State) (h i : ℕ) (v : State) → (IsWithin h n i → ⊥) → state_at (with_run s h n v) i ≡ state_at s i
noted_off zero s h i v off = refl
noted_off (suc n) s h i v off = noted_off n (set s h v) (h + 1) i v (λ r. off (omega (arith, r.0), omega (arith, r.1))) ∙ get_or-set_other s h i v Tail (λ e. off (omega arith, omega arith))

noted_at : (n : ℕ) (s : List State) (h i : ℕ) (v : State) → IsWithin h n i → i < length s → state_at (with_run s h n v) i ≡ v
noted_at zero s h i v r lt = absurd (omega (arith, r.0, r.1))
noted_at (suc n) s h i v r lt = elim (cases_eq i h) [
  | inl same ↦ noted_off n (set s h v) (h + 1) i v (λ q. omega (arith, q.0)) ∙ rw same (let below : h < length s = omega arith in get_or-set_same s h v Tail below)
  | inr ne ↦ noted_at n (set s h v) (h + 1) i v (omega (arith, r.0), omega (arith, r.1)) (omega (arith, length-set s h v))
]

module _ (f : Frames) (base min h n : ℕ) (x : IsAsked f base min) (clear : AreClear f h n) where
  off : IsRunOff f.sides h n
  off i lo hi r = clear.aside r i lo hi

  -- nothing is noted of its pages any more
  abbrev pub noted : Frames
  noted = record f { states = with_run f.states h n Tail }

  pub note_at : (i : ℕ) → IsWithin h n i → state_at noted.states i ≡ Tail
  note_at i r = noted_at n f.states h i Tail r (omega (arith, r.1, clear.inside, x.framed.pages))

  note_off : (i : ℕ) → (IsWithin h n i → ⊥) → state_at noted.states i ≡ state_at f.states i
  note_off i r = noted_off n f.states h i Tail r

  noted_framed : IsFramed noted
  noted_framed = record {
    pages = x.framed.pages ∙ sym (length-run f.states h n Tail);
    typed = rw (length-run f.states h n Tail) x.framed.typed;
    noted = λ g k. elim (cases_run h n g) [
      | inl r ↦ (
        λ e. absurd (let tail : Tail ≡ Free k = sym (note_at g r) ∙ e in cc),
        λ m. absurd (both_ways _ (clear.free g r.0 r.1) (max_has f.area.largest f.area.free g k m)),
      )
      | inr o ↦ rw (note_off g o) (x.framed.noted g k)
    ];
    beside = x.framed.beside;
  }

  -- no page is free then but those that were, and those of the run
  module _ (b : Area) (marks : (i : ℕ) → has b.free i ≡ true → (has f.area.free i ≡ true) ⊎ IsWithin h n i) where
    beside : IsBeside f.sides b.free
    beside r q e = false_from_ne_true _ (λ u. elim (marks q u) [
      | inl was ↦ both_ways _ (x.framed.beside r q e) was
      | inr here ↦ both_ways _ (clear.aside r q here.0 here.1) e
    ])

    -- no page that comes back heads a block out
    heads : (g : ℕ) → has b.free g ≡ true → holding_of (state_at noted.states g) ≡ None
    heads g e = elim (cases_run h n g) [
      | inl r ↦ ap holding_of (note_at g r)
      | inr o ↦ ap holding_of (note_off g o) ∙ elim (marks g e) [ inl was ↦ not_out f base min g x was | inr r ↦ absurd (o r) ]
    ]

    abbrev pub back : PlainZone
    back = let z : PlainZone = plain_of f base min in record z { area = b; out = out_run z.out h n None }

    pub plain_back : plain_of (with_area noted b) base min ≡ back
    plain_back =
        plain-with_area noted b base min noted_framed heads beside
        ∙ ap (λ (y : PlainZone). let q : PlainZone = record y { area = b } in q) (plain-noted_run n f base min h Tail off)

    pub kept_back : {count : ℕ} → (name : List ℕ) → IsKept name f base min count → IsLawful back → IsKept name (with_area noted b) base min count
    kept_back {count} name y lawful =
        kept_by name f (with_area noted b) base min count y (length-restated b.largest b.free noted.states ∙ length-run f.states h n Tail) refl
        (aside_restated b.largest f.sides b.free noted.states (aside_noted_run n f.sides f.states h Tail y.aside off (λ v. refl)) beside)
        (y.counted ∙ pages_same (plain_of f base min) back refl ∙ ap posted_pages (sym plain_back)) (rw plain_back lawful)
