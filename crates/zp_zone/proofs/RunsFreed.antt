-- A run at any place that comes back: by the blocks that it was lent in, and of each by the cut of its part.
use Rattle.std.proofs.Common.{ℕ, ◌+◌, ◌-◌, ◌^◌, ◌≡◌, ◌≤◌, ◌<◌, ◌||◌, ◌⊎◌, inl, inr, refl, sym, ◌∙◌, ap, arith, true, false, List, length, length-set, map, get_or, get_or-set_same, get_or-set_other, set, Option, Some, None}
use Rattle.std.specs.Option.{is_some}
use Rattle.std.proofs.Math.ListN.{get_or-map}
use Rattle.std.proofs.lemmas.Bool.{and_parts, both_ways, cases_eq, false≢true, false_from_ne_true, leb-true, or_cases}
use Rattle.std.proofs.lemmas.List.{set-get_or}
use Rattle.std.proofs.lemmas.Nat.{pow_pos}
use Rattle.std.proofs.lemmas.Option.{same_Some}
use Rattle.zp_model.specs.declared.migrate_type.MigrateType.{MigrateType}
use Rattle.zp_model.specs.declared.state.State.{State}
use Rattle.zp_model.specs.declared.state.State.TheVariants.{Free, Out, Posted, Tail}
use Rattle.zp_model.specs.Area.{Area}
use Rattle.zp_model.specs.Block.{has, in_run}
use Rattle.zp_model.specs.Frames.{Frames, IsClear, IsFramed, given}
use Rattle.zp_model.specs.Lawful.{IsLawful, IsListedArea}
use Rattle.zp_model.specs.RunLaws.{IsFitting, give_blocks}
use Rattle.zp_model.specs.Runs.{block_around, cut, fitting_order, give_run, hand_out_run, is_lent_run, is_within, may_free_run, meets, run_freed}
use Rattle.zp_model.specs.Rows.{state_at}
use Rattle.zp_model.specs.Step.{freed}
use Rattle.zp_model.specs.Take.{give}
use Rattle.zp_model.specs.Zone.{PlainZone, Holding, holding_at, pages_of, posted_pages, take_back, workers_of}
use Rattle.zp_model.proofs.Covers.{length-with}
use Rattle.zp_model.proofs.Cuts.{fitting}
use Rattle.zp_model.proofs.LowestRun.{all-from, all-to}
use Rattle.zp_model.proofs.MaximalBlocks.{length-restated, max_has}
use Rattle.zp_model.proofs.Pages.{in_run-from, in_run-to}
use Rattle.zp_model.proofs.RunGiven.{give_block, given_by_cut}
use Rattle.zp_model.proofs.RunParts.{has-with_pages, length-with_pages, within-from, within-to}
use Rattle.zp_laws.proofs.Areas.{free-give, free-give_run, largest-give}
use Rattle.zp_laws.proofs.Around.{IsAround, around-from, around-to, out_apart}
use Rattle.zp_laws.proofs.Counting.{has-with_any, in_run-no}
use Rattle.zp_laws.proofs.Held.{IsHolding}
use Rattle.zp_laws.proofs.KeepingRuns.{IsLent, freed_run_rest, meets-to, out_rest}
use Rattle.zp_laws.proofs.RunBooks.{before_lent, behind_lent, rest_from}
use Rattle.zp_laws.proofs.RunSteps.{free_run_by, lent-to, lent_inside, run_freed_lawful}
use Rattle.zp_laws.proofs.RunsByBlocks.{freed_in_block, freed_in_parts}
use Rattle.zp_buddy.specs.Runs.{AreClear}
use Rattle.zp_zone.specs.Kept.{IsKept, IsPostedAside, holding_of, plain_of}
use Rattle.zp_zone.specs.RunsAt.{IsGivenRun, IsNotedRun}
use Rattle.zp_zone.proofs.BlockSteps.{IsAsked, held_clear, not_out, other_out}
use Rattle.zp_zone.proofs.Noted.{IsBeside, IsOffAll, aside_noted, aside_restated, kept_by, off_apart, pages_same, plain-noted, plain-with_area}
use Rattle.zp_zone.proofs.RunsNoted.{cut_first}

-- the block (h, k) of pages that are neither free nor out comes back to f
module _ (f : Frames) (h k : ℕ) (framed : IsFramed f) (clear : IsClear f h k) (unheld : (i : ℕ) → has f.area.free i ≡ true → holding_of (state_at f.states i) ≡ None)
    (here : (i : ℕ) → h ≤ i → i < h + 2 ^ k → holding_of (state_at f.states i) ≡ None) where
  abbrev blank : Frames
  blank = record f { states = set f.states h Tail }

  within : h < length f.states
  within = omega (arith, clear.block.inside, framed.pages, pow_pos k)

  unfree : has f.area.free h ≡ false
  unfree = clear.free h (omega arith) (omega (arith, pow_pos k))

  off : IsOffAll f.sides h
  off r = clear.aside r h (omega arith) (omega (arith, pow_pos k))

  blank_framed : IsFramed blank
  blank_framed = record {
    pages = framed.pages ∙ sym (length-set f.states h Tail);
    typed = rw (length-set f.states h Tail) framed.typed;
    noted = λ g j. elim (cases_eq g h) [
      | inl same ↦ rw same (
        λ e. absurd (let tail : Tail ≡ Free j = sym (get_or-set_same f.states h Tail Tail within) ∙ e in cc),
        λ m. absurd (both_ways _ unfree (max_has f.area.largest f.area.free h j m)),
      )
      | inr ne ↦ rw (get_or-set_other f.states h g Tail Tail ne) (framed.noted g j)
    ];
    beside = framed.beside;
  }

  now_free : (i : ℕ) → has (give f.area h k).free i ≡ true → (has f.area.free i ≡ true) ⊎ (in_run h k i ≡ true)
  now_free i e = or_cases _ _ (sym (has-with_any f.area.free h k i clear.block.inside) ∙ (rw (free-give f.area h k) at e))

  now_unheld : (i : ℕ) → has (give f.area h k).free i ≡ true → holding_of (state_at f.states i) ≡ None
  now_unheld i e = elim (now_free i e) [ inl was ↦ unheld i was | inr run ↦ let q = in_run-to h k i run in here i q.0 q.1 ]

  now_beside : IsBeside f.sides (give f.area h k).free
  now_beside r p e = false_from_ne_true _ (λ u. elim (now_free p u) [
    | inl was ↦ both_ways _ (framed.beside r p e) was
    | inr run ↦ let q = in_run-to h k p run in both_ways _ (clear.aside r p q.0 q.1) e
  ])

  pub block_given : (base min : ℕ) → plain_of (given f h k) base min ≡ (let z : PlainZone = record (plain_of f base min) { area = give f.area h k } in z)
  block_given base min =
      let none : get_or (map holding_of f.states) h None ≡ None = get_or-map holding_of f.states h Tail ∙ here h (omega arith) (omega (arith, pow_pos k)) in
      let same : set (map holding_of f.states) h None ≡ map holding_of f.states = ap (λ o. set (map holding_of f.states) h o) (sym none) ∙ set-get_or (map holding_of f.states) h None in
      plain-with_area blank (give f.area h k) base min blank_framed
      (λ g e. elim (cases_eq g h) [
        | inl same ↦ rw (same, get_or-set_same f.states h Tail Tail within) refl
        | inr ne ↦ rw (get_or-set_other f.states h g Tail Tail ne) (now_unheld g e)
      ])
      now_beside
      ∙ ap (λ (z : PlainZone). let y : PlainZone = record z { area = give f.area h k } in y) (plain-noted f base min h Tail (off_apart f.sides h off))
      ∙ ap (λ (o : List (Option Holding)). let y : PlainZone = record (plain_of f base min) { area = give f.area h k; out = o } in y) same

  pub block_beside : IsPostedAside f.sides f.states → IsPostedAside f.sides (given f h k).states
  block_beside x =
      let a : Area = give f.area h k in
      aside_restated a.largest f.sides a.free (set f.states h Tail) (aside_noted f.sides f.states h Tail x off (λ v. refl)) now_beside

  pub block_pages : length (given f h k).states ≡ length f.states
  block_pages = let a : Area = give f.area h k in length-restated a.largest a.free (set f.states h Tail) ∙ length-set f.states h Tail

-- of the run (h, n) the blocks before page next have come back to f, which is y then
pub record IsGivingRun (f y : Frames) (h n next left : ℕ) : Type 0 where
  pub largest : y.area.largest ≡ f.area.largest
  pub area : give_blocks y.area (cut f.area.largest next left) ≡ give_run f.area h n
  pub plain : (base min : ℕ) → plain_of y base min ≡ (let z : PlainZone = record (plain_of f base min) { area = y.area } in z)
  pub sides : y.sides ≡ f.sides
  pub pages : length y.states ≡ length f.states
  pub beside : IsPostedAside y.sides y.states
  pub clear : AreClear y next left
  pub unheld : (i : ℕ) → has y.area.free i ≡ true → holding_of (state_at f.states i) ≡ None
  pub here : (i : ℕ) → next ≤ i → i < next + left → holding_of (state_at f.states i) ≡ None

pub giving_begins : (f : Frames) (h n : ℕ) → AreClear f h n → IsListedArea f.area → IsPostedAside f.sides f.states →
    ((i : ℕ) → has f.area.free i ≡ true → holding_of (state_at f.states i) ≡ None) → ((i : ℕ) → h ≤ i → i < h + n → holding_of (state_at f.states i) ≡ None) → IsGivingRun f f h n h n
giving_begins f h n clear listed beside unheld here = record {
  largest = refl;
  area = given_by_cut f.area h n listed (λ i lo hi. clear.free i lo hi);
  plain = λ base min. refl;
  sides = refl;
  pages = refl;
  beside = beside;
  clear = clear;
  unheld = unheld;
  here = here;
}

module _ {f y : Frames} {h n next left : ℕ} (x : IsGivingRun f y h n next left) (some : 0 < left) where
  give_fits : IsFitting f.area.largest next left (fitting_order f.area.largest next left)
  give_fits = fitting f.area.largest next left (omega arith)

  pub give_size : 2 ^ fitting_order f.area.largest next left ≤ left
  give_size = give_fits.inside

  -- the next block is clear
  pub give_clear : IsClear y next (fitting_order f.area.largest next left)
  give_clear = record {
    block = record { order = rw x.largest give_fits.order; aligned = give_fits.aligned; inside = omega (arith, give_fits.inside, x.clear.inside) };
    free = λ i lo hi. x.clear.free i lo (omega (arith, give_fits.inside));
    aside = λ r i lo hi. x.clear.aside r i lo (omega (arith, give_fits.inside));
  }

  -- the same is out as at first
  same_out : (i : ℕ) → holding_of (state_at y.states i) ≡ holding_of (state_at f.states i)
  same_out i = sym (get_or-map holding_of y.states i Tail) ∙ ap (λ (z : PlainZone). holding_at z.out i) (x.plain 0 0) ∙ get_or-map holding_of f.states i Tail

  pub giving_goes : IsFramed y → IsGivingRun f (given y next (fitting_order f.area.largest next left)) h n (next + 2 ^ fitting_order f.area.largest next left) (left - 2 ^ fitting_order f.area.largest next left)
  giving_goes framed =
      let k : ℕ = fitting_order f.area.largest next left in
      let a : Area = give y.area next k in
      let unheld : (i : ℕ) → has y.area.free i ≡ true → holding_of (state_at y.states i) ≡ None = λ i e. same_out i ∙ x.unheld i e in
      let here : (i : ℕ) → next ≤ i → i < next + 2 ^ k → holding_of (state_at y.states i) ≡ None = λ i lo hi. same_out i ∙ x.here i lo (omega (arith, give_fits.inside)) in
      let room : next + 2 ^ k ≤ length y.area.free = omega (arith, give_fits.inside, x.clear.inside) in
      let marks : (i : ℕ) → has (give y.area next k).free i ≡ (has y.area.free i || in_run next k i) = λ i. ap (λ u. has u i) (free-give y.area next k) ∙ has-with_any y.area.free next k i room in
      record {
        largest = largest-give y.area next k ∙ x.largest;
        area =
            ap (λ (bs : List (ℕ × ℕ)). give_blocks y.area bs) (sym (cut_first f.area.largest next left some)) ∙ x.area;
        plain = λ base min.
            block_given y next k framed give_clear unheld here base min
            ∙ ap (λ (z : PlainZone). let v : PlainZone = record z { area = give y.area next k } in v) (x.plain base min);
        sides = x.sides;
        pages = block_pages y next k framed give_clear unheld here ∙ x.pages;
        beside = block_beside y next k framed give_clear unheld here x.beside;
        clear = record {
          inside = rw (free-give y.area next k, length-with y.area.free next k) (omega (arith, give_fits.inside, x.clear.inside));
          free = λ i lo hi. marks i ∙ rw (in_run-no next k i (inr lo), x.clear.free i (omega arith) (omega (arith, give_fits.inside))) refl;
          aside = λ r i lo hi. x.clear.aside r i (omega arith) (omega (arith, give_fits.inside));
        };
        unheld = λ i e. elim (or_cases _ _ (sym (marks i) ∙ e)) [
          | inl was ↦ x.unheld i was
          | inr run ↦ let q = in_run-to next k i run in x.here i q.0 (omega (arith, q.1, give_fits.inside))
        ];
        here = λ i lo hi. x.here i (omega arith) (omega (arith, give_fits.inside));
      }

pub giving_ends : (f y : Frames) (h n next left : ℕ) → left ≡ 0 → IsGivingRun f y h n next left → IsGivenRun f y h n
giving_ends f y h n next left none x =
    let area : y.area ≡ give_run f.area h n = ap (λ l. give_blocks y.area (cut f.area.largest next l)) (sym none) ∙ x.area in
    record {
      plain = λ base min. x.plain base min ∙ ap (λ (a : Area). let z : PlainZone = record (plain_of f base min) { area = a } in z) area;
      sides = x.sides;
      pages = x.pages;
      beside = x.beside;
    }

-- what is lent behind a part that has come back, where a block ends between them, is lent still
pub still_lent : (z : PlainZone) (w h n k : ℕ) (b : ℕ × Holding) → IsLawful z → 1 ≤ n → w < workers_of z → is_lent_run z w h (n + k) ≡ true → block_around z w (h + n - 1) ≡ Some b →
    b.0 + 2 ^ b.1.order ≡ h + n → is_lent_run (run_freed z w h n) w (h + n) k ≡ true
unfolding is_lent_run
still_lent z w h n k b l some lt lent e ends =
    let x : IsLent z w h (n + k) = lent-to z w h (n + k) (omega arith) lent in
    let y : IsAround z.out w (h + n - 1) b = around-to z w (h + n - 1) b e in
    let first : IsLent z w h n = record { some = some; around = λ i q. let r = within-to h n i q in x.around i (within-from h (n + k) i r.0 (omega (arith, r.1))) } in
    let lawful : IsLawful (run_freed z w h n) = run_freed_lawful z l w h n lt first in
    all-from (λ i. is_some (block_around (run_freed z w h n) w i)) (h + n) k (λ i lo hi.
    let c = x.around i (within-from h (n + k) i (omega arith) (omega arith)) in
    let r = in_run-to c.0.0 c.0.1.order i c.1.page in
    let apart : meets h n c.0.0 (Some c.0.1) ≡ false = false_from_ne_true _ (λ m.
    let s = meets-to h n c.0.0 c.0.1 m in
    let same : c.0.0 ≡ b.0 = out_apart z l c.0.0 b.0 (h + n - 1) c.0.1 b.1 c.1.at y.at (in_run-from c.0.0 c.0.1.order (h + n - 1) (omega (arith, s.0)) (omega (arith, r.1))) y.page in
    let one : c.0.1 ≡ b.1 = same_Some c.0.1 b.1 (sym c.1.at ∙ ap (holding_at z.out) same ∙ y.at) in
    let size : 2 ^ c.0.1.order ≡ 2 ^ b.1.order = ap (λ (v : Holding). 2 ^ v.order) one in
    omega (arith, r.1, same, size)) in
    let there : IsAround (run_freed z w h n).out w i c.0 = free_run_by (λ v. IsAround v.out w i c.0) z w h n l first (λ g d s t.
    (behind_lent z l w h n first lt g d s t).kept w i c.0 ((before_lent z l w h n first lt g d s t).kept w i c.0 (rest_from z l w h n first lt g d s t w i c.0 c.1 apart))) in
    ap is_some (around-from (run_freed z w h n) lawful w i c.0 there))

-- of the run (h, n) of z, which is lent to w, the blocks before page next have come back, which leaves y
pub record IsFreeingRun (z y : PlainZone) (w h n next end : ℕ) : Type 0 where
  pub upto : next ≤ end
  pub base : y.base ≡ z.base
  pub workers : workers_of y ≡ workers_of z
  pub pages : pages_of y ≡ pages_of z
  pub lent : next < end → is_lent_run y w next (end - next) ≡ true
  pub after : next < end → run_freed y w next (end - next) ≡ run_freed z w h n
  pub done : next ≡ end → y ≡ run_freed z w h n

pub freeing_goes : (z y : PlainZone) (w h n next end c : ℕ) → IsLawful y → w < workers_of z → IsFreeingRun z y w h n next end → next < end → 0 < c → c ≤ end - next →
    (c < end - next → (b : ℕ × Holding) × (block_around y w (next + c - 1) ≡ Some b) × (b.0 + 2 ^ b.1.order ≡ next + c)) → IsFreeingRun z (run_freed y w next c) w h n (next + c) end
freeing_goes z y w h n next end c l lt x more some most ends =
    let r = freed_run_rest y w next c in
    let workers : w < workers_of y = rw x.workers lt in
    record {
      upto = omega arith;
      base = r.base ∙ x.base;
      workers = ap length r.posted ∙ x.workers;
      pages = ap (λ (a : Area). length a.free) r.area ∙ ap length (free-give_run y.area next c) ∙ length-with_pages y.area.free next c ∙ x.pages;
      lent = λ still.
          let b = ends (omega arith) in
          let sum : end - next ≡ c + (end - (next + c)) = omega arith in
          still_lent y w next c (end - (next + c)) b.0 l (omega arith) workers (rw sum at (x.lent more)) b.1 b.2;
      after = λ still.
          let b = ends (omega arith) in
          let sum : end - next ≡ c + (end - (next + c)) = omega arith in
          freed_in_parts y w next c (end - (next + c)) b.0 l (omega arith) (omega arith) (rw sum at (x.lent more)) b.1 b.2 ∙ ap (λ m. run_freed y w next m) (sym sum) ∙ x.after more;
      done = λ last. let all : c ≡ end - next = omega arith in ap (λ m. run_freed y w next m) all ∙ x.after more;
    }

-- n pages from h on, of the block (g, c) that is out to w, come back; what it has before and behind them goes out again
pub record IsPart (f : Frames) (base min w g h n : ℕ) (c : Holding) : Type 0 where
  pub asked : IsAsked f base min
  pub around : block_around (plain_of f base min) w h ≡ Some (g, c)
  pub some : 0 < n
  pub within : h + n ≤ g + 2 ^ c.order

module _ {f : Frames} {base min w g h n : ℕ} {c : Holding} (p : IsPart f base min w g h n c) where
  lent : IsAround (map holding_of f.states) w h (g, c)
  lent = around-to (plain_of f base min) w h (g, c) p.around

  out : IsHolding (plain_of f base min) w g c.order
  out = record { holding = c; at = lent.at; order = refl; worker = lent.worker }

  pub part_from : g ≤ h
  part_from = (in_run-to g c.order h lent.page).0

  pub part_clear : IsClear f g c.order
  part_clear = held_clear f base min w g c.order p.asked out

  pub part_head : g < length f.states
  part_head = omega (arith, part_clear.block.inside, p.asked.framed.pages, pow_pos c.order)

  pub part_used : has f.area.free g ≡ false
  part_used = part_clear.free g (omega arith) (omega (arith, pow_pos c.order))

  part_off : IsOffAll f.sides g
  part_off r = part_clear.aside r g (omega arith) (omega (arith, pow_pos c.order))

  -- nothing is noted of the block's head any more
  abbrev pub forgotten : Frames
  forgotten = record f { states = set f.states g Tail }

  pub part_pages : AreClear forgotten h n
  part_pages = record {
    inside = omega (arith, part_clear.block.inside);
    free = λ i lo hi. part_clear.free i (omega (arith, part_from)) (omega arith);
    aside = λ r i lo hi. part_clear.aside r i (omega (arith, part_from)) (omega arith);
  }

  pub part_beside : IsPostedAside f.sides f.states → IsPostedAside f.sides (set f.states g Tail)
  part_beside y = aside_noted f.sides f.states g Tail y part_off (λ v. refl)

  pub part_unheld : (i : ℕ) → has f.area.free i ≡ true → holding_of (state_at (set f.states g Tail) i) ≡ None
  part_unheld i e = elim (cases_eq i g) [
    | inl same ↦ rw (same, get_or-set_same f.states g Tail Tail part_head) refl
    | inr ne ↦ rw (get_or-set_other f.states g i Tail Tail ne) (not_out f base min i p.asked e)
  ]

  pub part_here : (i : ℕ) → h ≤ i → i < h + n → holding_of (state_at (set f.states g Tail) i) ≡ None
  part_here i lo hi = elim (cases_eq i g) [
    | inl same ↦ rw (same, get_or-set_same f.states g Tail Tail part_head) refl
    | inr ne ↦
        rw (get_or-set_other f.states g i Tail Tail ne)
        (other_out f base min w g c.order p.asked out i (in_run-from g c.order i (omega (arith, part_from)) (omega arith)) ne (omega (arith, part_clear.block.inside)) (holding_of (state_at f.states i)) refl)
  ]

  module _ (f2 : Frames) (given : IsGivenRun forgotten f2 h n) where
    given_area : f2.area ≡ give_run f.area h n
    given_area = ap (λ (z : PlainZone). z.area) (given.plain 0 0)

    given_inside : length f2.area.free ≡ length f.area.free
    given_inside = ap (λ (a : Area). length a.free) given_area ∙ ap length (free-give_run f.area h n) ∙ length-with_pages f.area.free h n

    -- the other pages of the block are clear still
    other_clear : (i : ℕ) → g ≤ i → i < g + 2 ^ c.order → is_within h n i ≡ false → has f2.area.free i ≡ false
    other_clear i lo hi beside =
        ap (λ (a : Area). has a.free i) given_area ∙ ap (λ u. has u i) (free-give_run f.area h n) ∙ has-with_pages f.area.free h n i (omega (arith, part_clear.block.inside))
        ∙ rw (part_clear.free i lo hi, beside) refl

    pub before_clear : AreClear f2 g (h - g)
    before_clear = record {
      inside = omega (arith, part_clear.block.inside, given_inside, part_from);
      free = λ i lo hi. other_clear i lo (omega (arith, part_from)) (false_from_ne_true _ (λ e. let r = within-to h n i e in omega (arith, r.0, part_from)));
      aside = λ r i lo hi. rw given.sides (part_clear.aside r i lo (omega (arith, part_from)));
    }

    module _ (f3 : Frames) (before : IsNotedRun f2 f3 w (λ q. c.kind) g (h - g)) where
      noted_area : f3.area ≡ f2.area
      noted_area = ap (λ (z : PlainZone). z.area) (before.plain 0 0) ∙ (out_rest w (λ q. c.kind) (cut f2.area.largest g (h - g)) (plain_of f2 0 0)).area

      pub behind_clear : AreClear f3 (h + n) (g + 2 ^ c.order - (h + n))
      behind_clear = record {
        inside = omega (arith, part_clear.block.inside, given_inside, ap (λ (a : Area). length a.free) noted_area);
        free = λ i lo hi.
            ap (λ (a : Area). has a.free i) noted_area
            ∙ other_clear i (omega (arith, part_from)) (omega arith) (false_from_ne_true _ (λ e. let r = within-to h n i e in omega (arith, r.1)));
        aside = λ r i lo hi. rw (before.sides, given.sides) (part_clear.aside r i (omega (arith, part_from)) (omega arith));
      }

      module _ (f4 : Frames) (behind : IsNotedRun f3 f4 w (λ q. c.kind) (h + n) (g + 2 ^ c.order - (h + n))) where
        pub part_plain : plain_of f4 base min ≡ run_freed (plain_of f base min) w h n
        part_plain =
            behind.plain base min
            ∙ ap (λ (z : PlainZone). hand_out_run z w (λ q. c.kind) (h + n) (g + 2 ^ c.order - (h + n)))
            (before.plain base min
            ∙ ap (λ (z : PlainZone). hand_out_run z w (λ q. c.kind) g (h - g))
            (given.plain base min ∙ ap (λ (z : PlainZone). let y : PlainZone = record z { area = give_run f.area h n } in y) (plain-noted f base min g Tail (off_apart f.sides g part_off))))
            ∙ sym (freed_in_block (plain_of f base min) w h n (g, c) p.asked.lawful (omega (arith, p.some)) p.around p.within)

        pub part_kept : {count : ℕ} → (name : List ℕ) → IsKept name f base min count → w < workers_of (plain_of f base min) → IsKept name f4 base min count
        part_kept {count} name y lt =
            let z : PlainZone = plain_of f base min in
            let all : IsLent (plain_of f base min) w h n = record {
              some = omega arith;
              around = λ i e.
                  let r = within-to h n i e in
                  let b : ℕ × Holding = (g, c) in
                  (b, record { at = lent.at; worker = lent.worker; page = in_run-from g c.order i (omega (arith, part_from, r.0)) (omega (arith, r.1)) });
            } in
            kept_by name f f4 base min count y (behind.pages ∙ before.pages ∙ given.pages ∙ length-set f.states g Tail) (ap length (behind.sides ∙ before.sides ∙ given.sides)) behind.beside
            (y.counted ∙ pages_same (plain_of f base min) (run_freed (plain_of f base min) w h n) (sym (freed_run_rest (plain_of f base min) w h n).posted) ∙ ap posted_pages (sym part_plain))
            (rw part_plain (run_freed_lawful (plain_of f base min) p.asked.lawful w h n lt all))

-- none of a run that is lent to w has come back yet
pub freeing_starts : (z : PlainZone) (w h n next end : ℕ) → 0 < n → is_lent_run z w h n ≡ true → next ≡ h → end ≡ next + n → IsFreeingRun z z w h n next end
freeing_starts z w h n next end some lent at to =
    let left : end - next ≡ n = omega arith in
    record {
      upto = omega arith;
      base = refl;
      workers = refl;
      pages = refl;
      lent = λ more. rw (left, at) lent;
      after = λ more. rw (left, at) refl;
      done = λ same. absurd (omega arith);
    }

pub freeing_begins : (z : PlainZone) (w p n next end : ℕ) → may_free_run z w p n ≡ true → next ≡ p - z.base → end ≡ next + n → IsFreeingRun z z w (p - z.base) n next end
freeing_begins z w p n next end may at to =
    let a = and_parts _ _ may in
    freeing_starts z w (p - z.base) n next end (omega (arith, leb-true 1 n (and_parts _ _ a.0).1)) a.1 at to

-- what is to come back lies in the zone
pub freeing_inside : (z y : PlainZone) (w h n next end : ℕ) → IsLawful y → IsFreeingRun z y w h n next end → next < end → end ≤ pages_of z
freeing_inside z y w h n next end l x more =
    omega (arith, lent_inside y w next (end - next) l (lent-to y w next (end - next) (omega arith) (x.lent more)), x.pages)

-- the first page of a run that is lent lies in a block
pub first_lent : (z : PlainZone) (w h n : ℕ) → 0 < n → is_lent_run z w h n ≡ true → block_around z w h ≡ None → ⊥
unfolding is_lent_run
first_lent z w h n some lent none =
    false≢true (sym (ap is_some none) ∙ all-to (λ i. is_some (block_around z w i)) h n lent h (omega arith) (omega arith))

-- what is noted of the head of the block that is out to w is its order, its type and w
pub held_noted : (f : Frames) (base min w h i k j v : ℕ) (t : MigrateType) → IsAsked f base min → IsHolding (plain_of f base min) w h k → in_run h k i ≡ true → state_at f.states h ≡ Out j t v →
    block_around (plain_of f base min) w i ≡ (let x : Holding = record { order = k; kind = t; worker = w } in Some (h, x))
held_noted f base min w h i k j v t x y run e =
    let c : Holding = record { order = k; kind = t; worker = w } in
    let d : Holding = record { order = j; kind = t; worker = v } in
    let seen : holding_at (map holding_of f.states) h ≡ Some d = get_or-map holding_of f.states h Tail ∙ ap holding_of e in
    let same : y.holding ≡ d = same_Some y.holding d (sym y.at ∙ seen) in
    let order : j ≡ k = sym (ap (λ (q : Holding). q.order) same) ∙ y.order in
    let worker : v ≡ w = sym (ap (λ (q : Holding). q.worker) same) ∙ y.worker in
    let at : holding_at (map holding_of f.states) h ≡ Some c = seen ∙ (λ p. Some (record { order = order p; kind = t; worker = worker p })) in
    around-from (plain_of f base min) x.lawful w i (h, c) (record { at = at; worker = refl; page = run })

-- so something else is not noted of it
pub not_noted : (f : Frames) (base min w h k : ℕ) → IsHolding (plain_of f base min) w h k → ((j v : ℕ) (t : MigrateType) → state_at f.states h ≡ Out j t v → ⊥) → ⊥
not_noted f base min w h k y none = go (state_at f.states h) refl
  where
    seen : holding_of (state_at f.states h) ≡ Some y.holding
    seen = sym (get_or-map holding_of f.states h Tail) ∙ y.at

    go : (s : State) → state_at f.states h ≡ s → ⊥
    go Tail e = let n : None ≡ Some y.holding = sym (ap holding_of e) ∙ seen in cc
    go (Free j) e = let n : None ≡ Some y.holding = sym (ap holding_of e) ∙ seen in cc
    go (Out j t v) e = none j v t e
    go (Posted j t v) e = let n : None ≡ Some y.holding = sym (ap holding_of e) ∙ seen in cc

-- a block that is freed as a run is freed as a block
pub whole_freed : (z : PlainZone) (w h k : ℕ) → IsLawful z → IsHolding z w h k → run_freed z w h (2 ^ k) ≡ freed z h k
whole_freed z w h k l y =
    let c : Holding = y.holding in
    let size : 2 ^ y.holding.order ≡ 2 ^ k = ap (λ j. 2 ^ j) y.order in
    let before : h - h ≡ 0 = omega arith in
    let behind : h + 2 ^ y.holding.order - (h + 2 ^ k) ≡ 0 = omega (arith, size) in
    let around : block_around z w h ≡ Some (h, c) = around-from z l w h (h, c) (record { at = y.at; worker = y.worker; page = in_run-from h c.order h (omega arith) (omega (arith, pow_pos y.holding.order)) }) in
    let back : PlainZone = take_back (record z { area = give_run z.area h (2 ^ k) }) h in
    freed_in_block z w h (2 ^ k) (h, c) l (omega (arith, pow_pos k)) around (omega (arith, size))
    ∙ ap (λ n. hand_out_run (hand_out_run back w (λ f. c.kind) h n) w (λ f. c.kind) (h + 2 ^ k) (h + 2 ^ c.order - (h + 2 ^ k))) before
    ∙ ap (λ n. hand_out_run back w (λ f. c.kind) (h + 2 ^ k) n) behind
    ∙ ap (λ (a : Area). take_back (record z { area = a }) h) (sym (give_block z.area h k))
