-- What a zone's fields become when pages in a row go out, as the plain zone that they leave.
use Rattle.std.proofs.Common.{ℕ, suc, zero, ◌+◌, ◌≡◌, ◌≤◌, ◌<◌, refl, sym, ◌∙◌, ap, arith, true, false, set, List, length, Option, Some, None}
use Rattle.std.proofs.lemmas.Bool.{and_parts, both_ways, false_from_ne_true}
use Rattle.zp_model.specs.declared.migrate_type.MigrateType.{MigrateType}
use Rattle.zp_model.specs.declared.state.State.{State}
use Rattle.zp_model.specs.declared.state.State.TheVariants.{Out}
use Rattle.zp_model.specs.Area.{Area}
use Rattle.zp_model.specs.Block.{has}
use Rattle.zp_model.specs.Choose.{Chosen, choose}
use Rattle.zp_model.specs.Frames.{Frames, IsFramed, with_area, restated}
use Rattle.zp_model.specs.Lawful.{IsLawful}
use Rattle.zp_model.specs.Rows.{with_run}
use Rattle.zp_model.specs.Take.{take_after, taken}
use Rattle.zp_model.specs.Zone.{PlainZone, Holding, posted_pages}
use Rattle.zp_model.proofs.Covers.{length-without}
use Rattle.zp_model.proofs.MaximalBlocks.{length-restated}
use Rattle.zp_model.proofs.Runs.{length-run}
use Rattle.zp_laws.proofs.Areas.{free-taken}
use Rattle.zp_laws.proofs.Counting.{has-without_any}
use Rattle.zp_buddy.specs.Runs.{AreClear, pages_left}
use Rattle.zp_zone.specs.Kept.{holding_of, plain_of, IsKept, IsPostedAside, is_posted_to}
use Rattle.zp_zone.specs.Runs.{page_out, run_out}
use Rattle.zp_zone.proofs.BlockSteps.{IsAsked, not_out}
use Rattle.zp_zone.proofs.Noted.{IsBeside, IsOffAll, aside_noted, aside_restated, kept_by, off_apart, pages_same, plain-noted, plain-with_area}

-- what is out, with this from h on at so many pages
abbrev pub out_run : List (Option Holding) → ℕ → ℕ → Option Holding → List (Option Holding)
out_run out h zero x = out
out_run out h (suc n) x = out_run (set out h x) (h + 1) n x

abbrev pub with_out_run : PlainZone → ℕ → ℕ → Option Holding → PlainZone
with_out_run z h n x = record z { out = out_run z.out h n x }

-- the pages go out of what the requests for them leave free
pub run_out_is : (n : ℕ) (z : PlainZone) (w : ℕ) (t : MigrateType) (h : ℕ) →
    run_out z w t h n ≡ with_out_run (record z { area = pages_left z.area t n }) h n (Some (record { order = 0; kind = t; worker = w }))
run_out_is zero z w t h = refl
run_out_is (suc n) z w t h = run_out_is n (page_out z w t h) w t (h + 1)

-- no page of the run stands on a further list
abbrev pub IsRunOff : List (List ℕ) → ℕ → ℕ → Type 0
IsRunOff sides h n = (i : ℕ) → h ≤ i → i < h + n → IsOffAll sides i

pub plain-noted_run : (n : ℕ) (f : Frames) (base min h : ℕ) (v : State) → IsRunOff f.sides h n →
    plain_of (record f { states = with_run f.states h n v }) base min ≡ with_out_run (plain_of f base min) h n (holding_of v)
plain-noted_run zero f base min h v off = refl
plain-noted_run (suc n) f base min h v off =
    plain-noted_run n (record f { states = set f.states h v }) base min (h + 1) v (λ i lo hi. off i (omega arith) (omega arith))
    ∙ ap (λ (z : PlainZone). with_out_run z (h + 1) n (holding_of v)) (plain-noted f base min h v (off_apart f.sides h (off h (omega arith) (omega arith))))

pub aside_noted_run : (n : ℕ) (sides : List (List ℕ)) (s : List State) (h : ℕ) (v : State) → IsPostedAside sides s → IsRunOff sides h n → ((w : ℕ) → is_posted_to w v ≡ false) →
    IsPostedAside sides (with_run s h n v)
aside_noted_run zero sides s h v x off out = x
aside_noted_run (suc n) sides s h v x off out =
    aside_noted_run n sides (set s h v) (h + 1) v (aside_noted sides s h v x (off h (omega arith) (omega arith)) out) (λ i lo hi. off i (omega arith) (omega arith)) out

-- the pages that are left free were so before
was_free : (a : Area) (t : MigrateType) (o : Option Chosen) (g : ℕ) → has (taken a 0 t o).free g ≡ true → has a.free g ≡ true
unfolding taken
was_free a t None g e = e
was_free a t (Some c) g e = (and_parts _ _ (sym (has-without_any a.free c.head 0 g) ∙ ap (λ u. has u g) (sym (free-taken a 0 t c)) ∙ e)).0

left_free : (n : ℕ) (a : Area) (t : MigrateType) (g : ℕ) → has (pages_left a t n).free g ≡ true → has a.free g ≡ true
unfolding take_after
left_free zero a t g e = e
left_free (suc n) a t g e = was_free a t (choose a 0 t) g (left_free n (take_after a 0 t) t g e)

as_long : (a : Area) (t : MigrateType) (o : Option Chosen) → length (taken a 0 t o).free ≡ length a.free
unfolding taken
as_long a t None = refl
as_long a t (Some c) = ap length (free-taken a 0 t c) ∙ length-without a.free c.head 0

left_length : (n : ℕ) (a : Area) (t : MigrateType) → length (pages_left a t n).free ≡ length a.free
unfolding take_after
left_length zero a t = refl
left_length (suc n) a t = left_length n (take_after a 0 t) t ∙ as_long a t (choose a 0 t)

-- clear pages in what is left lie in the zone, and none of them stands on a further list
pub part_room : (f g : Frames) (t : MigrateType) (n h : ℕ) → IsFramed f → g ≡ with_area f (pages_left f.area t n) → AreClear g h n → h + n ≤ length f.states
part_room f g t n h x e c = let d = rw e at c in omega (arith, d.inside, left_length n f.area t, x.pages)

pub part_length : (f g : Frames) (t : MigrateType) (n : ℕ) → g ≡ with_area f (pages_left f.area t n) → length g.states ≡ length f.states
part_length f g t n e = ap (λ (q : Frames). length q.states) e ∙ length-restated (pages_left f.area t n).largest (pages_left f.area t n).free f.states

pub part_off : (f g : Frames) (t : MigrateType) (n h : ℕ) → g ≡ with_area f (pages_left f.area t n) → AreClear g h n → IsRunOff f.sides h n
part_off f g t n h e c i lo hi r = let d = rw e at c in d.aside r i lo hi

-- the frames once so many pages from h on were taken and are noted out
abbrev pub frames_run : Frames → ℕ → MigrateType → ℕ → ℕ → Frames
frames_run f w t h n =
    let g : Frames = with_area f (pages_left f.area t n) in
    record g { states = with_run g.states h n (Out 0 t w) }

-- in the words of the code
pub held_run : (f g r : Frames) (w : ℕ) (t : MigrateType) (h n k : ℕ) → g ≡ with_area f (pages_left f.area t n) → k ≡ 0 → r ≡ record g { states = with_run g.states h n (Out k t w) } →
    r ≡ frames_run f w t h n
held_run f g r w t h n k e none held = rw (held, e, none)

module _ (f : Frames) (base min w : ℕ) (t : MigrateType) (h n : ℕ) (x : IsAsked f base min) (off : IsRunOff f.sides h n) where
  abbrev left : Area
  left = pages_left f.area t n

  beside : IsBeside f.sides left.free
  beside r p q = false_from_ne_true _ (λ v. both_ways _ (x.framed.beside r p q) (left_free n f.area t p v))

  pub run_left : plain_of (frames_run f w t h n) base min ≡ run_out (plain_of f base min) w t h n
  run_left =
      plain-noted_run n (with_area f left) base min h (Out 0 t w) off
      ∙ ap (λ (z : PlainZone). with_out_run z h n (holding_of (Out 0 t w))) (plain-with_area f left base min x.framed (λ g q. not_out f base min g x (left_free n f.area t g q)) beside)
      ∙ sym (run_out_is n (plain_of f base min) w t h)

  pub run_kept : {count : ℕ} → (name : List ℕ) → IsKept name f base min count → IsLawful (run_out (plain_of f base min) w t h n) → IsKept name (frames_run f w t h n) base min count
  run_kept {count} name y lawful =
      let s : List State = restated left.largest left.free f.states in
      kept_by name f (frames_run f w t h n) base min count y (length-run s h n (Out 0 t w) ∙ length-restated left.largest left.free f.states) refl
      (aside_noted_run n f.sides s h (Out 0 t w) (aside_restated left.largest f.sides left.free f.states y.aside beside) off (λ v. refl))
      (y.counted ∙ pages_same (plain_of f base min) (run_out (plain_of f base min) w t h n) (ap (λ (z : PlainZone). z.posted) (sym (run_out_is n (plain_of f base min) w t h))) ∙ ap posted_pages (sym run_left)) (rw run_left lawful)
