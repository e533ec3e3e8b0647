-- A run at any place that goes out.
use Rattle.std.proofs.Common.{ℕ, ◌+◌, ◌-◌, ◌^◌, ◌≡◌, ◌≤◌, ◌<◌, ◌&&◌, refl, sym, ◌∙◌, ap, true, false, leb, List, length}
use Rattle.std.proofs.lemmas.Bool.{and_parts, and_from, both_ways, false_from_ne_true, le-leb, leb-true}
use Rattle.zp_model.specs.Block.{has}
use Rattle.zp_model.specs.Area.{Area, kind_at}
use Rattle.zp_model.specs.Frames.{Frames, with_area}
use Rattle.zp_model.specs.PageblockType.{noted_type}
use Rattle.zp_model.specs.Runs.{IsFreeRun, hand_out_run, has_pages, is_run, leave_run, run_taken}
use Rattle.zp_model.specs.declared.refused.Refused.TheVariants.{BadRun, NotFree}
use Rattle.zp_model.specs.declared.request.Reply.{Reply}
use Rattle.zp_model.specs.Step.{Outcome, alloc_run_at, refuse}
use Rattle.zp_model.specs.Take.{leave}
use Rattle.zp_model.specs.Zone.{PlainZone, pages_of, posted_pages, workers_of}
use Rattle.zp_model.proofs.LowestRun.{has_pages-to}
use Rattle.zp_model.proofs.MaximalBlocks.{length-restated}
use Rattle.zp_model.proofs.RunGiven.{leave_block}
use Rattle.zp_model.proofs.RunParts.{within-to, without_pages-to}
use Rattle.zp_laws.proofs.Areas.{free-leave_run, kinds-leave_run, largest-leave_run}
use Rattle.zp_laws.proofs.KeepingRuns.{IsFree, run_taken_lawful, run_taken_rest}
use Rattle.zp_zone.specs.Kept.{IsKept, IsPostedAside, plain_of}
use Rattle.zp_zone.specs.RunsAt.{IsNotedRun}
use Rattle.zp_zone.proofs.BlockSteps.{IsAsked, not_out}
use Rattle.zp_zone.proofs.Noted.{IsBeside, aside_restated, kept_by, pages_same, plain-with_area}

-- a free block leaves as the run of its pages does
pub block_left : (f f2 : Frames) (h n k : ℕ) → f2 ≡ with_area f (leave f.area h k) → 2 ^ k ≡ n → f2 ≡ with_area f (leave_run f.area h n)
block_left f f2 h n k left whole = left ∙ ap (with_area f) (leave_block f.area h k ∙ ap (leave_run f.area h) whole)

-- of f the n pages from h on, all of them free, have left the free ones, which is f2
module _ (f f2 : Frames) (base min h n : ℕ) (x : IsAsked f base min) (inside : h + n ≤ length f.area.free) (full : IsFreeRun f.area h n) (left : f2 ≡ with_area f (leave_run f.area h n)) where
  was_free : (g : ℕ) → has (leave_run f.area h n).free g ≡ true → has f.area.free g ≡ true
  was_free g q = (without_pages-to f.area.free h n g (rw (free-leave_run f.area h n) at q)).0

  beside : IsBeside f.sides (leave_run f.area h n).free
  beside r p q = false_from_ne_true _ (λ v. both_ways _ (x.framed.beside r p q) (was_free p v))

  -- the further lists still have the posted pages
  pub left_aside : IsPostedAside f.sides f.states → IsPostedAside f2.sides f2.states
  left_aside y = rw left (aside_restated (leave_run f.area h n).largest f.sides (leave_run f.area h n).free f.states y beside)

  all_free : IsFree (plain_of f base min) h n
  all_free = record { inside = inside; full = λ i e. let r = within-to h n i e in has_pages-to f.area.free h n full i r.0 r.1 }

  -- and they are noted as out in w's name, each block of their cut with its pageblock's type
  module _ (y : Frames) (w : ℕ) (noted : IsNotedRun f2 y w (λ g. noted_type (kind_at f2.area.largest f2.area.kinds g)) h n) where
    pub run_out : plain_of y base min ≡ run_taken (plain_of f base min) w h n
    run_out =
        let a : Area = leave_run f.area h n in
        noted.plain base min
        ∙ ap (λ (g : Frames). hand_out_run (plain_of g base min) w (λ i. noted_type (kind_at g.area.largest g.area.kinds i)) h n) left
        ∙ ap (λ (z : PlainZone). hand_out_run z w (λ i. noted_type (kind_at a.largest a.kinds i)) h n) (plain-with_area f a base min x.framed (λ g q. not_out f base min g x (was_free g q)) beside)
        ∙ rw (largest-leave_run f.area h n, kinds-leave_run f.area h n) refl

    pub run_kept : {count : ℕ} → (name : List ℕ) → IsKept name f base min count → w < workers_of (plain_of f base min) → IsKept name y base min count
    run_kept {count} name k lt =
        let z : PlainZone = plain_of f base min in
        let pages : length f2.states ≡ length f.states = rw left (length-restated (leave_run f.area h n).largest (leave_run f.area h n).free f.states) in
        let sides : f2.sides ≡ f.sides = ap (λ (g : Frames). g.sides) left in
        kept_by name f y base min count k (noted.pages ∙ pages) (ap length (noted.sides ∙ sides)) noted.beside
        (k.counted ∙ pages_same z (run_taken z w h n) (sym (run_taken_rest z w h n).posted) ∙ ap posted_pages (sym run_out))
        (rw run_out (run_taken_lawful z w h n x.lawful lt all_free))

-- what a request for a run at a place comes to
module _ (z : PlainZone) (w p n : ℕ) where
  pub at_no_place : (z.base ≤ p → 0 < n → p - z.base + n ≤ pages_of z → ⊥) → alloc_run_at z w p n ≡ refuse z BadRun
  at_no_place none = rw (false_from_ne_true _ (λ e.
      let a = and_parts _ _ e in
      let b = and_parts _ _ a.1 in
      none (leb-true z.base p a.0) (leb-true 1 n b.0) (leb-true (p - z.base + n) (pages_of z) b.1))) refl

  placed : z.base ≤ p → 0 < n → p - z.base + n ≤ pages_of z → (leb z.base p && is_run (pages_of z) (p - z.base) n) ≡ true
  placed le some room = and_from _ _ (le-leb z.base p le) (and_from _ _ (le-leb 1 n some) (le-leb (p - z.base + n) (pages_of z) room))

  pub at_not_free : z.base ≤ p → 0 < n → p - z.base + n ≤ pages_of z → has_pages z.area.free (p - z.base) n ≡ false → alloc_run_at z w p n ≡ refuse z NotFree
  at_not_free le some room f = rw (placed le some room, f) refl

  pub at_got : z.base ≤ p → 0 < n → p - z.base + n ≤ pages_of z → has_pages z.area.free (p - z.base) n ≡ true →
      alloc_run_at z w p n ≡ (let o : Outcome = record { reply = Reply.Page p; zone = run_taken z w (p - z.base) n } in o)
  at_got le some room f = rw (placed le some room, f) refl
