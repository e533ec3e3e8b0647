-- What a request for a run changes of what is out: the worker's by exactly the pages handed out or given back, and nothing of other workers'.
use Rattle.std.proofs.Common.{ℕ, ◌+◌, ◌-◌, ◌/◌, ◌^◌, ◌≡◌, ◌≢◌, ◌<◌, inl, inr, refl, sym, ◌∙◌, ap, arith, Bool, true, false, not, ◌&&◌, cond, get_or, leb, max, Option, Some, None}
use Rattle.std.proofs.lemmas.Bool.{both_ways, cases_Bool, or_cases}
use Rattle.std.proofs.lemmas.List.{ext_get_or, length-map}
use Rattle.std.proofs.lemmas.Nat.{pow_pos}
use Rattle.std.proofs.lemmas.Option.{same_Some}
use Rattle.zp_model.specs.declared.migrate_type.MigrateType.{MigrateType}
use Rattle.zp_model.specs.declared.pageblock_type.PageblockType.TheVariants.{Movable}
use Rattle.zp_model.specs.Area.{Area, kind_at}
use Rattle.zp_model.specs.Block.{has, IsBlock}
use Rattle.zp_model.specs.declared.request.Request.{Request}
use Rattle.zp_model.specs.Books.{only, own, type_of_page}
use Rattle.zp_model.specs.Run.{may_ask}
use Rattle.zp_model.specs.Step.{step}
use Rattle.zp_model.specs.Lawful.{IsLawful}
use Rattle.zp_model.specs.PageblockType.{noted_type}
use Rattle.zp_model.specs.Runs.{give_run, is_within, kept_before, kept_from, leave_run, meets, run_freed, run_taken, without_blocks}
use Rattle.zp_model.specs.Zone.{PlainZone, Holding, holding_at, pages_of, workers_of}
use Rattle.zp_model.proofs.Heads.{number_around}
use Rattle.zp_model.proofs.Pages.{in_run-to, in_run-from}
use Rattle.zp_model.proofs.RunParts.{with_pages-new, within-from, within-to}
use Rattle.zp_laws.specs.FreePages.{given_back, handed_out}
use Rattle.zp_laws.specs.KeptRuns.{IsForRun, lent_type}
use Rattle.zp_laws.proofs.Areas.{free-give_run, largest-leave_run}
use Rattle.zp_laws.proofs.Around.{IsAround, out_apart}
use Rattle.zp_laws.proofs.BooksOut.{only_other, own-at}
use Rattle.zp_laws.proofs.KeepingRuns.{IsFree, IsLent, before_ready, behind_ready, beside, freed_run_lawful, freed_run_rest, left_at, length-left, meets-to, meets_beside, opened_out, run_taken_lawful, run_taken_rest, taken_ready}
use Rattle.zp_laws.proofs.Moves.{run-absolute}
use Rattle.zp_laws.proofs.RunsLent.{IsLentToo, cut_lent, type_around, type_none, type_same, type_some}
use Rattle.zp_laws.proofs.RunSteps.{alloc_run_by, alloc_run_at_by, free_run_by, lent-not_free, lent_inside, may_free-to, run_freed_lawful}

-- what is lent when a run of free pages goes out
module _ (z : PlainZone) (l : IsLawful z) (w h n : ℕ) (lt : w < workers_of z) (x : IsFree z h n) where
  pub taken_lent : IsLentToo (record z { area = leave_run z.area h n }) (run_taken z w h n) w (λ g. noted_type (kind_at z.area.largest z.area.kinds g)) h n
  taken_lent = cut_lent (record z { area = leave_run z.area h n }) (is_within h n) w (λ g. noted_type (kind_at z.area.largest z.area.kinds g)) h n (taken_ready z w h n l lt x)

  -- a page of it is lent for its pageblock's type, and each other page is as before
  taken_type : (i : ℕ) → type_around (run_taken z w h n) w i ≡ cond (is_within h n i) (Some (noted_type (kind_at z.area.largest z.area.kinds i))) (type_around z w i)
  taken_type i = go (is_within h n i) refl
    where
      y : PlainZone
      y = run_taken z w h n

      lawful : IsLawful (run_taken z w h n)
      lawful = run_taken_lawful z w h n l lt x

      go : (t : Bool) → is_within h n i ≡ t → type_around (run_taken z w h n) w i ≡ cond t (Some (noted_type (kind_at z.area.largest z.area.kinds i))) (type_around z w i)
      go true q =
          let c = taken_lent.new i q in
          let same = run_taken_rest z w h n in
          let largest : (run_taken z w h n).area.largest ≡ z.area.largest = ap (λ (a : Area). a.largest) same.area ∙ largest-leave_run z.area h n in
          let block : IsBlock (run_taken z w h n).area.largest (pages_of (run_taken z w h n)) c.0.0 c.0.1.order = (lawful.out c.0.0 c.0.1 c.1.at).0 in
          let r = in_run-to c.0.0 c.0.1.order i c.1.page in
          let number : i / 2 ^ z.area.largest ≡ c.0.0 / 2 ^ z.area.largest = number_around c.0.0 i c.0.1.order z.area.largest (omega (arith, block.order)) block.aligned r.0 r.1 in
          type_some (run_taken z w h n) w i c.0 lawful c.1 ∙ ap (λ t. Some t) c.2
          ∙ ap (λ b. Some (noted_type (get_or z.area.kinds b Movable))) (sym number)
      go false q = type_same z (run_taken z w h n) w i l lawful (λ c a. (c, taken_lent.kept w i c a, refl)) (λ d a. (
        d,
        elim (taken_lent.only w i d a) [
          | inl old ↦ old
          | inr new ↦ absurd (both_ways _ q new.1)
        ],
      ))

-- a run that is lent comes back; there are blocks around its first page and its last
module _ (z : PlainZone) (l : IsLawful z) (w h n : ℕ) (x : IsLent z w h n) (lt : w < workers_of z) (b e : ℕ × Holding) (s : IsAround z.out w h b) (t : IsAround z.out w (h + n - 1) e) where
  abbrev y2 : PlainZone
  y2 = without_blocks (record z { area = give_run z.area h n }) h n

  abbrev y3 : PlainZone
  y3 = kept_before y2 w h (Some b)

  abbrev y4 : PlainZone
  y4 = kept_from y3 w (h + n) (Some e)

  abbrev last : ℕ
  last = e.0 + 2 ^ e.1.order

  pub before_lent : IsLentToo y2 y3 w (λ g. b.1.kind) b.0 (h - b.0)
  before_lent = cut_lent y2 (beside z l w h n x b e s t) w (λ g. b.1.kind) b.0 (h - b.0) (before_ready z l w h n x b e s t lt)

  pub behind_lent : IsLentToo y3 y4 w (λ g. e.1.kind) (h + n) (last - (h + n))
  behind_lent =
      cut_lent y3 (λ i. beside z l w h n x b e s t i && not (is_within b.0 (h - b.0) i)) w (λ g. e.1.kind) (h + n) (last - (h + n)) (behind_ready z l w h n x b e s t lt)

  -- the blocks around the run's ends have the pages beside it
  before_has : (i : ℕ) → is_within b.0 (h - b.0) i ≡ true → IsAround z.out w i b
  before_has i q =
      let r = within-to b.0 (h - b.0) i q in
      let c = in_run-to b.0 b.1.order h s.page in
      record { at = s.at; worker = s.worker; page = in_run-from b.0 b.1.order i r.0 (omega (arith, r.0, r.1, c.0, c.1)) }

  behind_has : (i : ℕ) → is_within (h + n) (last - (h + n)) i ≡ true → IsAround z.out w i e
  behind_has i q =
      let r = within-to (h + n) (last - (h + n)) i q in
      let c = in_run-to e.0 e.1.order (h + n - 1) t.page in
      record { at = t.at; worker = t.worker; page = in_run-from e.0 e.1.order i (omega (arith, r.0, c.0)) (omega (arith, r.0, r.1)) }

  -- what is out when no block that meets the run is
  pub rest_from : (v i : ℕ) (c : ℕ × Holding) → IsAround z.out v i c → meets h n c.0 (Some c.1) ≡ false → IsAround y2.out v i c
  rest_from v i c a f = record { at = left_at (record z { area = give_run z.area h n }) h n c.0 ∙ rw (a.at, f) refl; worker = a.worker; page = a.page }

  rest_to : (v i : ℕ) (c : ℕ × Holding) → IsAround y2.out v i c → IsAround z.out v i c
  rest_to v i c a = record { at = (opened_out z l w h n x b e s t c.0 c.1 a.at).1; worker = a.worker; page = a.page }

  -- one block has a page
  one_kind : (i : ℕ) (c d : ℕ × Holding) → IsAround z.out w i c → IsAround z.out w i d → c.1.kind ≡ d.1.kind
  one_kind i c d a f =
      let same : c.0 ≡ d.0 = out_apart z l c.0 d.0 i c.1 d.1 a.at f.at a.page f.page in
      ap (λ (y : Holding). y.kind) (same_Some c.1 d.1 (sym a.at ∙ ap (holding_at z.out) same ∙ f.at))

  kept_type : (i : ℕ) → is_within h n i ≡ false → type_around y4 w i ≡ type_around z w i
  kept_type i out = type_same z y4 w i l (freed_run_lawful z l w h n x b e s t lt)
      (λ c a. elim (cases_Bool (meets h n c.0 (Some c.1))) [
        | inr f ↦ (c, behind_lent.kept w i c (before_lent.kept w i c (rest_from w i c a f)), refl)
        | inl m ↦ elim (or_cases _ _ (meets_beside z l w h n x b e s t i c.0 c.1 out a.at a.page m)) [
          | inl q ↦ let d = before_lent.new i q in (d.0, behind_lent.kept w i d.0 d.1, d.2 ∙ one_kind i b c (before_has i q) a)
          | inr q ↦ let d = behind_lent.new i q in (d.0, d.1, d.2 ∙ one_kind i e c (behind_has i q) a)
        ]
      ])
      (λ d a. elim (behind_lent.only w i d a) [
        | inr q ↦ (e, behind_has i q.1)
        | inl f ↦ elim (before_lent.only w i d f) [ inr q ↦ (b, before_has i q.1) | inl g ↦ (d, rest_to w i d g) ]
      ])

  -- a block that meets the run is the worker's
  meets-own : (g : ℕ) (c : Holding) → holding_at z.out g ≡ Some c → meets h n g (Some c) ≡ true → c.worker ≡ w
  meets-own g c at m =
      let r = meets-to h n g c m in
      let j : ℕ = max g h in
      let d = x.around j (within-from h n j (omega arith) (omega (arith, r.0, x.some))) in
      let same : g ≡ d.0.0 = out_apart z l g d.0.0 j c d.0.1 at d.1.at (in_run-from g c.order j (omega arith) (omega (arith, r.1, pow_pos c.order))) d.1.page in
      ap (λ (y : Holding). y.worker) (same_Some c d.0.1 (sym at ∙ ap (holding_at z.out) same ∙ d.1.at)) ∙ d.1.worker

  rest_others : (u : ℕ) → u ≢ w → own u y2.out ≡ own u z.out
  rest_others u ne =
      ext_get_or None (own u y2.out) (own u z.out) (length-map y2.out (only u) ∙ length-left (record z { area = give_run z.area h n }) h n ∙ sym (length-map z.out (only u)))
      (λ g below. own-at u g y2.out ∙ ap (only u) (left_at (record z { area = give_run z.area h n }) h n g) ∙ go g (holding_at z.out g) refl ∙ sym (own-at u g z.out))
    where
      other : (g : ℕ) (c : Holding) → holding_at z.out g ≡ Some c → (m : Bool) → meets h n g (Some c) ≡ m → only u (cond m None (Some c)) ≡ only u (Some c)
      other g c at true m = sym (only_other u c (λ q. ne (q ∙ meets-own g c at m)))
      other g c at false m = refl

      go : (g : ℕ) (o : Option Holding) → holding_at z.out g ≡ o → only u (cond (meets h n g o) None o) ≡ only u o
      go g None at = refl
      go g (Some c) at = other g c at (meets h n g (Some c)) refl

  kept_others : (u : ℕ) → u ≢ w → own u y4.out ≡ own u z.out
  kept_others u ne = behind_lent.others u ne ∙ before_lent.others u ne ∙ rest_others u ne

-- what is lent when a run comes back: a page of it is not, and each other page is as before
module _ (z : PlainZone) (l : IsLawful z) (w h n : ℕ) (lt : w < workers_of z) (x : IsLent z w h n) where
  freed_type : (i : ℕ) → type_around (run_freed z w h n) w i ≡ cond (is_within h n i) None (type_around z w i)
  freed_type i = go (is_within h n i) refl
    where
      go : (t : Bool) → is_within h n i ≡ t → type_around (run_freed z w h n) w i ≡ cond t None (type_around z w i)
      go true q = type_none (run_freed z w h n) w i (λ c a.
          let r = within-to h n i q in
          let now : has (run_freed z w h n).area.free i ≡ true = ap (λ (a : Area). has a.free i) (freed_run_rest z w h n).area ∙ ap (λ u. has u i) (free-give_run z.area h n)
          ∙ with_pages-new z.area.free h n i (omega (arith, r.1, lent_inside z w h n l x)) r.0 r.1 in
          both_ways (has (run_freed z w h n).area.free i) (lent-not_free (run_freed z w h n) w i c (run_freed_lawful z l w h n lt x) a) now)
      go false q = free_run_by (λ y. type_around y w i ≡ type_around z w i) z w h n l x (λ b e s t. kept_type z l w h n x lt b e s t i q)

  pub freed_others : (u : ℕ) → u ≢ w → own u (run_freed z w h n).out ≡ own u z.out
  freed_others u ne = free_run_by (λ y. own u y.out ≡ own u z.out) z w h n l x (λ b e s t. kept_others z l w h n x lt b e s t u ne)

-- in absolute pages
lent_told : (z y : PlainZone) (w h n p : ℕ) (v : Option MigrateType) → y.base ≡ z.base → type_around y w (p - z.base) ≡ cond (is_within h n (p - z.base)) v (type_around z w (p - z.base)) →
    lent_type y w p ≡ cond (is_within (z.base + h) n p) v (lent_type z w p)
lent_told z y w h n p v base e =
    ap (λ b. cond (leb b p) (type_around y w (p - b)) None) base
    ∙ rw (e, run-absolute z.base h n p) (parts (leb z.base p) (is_within h n (p - z.base)) v (type_around z w (p - z.base)))
  where
    parts : (a r : Bool) (v o : Option MigrateType) → cond a (cond r v o) None ≡ cond (a && r) v (cond a o None)
    parts a r v o = grind arith

pub run_step_lent : (z : PlainZone) (w : ℕ) (q : Request) (p : ℕ) → IsLawful z → w < workers_of z → may_ask z w q ≡ true → IsForRun q →
    lent_type (step z w q).zone w p ≡ cond (handed_out q (step z w q).reply p) (Some (type_of_page z (p - z.base))) (cond (given_back q p) None (lent_type z w p))
run_step_lent z w (Request.AllocRun n a m) p l lt e r =
    alloc_run_by (λ o. lent_type o.zone w p ≡ cond (handed_out (Request.AllocRun n a m) o.reply p) (Some (type_of_page z (p - z.base))) (lent_type z w p)) z w n a m (λ r. refl)
    (λ h x. lent_told z (run_taken z w h n) w h n p (Some (type_of_page z (p - z.base))) (run_taken_rest z w h n).base (taken_type z l w h n lt x (p - z.base)))
run_step_lent z w (Request.AllocRunAt g n) p l lt e r =
    alloc_run_at_by (λ o. lent_type o.zone w p ≡ cond (handed_out (Request.AllocRunAt g n) o.reply p) (Some (type_of_page z (p - z.base))) (lent_type z w p)) z w g n (λ r. refl)
    (λ le x.
    let h : ℕ = g - z.base in
    let at : z.base + (g - z.base) ≡ g = omega arith in
    rw at at (lent_told z (run_taken z w h n) w h n p (Some (type_of_page z (p - z.base))) (run_taken_rest z w h n).base (taken_type z l w h n lt x (p - z.base))))
run_step_lent z w (Request.FreeRun g n) p l lt e r =
    let h : ℕ = g - z.base in
    let x = may_free-to z w g n e in
    let at : z.base + (g - z.base) ≡ g = omega (arith, x.0) in
    rw at at (lent_told z (run_freed z w h n) w h n p None (freed_run_rest z w h n).base (freed_type z l w h n lt x.1 (p - z.base)))
run_step_lent z w (Request.Alloc k t m) p l lt e r = absurd r
run_step_lent z w (Request.AllocLow k) p l lt e r = absurd r
run_step_lent z w (Request.Free b k) p l lt e r = absurd r
run_step_lent z w (Request.Post b k to) p l lt e r = absurd r
run_step_lent z w Request.Collect p l lt e r = absurd r
run_step_lent z w (Request.Refill t m n) p l lt e r = absurd r
run_step_lent z w (Request.Drain t ps) p l lt e r = absurd r
run_step_lent z w (Request.Isolate b) p l lt e r = absurd r
run_step_lent z w (Request.Release b t) p l lt e r = absurd r
