-- A lawful zone stays lawful when a run of free pages goes out, and when a run that is lent comes back.
use Rattle.std.proofs.Common.{ℕ, ◌+◌, ◌-◌, ◌^◌, ◌≡◌, ◌≤◌, ◌<◌, inl, inr, refl, sym, ◌∙◌, ap, arith, Bool, true, false, List, [], ◌∷◌, length, not, ◌&&◌, ◌||◌, cond, get_or, Option, Some, None}
use Rattle.std.specs.List.{range_with_len, count_by}
use Rattle.std.proofs.Math.Bool.{or-true}
use Rattle.std.proofs.lemmas.Bool.{and_parts, and_from, or_cases, both_ways, cases_Bool, cases_lt, false_from_ne_true, false≢true, ltb-true, lt-ltb}
use Rattle.std.proofs.lemmas.Option.{none-some, same_Some}
use Rattle.std.proofs.lemmas.List.{get_or_past}
use Rattle.std.proofs.lemmas.List.FromFn.{get_or-map-range_with_len, get_or-range_with_len, length-map-range_with_len, length-range_with_len}
use Rattle.std.proofs.lemmas.List.Sums.{get_or-le-sum_by}
use Rattle.zp_model.specs.declared.migrate_type.MigrateType.{MigrateType}
use Rattle.zp_model.specs.Block.{has, in_run, IsBlock}
use Rattle.zp_model.specs.Area.{Area, kind_at}
use Rattle.zp_model.specs.Lawful.{holding_has, times_out, times_posted, IsLawful}
use Rattle.zp_model.specs.PageblockType.{noted_type}
use Rattle.zp_model.specs.Runs.{block_around, give_run, hand_out_blocks, is_within, kept_before, kept_from, leave_run, meets, run_freed, run_taken, with_pages, without_blocks, cut}
use Rattle.zp_model.specs.Zone.{PlainZone, Holding, holding_at, hand_out, pages_of, workers_of}
use Rattle.zp_model.proofs.Pages.{In, in_run-to, in_run-from}
use Rattle.zp_model.proofs.RunParts.{has-with_pages, has-without_pages, length-with_pages, length-without_pages, within-from, within-to}
use Rattle.zp_laws.proofs.Areas.{free-leave_run, kinds-leave_run, largest-leave_run, lists-leave_run, free-give_run, kinds-give_run, largest-give_run, lists-give_run}
use Rattle.zp_laws.proofs.Around.{IsAround, out_apart}
use Rattle.zp_laws.proofs.Counting.{count-none, counts-add, one_if}
use Rattle.zp_laws.proofs.HandedOut.{held_below}
use Rattle.zp_laws.proofs.Keeping.{one_place}
use Rattle.zp_laws.proofs.RunsOut.{IsLawfulBut, IsReady, but_none, cut_out}

-- the pages of a run of free ones leave, and lie nowhere
left_but : (z : PlainZone) (h n : ℕ) → IsLawful z → ((i : ℕ) → is_within h n i ≡ true → In z.area.free i) → IsLawfulBut (record z { area = leave_run z.area h n }) (is_within h n)
left_but z h n l full =
    let a = z.area in
    let pages : length (leave_run a h n).free ≡ pages_of z = ap length (free-leave_run a h n) ∙ length-without_pages a.free h n in
    let largest : (leave_run a h n).largest ≡ a.largest = largest-leave_run a h n in
    record {
      places = l.places ∙ sym pages;
      kinds = ap length (kinds-leave_run a h n) ∙ rw (largest, pages) l.kinds;
      out = rw (largest, pages) l.out;
      posted = rw (largest, pages) l.posted;
      once = λ i lt.
          let inside : i < pages_of z = rw pages at lt in
          moved (has a.free i) (has (leave_run a h n).free i) (is_within h n i) (times_out z.out i) (times_posted z.posted i)
          (ap (λ v. has v i) (free-leave_run a h n) ∙ has-without_pages a.free h n i inside) (full i) (one_place z l i inside);
      lists = lists-leave_run a h n l.lists;
    }
  where
    moved : (f f' r : Bool) (o p : ℕ) → f' ≡ (f && not r) → (r ≡ true → f ≡ true) → one_if f + o + p ≡ 1 → one_if f' + o + p + one_if r ≡ 1
    moved f f' r o p e sub s = grind arith

-- a run of free pages of the zone
pub record IsFree (z : PlainZone) (h n : ℕ) : Type 0 where
  pub inside : h + n ≤ pages_of z
  pub full : (i : ℕ) → is_within h n i ≡ true → In z.area.free i

-- they may go out to a worker
pub taken_ready : (z : PlainZone) (w h n : ℕ) → IsLawful z → w < workers_of z → IsFree z h n → IsReady (record z { area = leave_run z.area h n }) (is_within h n) w h n
taken_ready z w h n l lt x =
    let pages : length (leave_run z.area h n).free ≡ pages_of z = ap length (free-leave_run z.area h n) ∙ length-without_pages z.area.free h n in
    record { inside = rw pages x.inside; worker = lt; pages = λ i e. e; but = left_but z h n l x.full }

pub run_taken_lawful : (z : PlainZone) (w h n : ℕ) → IsLawful z → w < workers_of z → IsFree z h n → IsLawful (run_taken z w h n)
run_taken_lawful z w h n l lt x =
    but_none (run_taken z w h n) (λ i. is_within h n i && not (is_within h n i))
    (cut_out (record z { area = leave_run z.area h n }) (is_within h n) w (λ g. noted_type (kind_at z.area.largest z.area.kinds g)) h n (taken_ready z w h n l lt x)) (λ i. neither (is_within h n i))
  where
    neither : (b : Bool) → (b && not b) ≡ false
    neither b = grind arith

-- y has the free area of z, the posted blocks, the base and the least mark: it differs in what is out at most
pub record IsRest (z y : PlainZone) : Type 0 where
  pub area : y.area ≡ z.area
  pub posted : y.posted ≡ z.posted
  pub base : y.base ≡ z.base
  pub min : y.min ≡ z.min

-- blocks that go out leave the rest of the zone
pub out_rest : (w : ℕ) (kind : ℕ → MigrateType) (bs : List (ℕ × ℕ)) (z : PlainZone) → IsRest z (hand_out_blocks z w kind bs)
out_rest w kind [] z = record { area = refl; posted = refl; base = refl; min = refl }
out_rest w kind (b ∷ bs) z =
    let r : IsRest (hand_out z w b.0 b.1 (kind b.0)) (hand_out_blocks (hand_out z w b.0 b.1 (kind b.0)) w kind bs) = out_rest w kind bs (hand_out z w b.0 b.1 (kind b.0)) in
    record { area = r.area; posted = r.posted; base = r.base; min = r.min }

pub run_taken_rest : (z : PlainZone) (w h n : ℕ) → IsRest (record z { area = leave_run z.area h n }) (run_taken z w h n)
run_taken_rest z w h n =
    let y : PlainZone = record z { area = leave_run z.area h n } in
    out_rest w (λ g. noted_type (kind_at z.area.largest z.area.kinds g)) (cut y.area.largest h n) y

-- a run that is given back leaves the rest of the zone too, whatever blocks are around it
kept_before_rest : (z : PlainZone) (w h : ℕ) (o : Option (ℕ × Holding)) → IsRest z (kept_before z w h o)
kept_before_rest z w h None = record { area = refl; posted = refl; base = refl; min = refl }
kept_before_rest z w h (Some b) = out_rest w (λ g. b.1.kind) (cut z.area.largest b.0 (h - b.0)) z

kept_from_rest : (z : PlainZone) (w e : ℕ) (o : Option (ℕ × Holding)) → IsRest z (kept_from z w e o)
kept_from_rest z w e None = record { area = refl; posted = refl; base = refl; min = refl }
kept_from_rest z w e (Some b) = out_rest w (λ g. b.1.kind) (cut z.area.largest e (b.0 + 2 ^ b.1.order - e)) z

pub freed_run_rest : (z : PlainZone) (w h n : ℕ) → IsRest (record z { area = give_run z.area h n }) (run_freed z w h n)
freed_run_rest z w h n =
    let y2 : PlainZone = without_blocks (record z { area = give_run z.area h n }) h n in
    let y3 : PlainZone = kept_before y2 w h (block_around z w h) in
    let first : IsRest y2 y3 = kept_before_rest y2 w h (block_around z w h) in
    let last : IsRest y3 (kept_from y3 w (h + n) (block_around z w (h + n - 1))) = kept_from_rest y3 w (h + n) (block_around z w (h + n - 1)) in
    record { area = last.area ∙ first.area; posted = last.posted ∙ first.posted; base = last.base ∙ first.base; min = last.min ∙ first.min }

-- a count of a range has at least the one that passes
count-some : (p : ℕ → Bool) (n f : ℕ) → f < n → p f ≡ true → 1 ≤ count_by p (range_with_len 0 n)
count-some p n f lt e =
    let at : get_or (range_with_len 0 n) f 0 ≡ f = get_or-range_with_len 0 n f 0 lt ∙ omega arith in
    let one : one_if (p (get_or (range_with_len 0 n) f 0)) ≡ 1 = ap one_if (ap p at ∙ e) in
    omega (arith, get_or-le-sum_by (λ i. one_if (p i)) (range_with_len 0 n) f 0 (omega (arith, length-range_with_len 0 n)), one)

-- what is out when no block that meets a run is out any more
pub left_at : (z : PlainZone) (h n g : ℕ) → holding_at (without_blocks z h n).out g ≡ cond (meets h n g (holding_at z.out g)) None (holding_at z.out g)
left_at z h n g =
    let f : ℕ → Option Holding = λ g. cond (meets h n g (holding_at z.out g)) None (holding_at z.out g) in
    elim (cases_lt g (length z.out)) [
      | inl lt ↦ get_or-map-range_with_len f 0 (length z.out) g g None lt (omega arith)
      | inr past ↦ get_or_past (without_blocks z h n).out g None (omega (arith, length-map-range_with_len f 0 (length z.out))) ∙ sym (rw (get_or_past z.out g None past) refl)
    ]

pub length-left : (z : PlainZone) (h n : ℕ) → length (without_blocks z h n).out ≡ length z.out
length-left z h n = length-map-range_with_len (λ g. cond (meets h n g (holding_at z.out g)) None (holding_at z.out g)) 0 (length z.out)

pub meets-to : (h n g : ℕ) (x : Holding) → meets h n g (Some x) ≡ true → (g < h + n) × (h < g + 2 ^ x.order)
meets-to h n g x e = let a = and_parts _ _ e in (ltb-true g (h + n) a.0, ltb-true h (g + 2 ^ x.order) a.1)

pub meets-from : (h n g : ℕ) (x : Holding) → g < h + n → h < g + 2 ^ x.order → meets h n g (Some x) ≡ true
meets-from h n g x a b = and_from _ _ (lt-ltb g (h + n) a) (lt-ltb h (g + 2 ^ x.order) b)

-- whether the block out at g has page i and a page of the run, and how many of those there are
abbrev meeting : List (Option Holding) → ℕ → ℕ → ℕ → ℕ → Bool
meeting out h n i g = holding_has g i (holding_at out g) && meets h n g (holding_at out g)

abbrev meetings : List (Option Holding) → ℕ → ℕ → ℕ → ℕ
meetings out h n i = count_by (meeting out h n i) (range_with_len 0 (length out))

-- a page lies in as many blocks as are left, and in those that are not
left_times : (z : PlainZone) (h n i : ℕ) → times_out z.out i ≡ times_out (without_blocks z h n).out i + meetings z.out h n i
unfolding times_out
left_times z h n i =
    let y : PlainZone = without_blocks z h n in
    counts-add (λ g. holding_has g i (holding_at z.out g)) (λ g. holding_has g i (holding_at y.out g)) (meeting z.out h n i) 0 (length z.out)
    (λ g lo lt. rw (left_at z h n g) (parts g (holding_at z.out g) (meets h n g (holding_at z.out g))))
    ∙ ap (λ k. count_by (λ g. holding_has g i (holding_at y.out g)) (range_with_len 0 k) + meetings z.out h n i) (sym (length-left z h n))
  where
    parts : (g : ℕ) (o : Option Holding) (b : Bool) → one_if (holding_has g i o) ≡ one_if (holding_has g i (cond b None o)) + one_if (holding_has g i o && b)
    parts g o true = grind arith
    parts g o false = grind arith

-- a run that is lent to w: each of its pages lies in a block out in w's name
pub record IsLent (z : PlainZone) (w h n : ℕ) : Type 0 where
  pub some : 1 ≤ n
  pub around : (i : ℕ) → is_within h n i ≡ true → (c : ℕ × Holding) × IsAround z.out w i c

-- a run that is lent to a worker, with the blocks around its first and its last page
module _ (z : PlainZone) (l : IsLawful z) (w h n : ℕ) (lent : IsLent z w h n) (b e : ℕ × Holding) (x : IsAround z.out w h b) (y : IsAround z.out w (h + n - 1) e) where
  -- the zone when the run is free and no block that meets it is out, and the pages that lie nowhere then: those before the run and those behind it
  abbrev pub opened : PlainZone
  opened = without_blocks (record z { area = give_run z.area h n }) h n

  abbrev pub end : ℕ
  end = e.0 + 2 ^ e.1.order

  abbrev pub beside : ℕ → Bool
  beside i = is_within b.0 (h - b.0) i || is_within (h + n) (end - (h + n)) i

  -- a page beside the run lies in a block that meets it
  beside_meets : (i : ℕ) → beside i ≡ true → 1 ≤ meetings z.out h n i
  beside_meets i q =
      let r = in_run-to b.0 b.1.order h x.page in
      let s = in_run-to e.0 e.1.order (h + n - 1) y.page in
      elim (or_cases _ _ q) [
        | inl before ↦
            let c = within-to b.0 (h - b.0) i before in
            count-some (meeting z.out h n i) (length z.out) b.0 (held_below z.out b.0 b.1 x.at)
            (rw x.at (and_from _ _ (in_run-from b.0 b.1.order i c.0 (omega (arith, c.0, c.1, r.0, r.1))) (meets-from h n b.0 b.1 (omega (arith, r.0)) r.1)))
        | inr behind ↦
            let c = within-to (h + n) (end - (h + n)) i behind in
            count-some (meeting z.out h n i) (length z.out) e.0 (held_below z.out e.0 e.1 y.at)
            (rw y.at (and_from _ _ (in_run-from e.0 e.1.order i (omega (arith, c.0, s.0)) (omega (arith, c.0, c.1))) (meets-from h n e.0 e.1 (omega (arith, s.0)) (omega (arith, s.1)))))
      ]

  -- a page of the run does too
  run_meets : (i : ℕ) → is_within h n i ≡ true → 1 ≤ meetings z.out h n i
  run_meets i q =
      let c = lent.around i q in
      let r = in_run-to c.0.0 c.0.1.order i c.1.page in
      let s = within-to h n i q in
      count-some (meeting z.out h n i) (length z.out) c.0.0 (held_below z.out c.0.0 c.0.1 c.1.at)
      (rw c.1.at (and_from _ _ c.1.page (meets-from h n c.0.0 c.0.1 (omega (arith, r.0, s.1)) (omega (arith, r.1, s.0)))))

  -- and a page that does, and is none of the run, lies beside it
  pub meets_beside : (i g : ℕ) (c : Holding) → is_within h n i ≡ false → holding_at z.out g ≡ Some c → in_run g c.order i ≡ true → meets h n g (Some c) ≡ true → beside i ≡ true
  meets_beside i g c out at has q =
      let r = in_run-to g c.order i has in
      let m = meets-to h n g c q in
      elim (cases_lt i h) [
        | inl before ↦
            let same : g ≡ b.0 = out_apart z l g b.0 h c b.1 at x.at (in_run-from g c.order h (omega (arith, r.0)) m.1) x.page in
            rw (within-from b.0 (h - b.0) i (omega (arith, r.0)) (omega (arith, r.0))) refl
        | inr late ↦
            elim (cases_lt i (h + n)) [
              | inl inside ↦ absurd (both_ways _ out (within-from h n i late inside))
              | inr behind ↦
                  let same : g ≡ e.0 = out_apart z l g e.0 (h + n - 1) c e.1 at y.at (in_run-from g c.order (h + n - 1) (omega (arith, m.0)) (omega (arith, r.1))) y.page in
                  let one : c ≡ e.1 = same_Some c e.1 (sym at ∙ ap (holding_at z.out) same ∙ y.at) in
                  let size : 2 ^ c.order ≡ 2 ^ e.1.order = ap (λ (v : Holding). 2 ^ v.order) one in
                  rw (within-from (h + n) (end - (h + n)) i behind (omega (arith, r.1))) (or-true (is_within b.0 (h - b.0) i))
            ]
      ]

  none_meets : (i : ℕ) → is_within h n i ≡ false → beside i ≡ false → meetings z.out h n i ≡ 0
  none_meets i out off = count-none (meeting z.out h n i) 0 (length z.out) (λ g lo lt. false_from_ne_true _ (go g (holding_at z.out g) refl))
    where
      go : (g : ℕ) (o : Option Holding) → holding_at z.out g ≡ o → (holding_has g i o && meets h n g o) ≡ true → ⊥
      go g None at q = false≢true q
      go g (Some c) at q = let a = and_parts _ _ q in both_ways _ off (meets_beside i g c out at a.0 a.1)

  -- the pages beside the run are none of it
  beside-not : (i : ℕ) → is_within h n i ≡ true → beside i ≡ false
  beside-not i q = false_from_ne_true (beside i) (λ t. let r = within-to h n i q in elim (or_cases _ _ t) [
    | inl before ↦ let c = within-to b.0 (h - b.0) i before in omega (arith, c.1, r.0, (in_run-to b.0 b.1.order h x.page).0)
    | inr behind ↦ let c = within-to (h + n) (end - (h + n)) i behind in omega (arith, c.0, r.1)
  ])

  -- each page lies in one place
  opened_once : (i : ℕ) → i < pages_of z → one_if (has (with_pages z.area.free h n) i) + times_out opened.out i + times_posted z.posted i + one_if (beside i) ≡ 1
  opened_once i lt =
      let is : has (with_pages z.area.free h n) i ≡ (has z.area.free i || is_within h n i) = has-with_pages z.area.free h n i lt in
      let one = one_place z l i lt in
      let parts : times_out z.out i ≡ times_out opened.out i + meetings z.out h n i = left_times z h n i in
      elim (cases_Bool (is_within h n i)) [
        | inl t ↦
            let now : has (with_pages z.area.free h n) i ≡ true = is ∙ rw t (or-true (has z.area.free i)) in
            let free : one_if (has (with_pages z.area.free h n) i) ≡ 1 = ap one_if now in
            let off : one_if (beside i) ≡ 0 = ap one_if (beside-not i t) in
            omega (arith, one, run_meets i t)
        | inr f ↦
            let now : has (with_pages z.area.free h n) i ≡ has z.area.free i = is ∙ rw f (whole (has z.area.free i)) in
            let same : one_if (has (with_pages z.area.free h n) i) ≡ one_if (has z.area.free i) = ap one_if now in
            elim (cases_Bool (beside i)) [
              | inl s ↦ let on : one_if (beside i) ≡ 1 = ap one_if s in omega (arith, one, beside_meets i s)
              | inr s ↦ let off : one_if (beside i) ≡ 0 = ap one_if s in omega (arith, one, none_meets i f s)
            ]
      ]
    where
      whole : (b : Bool) → (b || false) ≡ b
      whole b = grind arith

  -- what is out then was out before, and does not meet the run
  pub opened_out : (g : ℕ) (c : Holding) → holding_at opened.out g ≡ Some c → (meets h n g (holding_at z.out g) ≡ false) × (holding_at z.out g ≡ Some c)
  opened_out g c q = go (meets h n g (holding_at z.out g)) refl (sym (left_at (record z { area = give_run z.area h n }) h n g) ∙ q)
    where
      go : (t : Bool) → meets h n g (holding_at z.out g) ≡ t → cond t None (holding_at z.out g) ≡ Some c → (meets h n g (holding_at z.out g) ≡ false) × (holding_at z.out g ≡ Some c)
      go true u q = absurd (none-some c q)
      go false u q = (u, q)

  opened_pages : length (give_run z.area h n).free ≡ pages_of z
  opened_pages = ap length (free-give_run z.area h n) ∙ length-with_pages z.area.free h n

  opened_but : IsLawfulBut opened beside
  opened_but =
      let a = z.area in
      let largest : (give_run a h n).largest ≡ a.largest = largest-give_run a h n in
      record {
        places = length-left (record z { area = give_run a h n }) h n ∙ l.places ∙ sym opened_pages;
        kinds = ap length (kinds-give_run a h n) ∙ rw (largest, opened_pages) l.kinds;
        out = λ g c q. rw (largest, opened_pages) (l.out g c (opened_out g c q).1);
        posted = rw (largest, opened_pages) l.posted;
        once = λ i lt. ap (λ v. one_if (has v i) + times_out opened.out i + times_posted z.posted i + one_if (beside i)) (free-give_run a h n) ∙ opened_once i (rw opened_pages at lt);
        lists = lists-give_run a h n l.lists;
      }

  -- the pages before the run may go out again
  pub before_ready : w < workers_of z → IsReady opened beside w b.0 (h - b.0)
  before_ready lt =
      let c : IsBlock z.area.largest (pages_of z) b.0 b.1.order = (l.out b.0 b.1 x.at).0 in
      let r = in_run-to b.0 b.1.order h x.page in
      record { inside = omega (arith, opened_pages, r.0, r.1, c.inside); worker = lt; pages = λ i q. rw q refl; but = opened_but }

  -- and then those behind it
  pub behind_ready : w < workers_of z → IsReady (kept_before opened w h (Some b)) (λ i. beside i && not (is_within b.0 (h - b.0) i)) w (h + n) (end - (h + n))
  behind_ready lt =
      let y3 : PlainZone = kept_before opened w h (Some b) in
      let rest = kept_before_rest opened w h (Some b) in
      let pages : pages_of y3 ≡ pages_of z = ap (λ (a : Area). length a.free) rest.area ∙ opened_pages in
      let workers : workers_of y3 ≡ workers_of z = ap length rest.posted in
      let c : IsBlock z.area.largest (pages_of z) e.0 e.1.order = (l.out e.0 e.1 y.at).0 in
      let r = in_run-to b.0 b.1.order h x.page in
      let s = in_run-to e.0 e.1.order (h + n - 1) y.page in
      record {
        inside = omega (arith, pages, s.0, s.1, c.inside);
        worker = rw workers lt;
        pages = λ i q.
            let t = within-to (h + n) (end - (h + n)) i q in
            let off : is_within b.0 (h - b.0) i ≡ false = false_from_ne_true _ (λ u. let v = within-to b.0 (h - b.0) i u in omega (arith, v.1, t.0, r.0)) in
            rw (q, off) refl;
        but = cut_out opened beside w (λ g. b.1.kind) b.0 (h - b.0) (before_ready lt);
      }

  -- when they are out too, each page lies in one place again
  pub freed_run_lawful : w < workers_of z → IsLawful (kept_from (kept_before opened w h (Some b)) w (h + n) (Some e))
  freed_run_lawful lt =
      let y3 : PlainZone = kept_before opened w h (Some b) in
      let before : ℕ → Bool = is_within b.0 (h - b.0) in
      let behind : ℕ → Bool = is_within (h + n) (end - (h + n)) in
      but_none (kept_from y3 w (h + n) (Some e)) (λ i. (beside i && not (before i)) && not (behind i))
      (cut_out y3 (λ i. beside i && not (before i)) w (λ g. e.1.kind) (h + n) (end - (h + n)) (behind_ready lt)) (λ i. neither (before i) (behind i))
    where
      neither : (a b : Bool) → ((((a || b) && not a)) && not b) ≡ false
      neither a b = grind arith
