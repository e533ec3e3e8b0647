-- A refill's next pages, where so many requests for a page of the area would be answered with pages that rise.
use Rattle.std.proofs.Common.{ℕ, suc, zero, ◌+◌, ◌-◌, ◌/◌, ◌^◌, ◌≡◌, ◌≤◌, ◌<◌, inl, inr, refl, sym, ◌∙◌, ap, arith, set, Bool, true, false, not, ◌&&◌, List, [], ◌∷◌, ◌++◌, length, get_or, get_or-set_same, get_or-set_other, length-set, Option, Some}
use Rattle.std.specs.List.{range_with_len}
use Rattle.std.proofs.lemmas.Bool.{cases_Bool, cases_eq, cases_lt}
use Rattle.std.proofs.lemmas.List.{append-nil, append_assoc, get_or_past, length-append}
use Rattle.std.proofs.lemmas.List.FromFn.{get_or-map-range_with_len, length-map-range_with_len}
use Rattle.zp_model.specs.declared.migrate_type.MigrateType.{MigrateType}
use Rattle.zp_model.specs.declared.mark.Mark.{Mark}
use Rattle.zp_model.specs.declared.mark.Mark.TheVariants.{Any}
use Rattle.zp_model.specs.declared.pageblock_type.PageblockType.{PageblockType}
use Rattle.zp_model.specs.declared.pageblock_type.PageblockType.TheVariants.{Movable}
use Rattle.zp_model.specs.declared.request.Reply.{Reply}
use Rattle.zp_model.specs.Area.{Area, available, is_isolated, pageblock_pages}
use Rattle.zp_model.specs.Block.{has, in_run, size, without}
use Rattle.zp_model.specs.Choose.{Chosen, choose}
use Rattle.zp_model.specs.PageblockType.{is_isolate, pageblock_type}
use Rattle.zp_model.specs.Take.{retype, take_answer, take_after, taken}
use Rattle.zp_model.specs.Mark.{is_above, pages_at_hand, passes}
use Rattle.zp_model.specs.Zone.{PlainZone, hand_out, workers_of}
use Rattle.zp_model.specs.Step.{Outcome, alloc, alloc_chosen}
use Rattle.zp_model.specs.Lawful.{IsLawful, IsListedArea}
use Rattle.zp_model.proofs.Normal.{Filled}
use Rattle.zp_model.proofs.Pages.{In}
use Rattle.zp_model.proofs.Covers.{length-without}
use Rattle.zp_laws.proofs.Areas.{free-taken, kinds-leave, kinds-retype, kinds-unclaimed, largest-taken}
use Rattle.zp_laws.proofs.Choosing.{asked-not_isolate, choose_found, choose_passes, found_block, found_free}
use Rattle.zp_laws.proofs.Counting.{has-without_any, same_marks, size-without}
use Rattle.zp_laws.proofs.StaysOut.{alloc-kept, alloc-handed}
use Rattle.zp_laws.proofs.Steps.{alloc_lawful}
use Rattle.zp_buddy.specs.Runs.{pages_taken, run_pages}
use Rattle.zp_zone.specs.Runs.{IsRunGot, page_out, run_out}
use Rattle.zp_zone.proofs.BlockSteps.{alloc_some, chosen_some}
use Rattle.zp_zone.proofs.RefillSteps.{IsGiven, IsGot, got_more}

-- a request for a page that goes on gets the page that the area answers
given_page : (z : PlainZone) (w : ℕ) (t : MigrateType) (m : Mark) (h : ℕ) → passes z 0 m ≡ true → take_answer z.area 0 t ≡ Some h →
    (Reply.Page (z.base + h) ≡ (alloc z w 0 t m).reply) × ((alloc z w 0 t m).zone ≡ page_out z w t h)
unfolding take_after
given_page z w t m h p e =
    let c = chosen_some z.area 0 h t (sym e) in
    let a : alloc z w 0 t m ≡ alloc_chosen z w 0 t (Some c.0) = alloc_some z w 0 t m c.0 p c.1 in (
      ap (λ g. Reply.Page (z.base + g)) (sym c.2) ∙ ap (λ (o : Outcome). o.reply) (sym a),
      ap (λ (o : Outcome). o.zone) a
          ∙ ap (λ g. hand_out (record z { area = taken z.area 0 t (Some c.0) }) w g 0 t) c.2
          ∙ ap (λ x. hand_out (record z { area = taken z.area 0 t x }) w h 0 t) (sym c.1),
    )

length-available : (m : ℕ) (kinds : List PageblockType) (u : List Bool) → length (available m kinds u) ≡ length u
unfolding available
length-available m kinds u = length-map-range_with_len (λ h. has u h && not (is_isolated m kinds h)) 0 (length u)

has-available : (m : ℕ) (kinds : List PageblockType) (u : List Bool) (i : ℕ) → has (available m kinds u) i ≡ (has u i && not (is_isolated m kinds i))
unfolding available
has-available m kinds u i = elim (cases_lt i (length u)) [
  | inl lt ↦ get_or-map-range_with_len (λ h. has u h && not (is_isolated m kinds h)) 0 (length u) i i false lt (omega arith)
  | inr ge ↦ get_or_past (available m kinds u) i false (omega (arith, length-available m kinds u)) ∙ sym (rw (get_or_past u i false ge) refl)
]

-- a pageblock that is not isolated, and gets a type that is not, is isolated as little as before, and so are the others
isolated_same : (kinds : List PageblockType) (b i : ℕ) (s : PageblockType) → is_isolate s ≡ false → is_isolate (get_or kinds b Movable) ≡ false →
    is_isolate (get_or (set kinds b s) i Movable) ≡ is_isolate (get_or kinds i Movable)
isolated_same kinds b i s new old = elim (cases_eq b i) [
  | inr ne ↦ ap is_isolate (get_or-set_other kinds b i s Movable (λ e. ne (sym e)))
  | inl same ↦ elim (cases_lt b (length kinds)) [
    | inl lt ↦ rw (← same) (ap is_isolate (get_or-set_same kinds b s Movable lt) ∙ new ∙ sym old)
    | inr ge ↦ rw (← same) (ap is_isolate (get_or_past (set kinds b s) b Movable (omega (arith, length-set kinds b s)) ∙ sym (get_or_past kinds b Movable ge)))
  ]
]

module _ (a : Area) (t : MigrateType) (c : Chosen) (l : IsListedArea a) (e : choose a 0 t ≡ Some c) where
  same_isolated : (i : ℕ) → is_isolated a.largest (taken a 0 t (Some c)).kinds i ≡ is_isolated a.largest a.kinds i
  unfolding taken
  same_isolated i = elim (cases_Bool c.claims) [
    | inr stays ↦ ap (λ ks. is_isolated a.largest ks i) (kinds-unclaimed a 0 t c stays)
    | inl claims ↦
        let b : ℕ = c.head / pageblock_pages a.largest in
        let kinds = kinds-leave (retype a b (pageblock_type t)) c.head 0 ∙ kinds-retype a b (pageblock_type t) in
        rw claims (ap (λ ks. is_isolated a.largest ks i) kinds ∙ isolated_same a.kinds b (i / pageblock_pages a.largest) (pageblock_type t) (asked-not_isolate t) (choose_passes a 0 t c l e))
  ]

  -- the page that is chosen is at hand no more
  at_hand_without : available a.largest (taken a 0 t (Some c)).kinds (taken a 0 t (Some c)).free ≡ without (available a.largest a.kinds a.free) c.head 0
  at_hand_without =
      let b : Area = taken a 0 t (Some c) in
      let u : List Bool = a.free in
      ap (available a.largest b.kinds) (free-taken a 0 t c)
      ∙ same_marks (available a.largest b.kinds (without u c.head 0)) (without (available a.largest a.kinds u) c.head 0)
      (length-available a.largest b.kinds (without u c.head 0) ∙ length-without u c.head 0 ∙ sym (length-available a.largest a.kinds u) ∙ sym (length-without (available a.largest a.kinds u) c.head 0)) (λ i.
      has-available a.largest b.kinds (without u c.head 0) i
      ∙ (λ j. has-without_any u c.head 0 i j && not (same_isolated i j))
      ∙ apart (has u i) (in_run c.head 0 i) (is_isolated a.largest a.kinds i)
      ∙ sym (has-without_any (available a.largest a.kinds u) c.head 0 i ∙ ap (λ q. q && not (in_run c.head 0 i)) (has-available a.largest a.kinds u i)))
    where
      apart : (p q r : Bool) → ((p && not q) && not r) ≡ ((p && not r) && not q)
      apart p q r = grind arith

  at_hand_less : size (available a.largest a.kinds a.free) ≡ size (available (taken a 0 t (Some c)).largest (taken a 0 t (Some c)).kinds (taken a 0 t (Some c)).free) + 1
  at_hand_less =
      let found = choose_found a 0 t c l e in
      let block = found_block a.largest a.free 0 c.head found in
      let shut = choose_passes a 0 t c l e in
      let v : List Bool = available a.largest a.kinds a.free in
      let one : 2 ^ 0 ≡ 1 = refl in
      let filled : Filled (In v) c.head 0 = λ i lo hi.
      let same : c.head ≡ i = omega arith in
      rw (← same) (has-available a.largest a.kinds a.free c.head ∙ rw (found_free a.largest a.free 0 c.head found c.head (omega arith) (omega arith), shut) refl) in
      size-without v c.head 0 (rw (length-available a.largest a.kinds a.free) block.inside) filled
      ∙ ap (λ w. size w + 1) (sym at_hand_without)
      ∙ ap (λ m. size (available m (taken a 0 t (Some c)).kinds (taken a 0 t (Some c)).free) + 1) (sym (largest-taken a 0 t c))

pub hand_less : (z : PlainZone) (w : ℕ) (t : MigrateType) (h : ℕ) → IsListedArea z.area → take_answer z.area 0 t ≡ Some h →
    pages_at_hand z ≡ pages_at_hand (page_out z w t h) + 1
unfolding take_after
hand_less z w t h l e =
    let c = chosen_some z.area 0 h t (sym e) in
    at_hand_less z.area t c.0 l c.1
    ∙ ap (λ x. size (available (taken z.area 0 t x).largest (taken z.area 0 t x).kinds (taken z.area 0 t x).free) + 1) (sym c.1)

taken_parts : (x y : Option ℕ) (xs ys : List (Option ℕ)) → x ∷ xs ≡ y ∷ ys → (x ≡ y) × (xs ≡ ys)
taken_parts x y xs ys e = (cc, cc)

-- pages that go out leave a lawful zone, of as many workers
pub run_lawful : (n : ℕ) (z : PlainZone) (w : ℕ) (t : MigrateType) (h : ℕ) → IsLawful z → w < workers_of z → pages_taken z.area t n ≡ run_pages h n → IsLawful (run_out z w t h n)
run_lawful zero z w t h l wl e = l
run_lawful (suc n) z w t h l wl e =
    let parts = taken_parts (take_answer z.area 0 t) (Some h) (pages_taken (take_after z.area 0 t) t n) (run_pages (h + 1) n) e in
    run_lawful n (page_out z w t h) w t (h + 1) (rw (given_page z w t Any h refl parts.0).1 at (alloc_lawful z w 0 t Any l wl)) wl parts.1

pub run_workers : (n : ℕ) (z : PlainZone) (w : ℕ) (t : MigrateType) (h : ℕ) → workers_of (run_out z w t h n) ≡ workers_of z
run_workers zero z w t h = refl
run_workers (suc n) z w t h = run_workers n (page_out z w t h) w t (h + 1)

-- the refill has these pages more
got_run : (n : ℕ) (before z : PlainZone) (w : ℕ) (t : MigrateType) (m : Mark) (count : ℕ) (pages : List ℕ) (h : ℕ) → IsGot before z w t m count pages → IsLawful z → w < workers_of z →
    length pages + n ≤ count → pages_taken z.area t n ≡ run_pages h n → ((i : ℕ) → i < n → is_above z.min (pages_at_hand z - i) 0 m ≡ true) →
    IsGot before (run_out z w t h n) w t m count (pages ++ range_with_len (z.base + h) n)
got_run zero before z w t m count pages h x l wl room e may = rw (append-nil pages) x
got_run (suc n) before z w t m count pages h x l wl room e may =
    let parts = taken_parts (take_answer z.area 0 t) (Some h) (pages_taken (take_after z.area 0 t) t n) (run_pages (h + 1) n) e in
    let now : pages_at_hand z - 0 ≡ pages_at_hand z = omega arith in
    let p : passes z 0 m ≡ true = rw now at (may 0 (omega arith)) in
    let y : PlainZone = page_out z w t h in
    let g = given_page z w t m h p parts.0 in
    let handed = alloc-handed z w 0 t m l (z.base + h) g.0 in
    let less : pages_at_hand z ≡ pages_at_hand y + 1 = hand_less z w t h l.lists parts.0 in
    let given : IsGiven z y w t m (z.base + h) = record {
      reply = g.0;
      zone = sym g.1;
      out = rw g.1 at handed.out;
      fresh = handed.fresh;
      kept = λ v q j on. rw g.1 at (alloc-kept z w 0 t m l v q j on);
    } in
    let more = got_more before z y w t m count (z.base + h) pages x (omega arith) given in
    let far : z.base + (h + 1) ≡ z.base + h + 1 = omega arith in
    let rest = got_run n before y w t m count (pages ++ (z.base + h) ∷ []) (h + 1) more (rw g.1 at (alloc_lawful z w 0 t m l wl)) wl (omega (arith, length-append pages ((z.base + h) ∷ []))) parts.1 (λ i lt.
    let s : pages_at_hand y - i ≡ pages_at_hand z - suc i = omega arith in
    ap (λ q. is_above z.min q 0 m) s ∙ may (suc i) (omega arith)) in
    rw (append_assoc pages ((z.base + h) ∷ []) (range_with_len (z.base + (h + 1)) n), far) at rest

pub got_part : (before z y : PlainZone) (w : ℕ) (t : MigrateType) (m : Mark) (count : ℕ) (pages : List ℕ) (p n : ℕ) → IsGot before z w t m count pages → IsRunGot z y w t m p n → w < workers_of z →
    length pages + n ≤ count → IsGot before y w t m count (pages ++ range_with_len p n)
got_part before z y w t m count pages p n x g wl room = rw (g.at, g.after) (got_run n before z w t m count pages g.place x g.lawful wl room g.answers g.marked)

pub part_workers : (z y : PlainZone) (w : ℕ) (t : MigrateType) (m : Mark) (p n : ℕ) → IsRunGot z y w t m p n → w < workers_of z → w < workers_of y
part_workers z y w t m p n g lt = rw (g.after, run_workers n z w t g.place) lt
