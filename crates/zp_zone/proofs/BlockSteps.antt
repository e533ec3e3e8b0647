-- What a zone's fields become when a block goes out, the lowest too, and when one is given back, as the step of the plain zone.
use Rattle.std.proofs.Common.{ℕ, ◌≡◌, refl, sym, ◌∙◌, ap, arith, true, false, set, Option, Some, None, ◌+◌, ◌<◌, Bool, List, length-set, ◌-◌, ◌≢◌, ◌≤◌, ◌⊎◌, inl, inr, [], ◌∷◌, length, map, get_or, get_or-set_same, get_or-set_other}
use Rattle.std.specs.Option.{option_map}
use Rattle.std.proofs.Math.ListN.{get_or-map}
use Rattle.std.proofs.lemmas.Nat.{pow_pos}
use Rattle.std.proofs.lemmas.Bool.{and_parts, both_ways, false_from_ne_true, cases_lt, cases_eq, or_cases, false≢true}
use Rattle.std.proofs.lemmas.List.{length-map, get_or_past}
use Rattle.zp_model.specs.declared.migrate_type.MigrateType.{MigrateType}
use Rattle.zp_model.specs.declared.pageblock_type.PageblockType.{PageblockType}
use Rattle.zp_model.specs.declared.mark.Mark.{Mark}
use Rattle.zp_model.specs.declared.refused.Refused.TheVariants.{BelowMark, NoBlock}
use Rattle.zp_model.specs.declared.state.State.TheVariants.{Tail, Out, Free}
use Rattle.zp_model.specs.Block.{has, without, size, in_run, IsBlock}
use Rattle.zp_model.specs.Rows.{state_at, list_at, stands_in}
use Rattle.zp_model.specs.Area.{Area, available, kind_at}
use Rattle.zp_model.specs.PageblockType.{noted_type}
use Rattle.zp_model.specs.Choose.{Chosen, choose}
use Rattle.zp_model.specs.Take.{taken, take_answer, take_after, leave, take_low_answer, take_low_after, give}
use Rattle.zp_model.specs.Frames.{Frames, IsFramed, with_area, restated, IsClear, given}
use Rattle.zp_model.specs.Zone.{PlainZone, hand_out, workers_of, posted_pages, Holding, PostedBlock, holding_at}
use Rattle.zp_model.specs.Mark.{passes, is_above}
use Rattle.zp_model.specs.Step.{alloc, alloc_chosen, refuse, Outcome, alloc_low_at, step, freed}
use Rattle.zp_model.specs.Lawful.{IsLawful, times_posted}
use Rattle.zp_model.proofs.Covers.{has_below}
use Rattle.zp_model.specs.declared.request.Reply.{Reply}
use Rattle.zp_model.proofs.MaximalBlocks.{length-restated, max_has}
use Rattle.zp_model.proofs.FirstFound.{after_none, after_some}
use Rattle.zp_model.specs.declared.state.State.{State}
use Rattle.zp_model.specs.Run.{is_out}
use Rattle.zp_model.proofs.Pages.{in_run-to, in_run-from}
use Rattle.zp_model.proofs.Settles.{stands_cases}
use Rattle.zp_laws.specs.Found.{IsFound}
use Rattle.zp_laws.proofs.Choosing.{choose_found, found_free, take_low_found}
use Rattle.zp_laws.proofs.Counting.{has-without_any, one_if, has-with_any}
use Rattle.zp_laws.proofs.Areas.{free-taken, free-leave, largest-leave, kinds-leave, free-give}
use Rattle.zp_laws.proofs.Keeping.{free-not_out, posted-has, count-front, one_place}
use Rattle.zp_laws.proofs.Steps.{chosen_lawful, alloc_low_lawful, freed_lawful}
use Rattle.zp_laws.proofs.Held.{IsHolding, held_block, held-not_free, out_held}
use Rattle.zp_laws.proofs.HandedOut.{count_posted, times_out-less, held_below, in_run-head, out-has}
use Rattle.zp_zone.specs.Kept.{holding_of, plain_of, IsKept, posted_block}
use Rattle.zp_zone.specs.NamedZone.{NamedZone}
use Rattle.zp_zone.proofs.Noted.{plain-with_area, plain-noted, IsBeside, IsOffAll, off_all, off_apart, pages_same, kept_by, aside_restated, aside_noted, posted-head, posted_of, blocks_at}
use Rattle.zp_model.specs.declared.request.Request.TheVariants as request

module _ (z : PlainZone) (w k : ℕ) (t : MigrateType) (m : Mark) where
  pub alloc_below : passes z k m ≡ false → alloc z w k t m ≡ refuse z BelowMark
  unfolding alloc
  alloc_below e = rw e

  pub alloc_none : passes z k m ≡ true → choose z.area k t ≡ None → alloc z w k t m ≡ refuse z NoBlock
  unfolding alloc
  alloc_none p e = rw (p, e)

  pub alloc_some : (c : Chosen) → passes z k m ≡ true → choose z.area k t ≡ Some c → alloc z w k t m ≡ alloc_chosen z w k t (Some c)
  unfolding alloc
  alloc_some c p e = rw (p, e)

-- what was answered tells what was chosen
pub chosen_none : (a : Area) (k : ℕ) (t : MigrateType) → None ≡ take_answer a k t → choose a k t ≡ None
unfolding take_answer
chosen_none a k t e = grind arith

pub chosen_some : (a : Area) (k h : ℕ) (t : MigrateType) → Some h ≡ take_answer a k t → (c : Chosen) × (choose a k t ≡ Some c) × (c.head ≡ h)
unfolding take_answer
chosen_some a k h t e = go (choose a k t) h e
  where
    go : (o : Option Chosen) (h : ℕ) → Some h ≡ option_map (λ (c : Chosen). c.head) o → (c : Chosen) × (o ≡ Some c) × (c.head ≡ h)
    go None h e = cc
    go (Some c) h e = (c, refl, (let f : c.head ≡ h = cc in f))

-- what is known of a zone that makes a request
pub record IsAsked (f : Frames) (base min : ℕ) : Type 0 where
  pub framed : IsFramed f
  pub lawful : IsLawful (plain_of f base min)

module _ (f : Frames) (base min : ℕ) where
  -- a free page heads no block out
  pub not_out : (g : ℕ) → IsAsked f base min → has f.area.free g ≡ true → holding_of (state_at f.states g) ≡ None
  not_out g x e = sym (get_or-map holding_of f.states g Tail) ∙ free-not_out (plain_of f base min) x.lawful g (has_below f.area.free g e) e

  -- nothing was taken: the frames say of the zone what they said
  pub plain-nothing : IsAsked f base min → plain_of (with_area f f.area) base min ≡ plain_of f base min
  plain-nothing x = plain-with_area f f.area base min x.framed (λ g e. not_out g x e) x.framed.beside

-- a zone by its name and its plain zone
abbrev pub named : List ℕ → PlainZone → NamedZone
named name z = record { name = name; plain = z }

-- the mark's test, as the code makes it
pub passes_by : (f : Frames) (base min free k : ℕ) (m : Mark) (b : Bool) → free ≡ size (available f.area.largest f.area.kinds f.area.free) → b ≡ is_above min free k m → passes (plain_of f base min) k m ≡ b
passes_by f base min free k m b e g = sym (g ∙ ap (λ n. is_above min n k m) e)

-- nothing is taken: the frames stay as they are, but for what is restated
pub stays_left : (f f2 : Frames) (base min : ℕ) → IsAsked f base min → f2 ≡ with_area f f.area → plain_of f2 base min ≡ plain_of f base min
stays_left f f2 base min x e = rw e (plain-nothing f base min x)

pub stays_kept : {count : ℕ} → (name : List ℕ) (f f2 : Frames) (base min : ℕ) → IsKept name f base min count → IsFramed f → f2 ≡ with_area f f.area → IsKept name f2 base min count
stays_kept {count} name f f2 base min x y same =
    let nothing = plain-nothing f base min (record { framed = y; lawful = x.lawful }) in
    rw same (kept_by name f (with_area f f.area) base min count x (length-restated f.area.largest f.area.free f.states) refl
    (aside_restated f.area.largest f.sides f.area.free f.states x.aside y.beside) (x.counted ∙ ap posted_pages (sym nothing)) (rw nothing x.lawful))

-- no block is chosen
pub nothing : (f f2 : Frames) (k : ℕ) (t : MigrateType) → None ≡ take_answer f.area k t → f2 ≡ with_area f (take_after f.area k t) → f2 ≡ with_area f f.area
unfolding take_after taken
nothing f f2 k t c e = rw (chosen_none f.area k t c) at e

-- a block of order k at h goes out, which leaves this area
abbrev pub frames_out : Frames → Area → ℕ → ℕ → ℕ → MigrateType → Frames
frames_out f a w h k t = record (with_area f a) { states = set (restated a.largest a.free f.states) h (Out k t w) }

module _ (f : Frames) (a : Area) (base min w h k : ℕ) (t : MigrateType) (x : IsAsked f base min) (found : IsFound f.area.largest f.area.free k h) (free : a.free ≡ without f.area.free h k) where
  was_free : (g : ℕ) → has a.free g ≡ true → has f.area.free g ≡ true
  was_free g q = (and_parts _ _ (sym (has-without_any f.area.free h k g) ∙ ap (λ u. has u g) (sym free) ∙ q)).0

  beside : IsBeside f.sides a.free
  beside r p q = false_from_ne_true _ (λ v. both_ways _ (x.framed.beside r p q) (was_free p v))

  off : IsOffAll f.sides h
  off = off_all f.sides f.area.free h x.framed.beside (found_free f.area.largest f.area.free k h found h (omega arith) (omega (arith, pow_pos k)))

  pub left_out : plain_of (frames_out f a w h k t) base min ≡ hand_out (record (plain_of f base min) { area = a }) w h k t
  left_out =
      plain-noted (with_area f a) base min h (Out k t w) (off_apart f.sides h off)
      ∙ ap (λ (z : PlainZone). hand_out z w h k t) (plain-with_area f a base min x.framed (λ g q. not_out f base min g x (was_free g q)) beside)

  pub out_kept : {count : ℕ} → (name : List ℕ) → IsKept name f base min count → IsLawful (hand_out (record (plain_of f base min) { area = a }) w h k t) →
      IsKept name (frames_out f a w h k t) base min count
  out_kept {count} name y lawful =
      kept_by name f (frames_out f a w h k t) base min count y (length-set (restated a.largest a.free f.states) h (Out k t w) ∙ length-restated a.largest a.free f.states) refl
      (aside_noted f.sides (restated a.largest a.free f.states) h (Out k t w) (aside_restated a.largest f.sides a.free f.states y.aside beside) off (λ v. refl))
      (y.counted ∙ pages_same (plain_of f base min) (hand_out (record (plain_of f base min) { area = a }) w h k t) refl ∙ ap posted_pages (sym left_out)) (rw left_out lawful)

-- the block chosen goes out
abbrev pub held_out : Frames → ℕ → ℕ → MigrateType → Chosen → Frames
held_out f w k t c = frames_out f (taken f.area k t (Some c)) w c.head k t

module _ (f : Frames) (base min w k : ℕ) (t : MigrateType) (m : Mark) (c : Chosen) (e : choose f.area k t ≡ Some c) where
  pub some_left : IsAsked f base min → passes (plain_of f base min) k m ≡ true → plain_of (held_out f w k t c) base min ≡ (alloc (plain_of f base min) w k t m).zone
  some_left x p =
      left_out f (taken f.area k t (Some c)) base min w c.head k t x (choose_found f.area k t c x.lawful.lists e) (free-taken f.area k t c)
      ∙ ap (λ (o : Outcome). o.zone) (sym (alloc_some (plain_of f base min) w k t m c p e))

  pub some_reply : passes (plain_of f base min) k m ≡ true → Reply.Page (base + c.head) ≡ (alloc (plain_of f base min) w k t m).reply
  some_reply p = ap (λ (o : Outcome). o.reply) (sym (alloc_some (plain_of f base min) w k t m c p e))

  pub some_kept : {count : ℕ} → (name : List ℕ) → IsKept name f base min count → IsFramed f → w < workers_of (plain_of f base min) → IsKept name (held_out f w k t c) base min count
  some_kept name x y lt =
      out_kept f (taken f.area k t (Some c)) base min w c.head k t (record { framed = y; lawful = x.lawful }) (choose_found f.area k t c x.lawful.lists e) (free-taken f.area k t c) name x
      (chosen_lawful (plain_of f base min) w k t c e x.lawful lt)

-- the frames that hold the block chosen, in the words of the code
pub held_by : (f f2 f3 : Frames) (w h k : ℕ) (t : MigrateType) (c : Chosen) → f2 ≡ with_area f (take_after f.area k t) → choose f.area k t ≡ Some c → c.head ≡ h →
    f3 ≡ record f2 { states = set f2.states h (Out k t w) } → f3 ≡ held_out f w k t c
unfolding take_after
held_by f f2 f3 w h k t c e2 ec eh e3 = rw (e3, e2, ec, ← eh)

pub none_stays : (f f2 : Frames) (k : ℕ) → None ≡ take_low_answer f.area k → f2 ≡ with_area f (take_low_after f.area k) → f2 ≡ with_area f f.area
none_stays f f2 k e e2 = e2 ∙ ap (with_area f) (after_none f.area k e)

-- the lowest block, at h, goes out
abbrev pub low_out : Frames → ℕ → ℕ → ℕ → Frames
low_out f w h k = frames_out f (leave f.area h k) w h k (noted_type (kind_at f.area.largest f.area.kinds h))

pub low_left : (f : Frames) (base min w h k : ℕ) → IsAsked f base min → Some h ≡ take_low_answer f.area k →
    plain_of (low_out f w h k) base min ≡ (step (plain_of f base min) w (request.AllocLow k)).zone
low_left f base min w h k x e =
    left_out f (leave f.area h k) base min w h k (noted_type (kind_at f.area.largest f.area.kinds h)) x (take_low_found f.area k h (sym e)) (free-leave f.area h k)
    ∙ ap (λ (o : Option ℕ). (alloc_low_at (plain_of f base min) w k o).zone) e

pub low_out_kept : {count : ℕ} → (name : List ℕ) (f : Frames) (base min w h k : ℕ) → IsKept name f base min count → IsFramed f → w < workers_of (plain_of f base min) →
    Some h ≡ take_low_answer f.area k → IsKept name (low_out f w h k) base min count
low_out_kept name f base min w h k x y lt e =
    out_kept f (leave f.area h k) base min w h k (noted_type (kind_at f.area.largest f.area.kinds h)) (record { framed = y; lawful = x.lawful }) (take_low_found f.area k h (sym e)) (free-leave f.area h k) name x
    (rw (← e) at (alloc_low_lawful (plain_of f base min) w k x.lawful lt))

-- the type of the pageblock stays, so that it may be read once the block is taken
pub kind_stays : (f f2 : Frames) (h k : ℕ) (t : PageblockType) → f2 ≡ with_area f (take_low_after f.area k) → Some h ≡ take_low_answer f.area k →
    t ≡ kind_at f2.area.largest f2.area.kinds h → t ≡ kind_at f.area.largest f.area.kinds h
kind_stays f f2 h k t e2 e et = et ∙ rw (e2, after_some f.area k h e, largest-leave f.area h k, kinds-leave f.area h k)

pub low_reply : (f : Frames) (base min w h k p : ℕ) (t : MigrateType) → Some h ≡ take_low_answer f.area k → p ≡ base + h → t ≡ noted_type (kind_at f.area.largest f.area.kinds h) →
    Reply.Block (record { page = p; order = k; kind = t }) ≡ (step (plain_of f base min) w (request.AllocLow k)).reply
low_reply f base min w h k p t e ep et = rw (← e, ep, et)

-- the frames that hold the block, in the words of the code
pub held_low : (f f2 f3 : Frames) (w h k : ℕ) (t : MigrateType) → f2 ≡ with_area f (take_low_after f.area k) → Some h ≡ take_low_answer f.area k →
    t ≡ noted_type (kind_at f.area.largest f.area.kinds h) → f3 ≡ record f2 { states = set f2.states h (Out k t w) } → f3 ≡ low_out f w h k
held_low f f2 f3 w h k t e2 e et e3 = rw (e3, e2, after_some f.area k h e, et)

-- the head of a posted block lies in it
count-standing : (s : List State) (xs : List ℕ) (i : ℕ) → stands_in i xs ≡ true → 1 ≤ count_posted (blocks_at s xs) i
count-standing s [] i e = absurd (false≢true e)
count-standing s (x ∷ xs) i e =
    let f = count-front (posted_block x (state_at s x)) (blocks_at s xs) i in
    elim (stands_cases i x xs e) [
      | inl same ↦
          let in_it : in_run (posted_block x (state_at s x)).head (posted_block x (state_at s x)).order i ≡ true =
          rw (posted-head x (state_at s x), same) (in_run-head x (posted_block x (state_at s x)).order) in
          let one : one_if (in_run (posted_block x (state_at s x)).head (posted_block x (state_at s x)).order i) ≡ 1 = ap one_if in_it in
          omega (arith, f, one)
      | inr later ↦ omega (arith, f, count-standing s xs i later)
    ]

-- a page on a further list lies in a posted block
side_posted : (s : List State) (sides : List (List ℕ)) (r i : ℕ) → stands_in i (list_at sides r) ≡ true → 1 ≤ times_posted (posted_of s sides) i
side_posted s sides r i e = elim (cases_lt r (length sides)) [
  | inl lt ↦
      let here : count_posted (get_or (posted_of s sides) r []) i ≡ count_posted (blocks_at s (list_at sides r)) i =
      ap (λ (ps : List PostedBlock). count_posted ps i) (get_or-map (λ (ps : List ℕ). blocks_at s ps) sides r []) in
      let below : r < length (posted_of s sides) = omega (arith, length-map sides (λ (ps : List ℕ). blocks_at s ps)) in
      omega (arith, here, count-standing s (list_at sides r) i e, posted-has (posted_of s sides) r i below)
  | inr ge ↦ absurd (false≢true (rw (get_or_past sides r [] ge) at e))
]

-- a block out of a zone that is asked
module _ (f : Frames) (base min w h k : ℕ) (x : IsAsked f base min) (y : IsHolding (plain_of f base min) w h k) where
  -- it is clear: a block of the zone of which no page is free or on a further list
  pub held_clear : IsClear f h k
  held_clear =
      let b : IsBlock f.area.largest (length f.area.free) h k = held_block (plain_of f base min) w h k x.lawful y in
      record {
        block = b;
        free = λ i lo hi. held-not_free (plain_of f base min) w h k i x.lawful y (in_run-from h k i lo hi);
        aside = λ r i lo hi. false_from_ne_true _ (λ e. omega (
          arith,
          side_posted f.states f.sides r i e,
          out-has (map holding_of f.states) h i y.holding y.at (rw y.order (in_run-from h k i lo hi)),
          one_place (plain_of f base min) x.lawful i (omega (arith, b.inside)),
        ));
      }

  held_here : h < length f.states
  held_here = omega (arith, held_below (map holding_of f.states) h y.holding y.at, length-map f.states holding_of)

  -- no other block out has its head in this one
  pub other_out : (g : ℕ) → in_run h k g ≡ true → g ≢ h → g < length f.area.free → (o : Option Holding) → holding_of (state_at f.states g) ≡ o → o ≡ None
  other_out g r ne lt None e = refl
  other_out g r ne lt (Some z) e =
      let out : List (Option Holding) = map holding_of f.states in
      let at : holding_at (map holding_of f.states) g ≡ Some z = get_or-map holding_of f.states g Tail ∙ e in
      let still : holding_at (set (map holding_of f.states) h None) g ≡ Some z = get_or-set_other (map holding_of f.states) h g None None ne ∙ at in
      let here : one_if (in_run h y.holding.order g) ≡ 1 = rw y.order (ap one_if r) in
      absurd (omega (
        arith,
        one_place (plain_of f base min) x.lawful g lt,
        times_out-less (map holding_of f.states) h g y.holding (held_below (map holding_of f.states) h y.holding y.at) y.at,
        here,
        out-has (set (map holding_of f.states) h None) g g z still (in_run-head g z.order),
      ))

  -- the page at which it is out is not free
  pub held_used : has f.area.free h ≡ false
  held_used = held-not_free (plain_of f base min) w h k h x.lawful y (in_run-head h k)

  -- its head is on no further list
  pub held_off : IsOffAll f.sides h
  held_off r = held_clear.aside r h (omega arith) (omega (arith, pow_pos k))

  -- nothing is noted of its head any more
  abbrev cleared : Frames
  cleared = record f { states = set f.states h Tail }

  cleared_framed : IsFramed cleared
  cleared_framed = record {
    pages = x.framed.pages ∙ sym (length-set f.states h Tail);
    typed = rw (length-set f.states h Tail) x.framed.typed;
    noted = λ g j. elim (cases_eq g h) [
      | inl same ↦ rw same (
        λ e. absurd (let tail : Tail ≡ Free j = sym (get_or-set_same f.states h Tail Tail held_here) ∙ e in cc),
        λ m. absurd (both_ways _ held_used (max_has f.area.largest f.area.free h j m)),
      )
      | inr ne ↦ rw (get_or-set_other f.states h g Tail Tail ne) (x.framed.noted g j)
    ];
    beside = x.framed.beside;
  }

  given_marks : (i : ℕ) → has (give f.area h k).free i ≡ true → (has f.area.free i ≡ true) ⊎ (in_run h k i ≡ true)
  given_marks i e = or_cases _ _ (sym (has-with_any f.area.free h k i held_clear.block.inside) ∙ (rw (free-give f.area h k) at e))

  -- none of the pages that become free is on a further list
  given_beside : IsBeside f.sides (give f.area h k).free
  given_beside r p e = false_from_ne_true _ (λ u. elim (given_marks p u) [
    | inl was ↦ both_ways _ (x.framed.beside r p e) was
    | inr run ↦ let q = in_run-to h k p run in both_ways _ (held_clear.aside r p q.0 q.1) e
  ])

  pub plain-given : plain_of (given f h k) base min ≡ freed (plain_of f base min) h k
  plain-given =
      plain-with_area cleared (give f.area h k) base min cleared_framed
      (λ g e. elim (cases_eq g h) [
        | inl same ↦ rw (same, get_or-set_same f.states h Tail Tail held_here)
        | inr ne ↦ rw (get_or-set_other f.states h g Tail Tail ne) (elim (given_marks g e) [
          | inl was ↦ not_out f base min g x was
          | inr run ↦ other_out g run ne (let q = in_run-to h k g run in omega (arith, q.1, held_clear.block.inside)) (holding_of (state_at f.states g)) refl
        ])
      ])
      given_beside
      ∙ ap (λ (z : PlainZone). let y : PlainZone = record z { area = give f.area h k } in y) (plain-noted f base min h Tail (off_apart f.sides h held_off))

pub given_kept : {count : ℕ} → (name : List ℕ) (f : Frames) (base min w h k : ℕ) → IsKept name f base min count → IsFramed f → IsHolding (plain_of f base min) w h k → IsKept name (given f h k) base min count
given_kept {count} name f base min w h k x y held =
    let asked : IsAsked f base min = record { framed = y; lawful = x.lawful } in
    let a : Area = give f.area h k in
    let same = plain-given f base min w h k asked held in
    kept_by name f (given f h k) base min count x (length-restated a.largest a.free (set f.states h Tail) ∙ length-set f.states h Tail) refl
    (aside_restated a.largest f.sides a.free (set f.states h Tail) (aside_noted f.sides f.states h Tail x.aside (held_off f base min w h k asked held) (λ v. refl))
    (given_beside f base min w h k asked held))
    (x.counted ∙ pages_same (plain_of f base min) (freed (plain_of f base min) h k) refl ∙ ap posted_pages (sym same))
    (rw same (freed_lawful (plain_of f base min) w h k x.lawful held))

-- the block that the zone, by its fields, has out
pub holding_in : (Z : NamedZone) (name : List ℕ) (f : Frames) (base min w p k : ℕ) → named name (plain_of f base min) ≡ Z → is_out Z.plain w p k ≡ true →
    IsHolding (plain_of f base min) w (p - base) k
holding_in Z name f base min w p k e o = out_held (plain_of f base min) w p k (rw (← e) at o)
