-- The pages of a block, each out as a block of order 0, come back as one block: what that is of a drain, and what a zone's fields become.
use Rattle.std.proofs.Common.{ℕ, suc, zero, ◌+◌, ◌-◌, ◌/◌, ◌^◌, ◌≡◌, ◌≢◌, ◌≤◌, ◌<◌, ◌⊎◌, inl, inr, refl, sym, ◌∙◌, ap, arith, subst, true, set, List, [], ◌∷◌, ◌++◌, All, length, length-set, map, get_or-set_other, Option, None, get_or, get_or-take, take, drop, length-take-le}
use Rattle.std.specs.Int.Bits.{bit_xor}
use Rattle.std.proofs.lemmas.Bool.{cases_eq, or_cases}
use Rattle.std.proofs.lemmas.List.{ext_get_or, get_or_default, get_or-map as get_or-map_at, length-map, set-get_or, take-append-drop}
use Rattle.std.proofs.lemmas.List.Elements.{All-nil, All-cons, All-head, All-tail, All-get_or, All-from_get_or}
use Rattle.std.proofs.lemmas.List.FromFn.{get_or-range_with_len, length-range_with_len}
use Rattle.std.specs.List.{range_with_len}
use Rattle.std.proofs.lemmas.Nat.{pow_pos, shl-shr}
use Rattle.zp_model.specs.declared.state.State.TheVariants.{Tail}
use Rattle.zp_model.specs.Block.{has, head}
use Rattle.zp_model.specs.Frames.{Frames, IsClear, given, with_area}
use Rattle.zp_model.specs.Lawful.{IsLawful}
use Rattle.zp_model.specs.Rows.{state_at, with_run}
use Rattle.zp_model.specs.Run.{is_distinct, is_out}
use Rattle.zp_model.specs.Step.{drained, freed}
use Rattle.zp_model.specs.Take.{give}
use Rattle.zp_model.specs.Zone.{PlainZone, Holding, holding_at}
use Rattle.zp_model.proofs.Heads.{head_aligned, head_le, lt_head, number_same}
use Rattle.zp_model.proofs.Pages.{in_run-to}
use Rattle.zp_laws.proofs.Areas.{free-give}
use Rattle.zp_laws.proofs.Counting.{has-with_any}
use Rattle.zp_laws.proofs.Held.{IsHolding, out-to, out_held}
use Rattle.zp_laws.proofs.StaysOut.{freed-kept, none_left_at}
use Rattle.zp_laws.proofs.Steps.{freed_lawful}
use Rattle.zp_buddy.specs.Runs.{AreClear, gives, turned_pages}
use Rattle.zp_buddy.proofs.TurnedRuns.{get_or-turned, gives_turned, length-turned, turned_back, turned_in, turned_number}
use Rattle.zp_zone.specs.Kept.{plain_of, IsKept}
use Rattle.zp_zone.specs.NamedZone.{AreOut, NamedZone}
use Rattle.zp_zone.specs.Runs.{AreTurned}
use Rattle.zp_zone.proofs.BlockSteps.{IsAsked, held_clear, named}
use Rattle.zp_zone.proofs.DrainSteps.{IsLeft, left_next}
use Rattle.zp_zone.proofs.RunFrames.{out_run}
use Rattle.zp_zone.proofs.RunsBack.{IsWithin, back, cases_run, kept_back, note_at, plain_back}

-- what is out, but for what is out at these places
abbrev pub cleared : List (Option Holding) → List ℕ → List (Option Holding)
cleared out [] = out
cleared out (h ∷ hs) = cleared (set out h None) hs

-- what pages given back leave
pub drained_is : (hs : List ℕ) (z : PlainZone) → drained z (map (λ h. z.base + h) hs) ≡ record z { area = gives z.area hs; out = cleared z.out hs }
drained_is [] z = refl
drained_is (h ∷ hs) z =
    let place : z.base + h - z.base ≡ h = omega arith in
    ap (λ p. drained (freed z p 0) (map (λ q. z.base + q) hs)) place ∙ drained_is hs (freed z h 0)

-- some pages of a drain came back
pub left_run : (xs ys : List ℕ) (before z : PlainZone) (w : ℕ) (all : List ℕ) → IsLeft before z w all (xs ++ ys) → IsLawful z → IsLeft before (drained z xs) w all ys × IsLawful (drained z xs)
left_run [] ys before z w all x l = (x, l)
left_run (p ∷ xs) ys before z w all x l =
    let y : PlainZone = freed z (p - z.base) 0 in
    let out : is_out z w p 0 ≡ true = All-head (λ q. is_out z w q 0 ≡ true) p (xs ++ ys) x.out in
    left_run xs ys before y w all (left_next before z y w all p (xs ++ ys) x refl (λ v q j ne e. freed-kept z p 0 (out-to z w p 0 out).0 v q j ne e)) (freed_lawful z w (p - z.base) 0 l (out_held z w p 0 out))

pub drained_posted : (xs : List ℕ) (z : PlainZone) → (drained z xs).posted ≡ z.posted
drained_posted [] z = refl
drained_posted (p ∷ xs) z = drained_posted xs (freed z (p - z.base) 0)

-- nothing is out where it was cleared, and the rest as it was
none_stays : (hs : List ℕ) (out : List (Option Holding)) (i : ℕ) → holding_at out i ≡ None → holding_at (cleared out hs) i ≡ None
none_stays [] out i e = e
none_stays (h ∷ hs) out i e = none_stays hs (set out h None) i (elim (cases_eq i h) [ inl same ↦ rw same (none_left_at out h) | inr ne ↦ get_or-set_other out h i None None ne ∙ e ])

cleared_all : (hs : List ℕ) (out : List (Option Holding)) → All (λ i. holding_at (cleared out hs) i ≡ None) hs
cleared_all [] out = All-nil (λ i. holding_at out i ≡ None)
cleared_all (h ∷ hs) out = All-cons (λ i. holding_at (cleared (set out h None) hs) i ≡ None) h hs (none_stays hs (set out h None) h (none_left_at out h)) (cleared_all hs (set out h None))

cleared_off : (hs : List ℕ) (out : List (Option Holding)) (i : ℕ) → All (λ h. i ≢ h) hs → holding_at (cleared out hs) i ≡ holding_at out i
cleared_off [] out i a = refl
cleared_off (h ∷ hs) out i a = cleared_off hs (set out h None) i (All-tail (λ q. i ≢ q) h hs a) ∙ get_or-set_other out h i None None (All-head (λ q. i ≢ q) h hs a)

length-cleared : (hs : List ℕ) (out : List (Option Holding)) → length (cleared out hs) ≡ length out
length-cleared [] out = refl
length-cleared (h ∷ hs) out = length-cleared hs (set out h None) ∙ length-set out h None

run_is_none : (n : ℕ) (out : List (Option Holding)) (h : ℕ) → out_run out h n None ≡ cleared out (range_with_len h n)
run_is_none zero out h = refl
run_is_none (suc n) out h = run_is_none n (set out h None) (h + 1)

-- the pages of a run, in any order of halves, clear what the run clears
cleared_run : (out : List (Option Holding)) (p j : ℕ) → out_run out (head p j) (2 ^ j) None ≡ cleared out (turned_pages p j)
cleared_run out p j =
    let h : ℕ = head p j in
    let n : ℕ = 2 ^ j in
    let xs : List ℕ = range_with_len h n in
    let ys : List ℕ = turned_pages p j in
    run_is_none n out h
    ∙ ext_get_or None (cleared out xs) (cleared out ys) (length-cleared xs out ∙ sym (length-cleared ys out)) (λ i lt. elim (cases_run h n i) [
      | inl r ↦
          let d : ℕ = bit_xor p i in
          let at : h + (i - h) ≡ i = omega (arith, r.0) in
          let small : d < n = turned_number p i j (number_same h i j (head_aligned p j) r.0 r.1 ∙ shl-shr (p / 2 ^ j) j) in
          let one = All-get_or (λ q. holding_at (cleared out xs) q ≡ None) xs (i - h) 0 (omega (arith, r.0, r.1, length-range_with_len h n)) (cleared_all xs out) in
          let other = All-get_or (λ q. holding_at (cleared out ys) q ≡ None) ys d 0 (omega (arith, length-turned p j)) (cleared_all ys out) in
          (rw (get_or-range_with_len h n (i - h) 0 (omega (arith, r.0, r.1)), at) at one) ∙ sym (rw (get_or-turned p j d small, turned_back p i) at other)
      | inr o ↦
          cleared_off xs out i (All-from_get_or (λ q. i ≢ q) xs 0 (λ k lt e. let below : k < n = omega (arith, length-range_with_len h n) in
          o (omega (arith, e, get_or-range_with_len h n k 0 below), omega (arith, e, get_or-range_with_len h n k 0 below))))
          ∙ sym (cleared_off ys out i (All-from_get_or (λ q. i ≢ q) ys 0 (λ k lt e. let below : k < n = omega (arith, length-turned p j) in
          let same : i ≡ bit_xor p k = e ∙ get_or-turned p j k below in
          let here : head i j ≡ h = ap (λ q. head q j) same ∙ turned_in p j k below in
          o (omega (arith, head_le i j), omega (arith, lt_head i j)))))
    ])

-- so many pages of the run around page p are out to worker w, each as a block of order 0
module _ (f : Frames) (base min w p j : ℕ) (x : IsAsked f base min) (order : j ≤ f.area.largest)
    (out : (i : ℕ) → head p j ≤ i → i < head p j + 2 ^ j → IsHolding (plain_of f base min) w i 0) where
  abbrev run : ℕ
  run = head p j

  -- the run is clear
  pub part_clear : IsClear f run j
  part_clear =
      let last : ℕ = run + 2 ^ j - 1 in
      let c = held_clear f base min w last 0 x (out last (omega (arith, pow_pos j)) (omega (arith, pow_pos j))) in
      record {
        block = record { order = order; aligned = head_aligned p j; inside = omega (arith, c.block.inside, pow_pos j) };
        free = λ i lo hi. (held_clear f base min w i 0 x (out i lo hi)).free i (omega arith) (omega arith);
        aside = λ r i lo hi. (held_clear f base min w i 0 x (out i lo hi)).aside r i (omega arith) (omega arith);
      }

  pages_clear : AreClear f run (2 ^ j)
  pages_clear = record { inside = part_clear.block.inside; free = part_clear.free; aside = part_clear.aside }

  -- nothing is noted of its pages any more
  abbrev noted : Frames
  noted = record f { states = with_run f.states run (2 ^ j) Tail }

  again : given noted run j ≡ with_area noted (give f.area run j)
  again =
      let here : state_at noted.states run ≡ Tail = note_at f base min run (2 ^ j) x pages_clear run (omega arith, omega (arith, pow_pos j)) in
      ap (λ s. with_area (record noted { states = s }) (give f.area run j)) (ap (set noted.states run) (sym here) ∙ set-get_or noted.states run Tail)

  back_marks : (i : ℕ) → has (give f.area run j).free i ≡ true → (has f.area.free i ≡ true) ⊎ IsWithin run (2 ^ j) i
  back_marks i e = elim (or_cases _ _ (sym (has-with_any f.area.free run j i part_clear.block.inside) ∙ (rw (free-give f.area run j) at e))) [
    | inl old ↦ inl old
    | inr new ↦ inr (in_run-to run j i new)
  ]

  abbrev turned : List ℕ
  turned = map (λ h. base + h) (turned_pages p j)

  drained_back : back f base min run (2 ^ j) x pages_clear (give f.area run j) back_marks ≡ drained (plain_of f base min) turned
  drained_back =
      let z : PlainZone = plain_of f base min in
      let area : give f.area run j ≡ gives f.area (turned_pages p j) = sym (gives_turned j f.area p x.lawful.lists order part_clear.block.inside part_clear.free) in
      (λ i. record z { area = area i; out = cleared_run z.out p j i }) ∙ sym (drained_is (turned_pages p j) z)

  pub part_back : plain_of (given noted run j) base min ≡ drained (plain_of f base min) turned
  part_back = ap (λ g. plain_of g base min) again ∙ plain_back f base min run (2 ^ j) x pages_clear (give f.area run j) back_marks ∙ drained_back

  pub part_kept : {count : ℕ} → (name : List ℕ) → IsKept name f base min count → IsLawful (drained (plain_of f base min) turned) → IsKept name (given noted run j) base min count
  part_kept {count} name y lawful =
      rw again (kept_back f base min run (2 ^ j) x pages_clear (give f.area run j) back_marks name y (rw drained_back lawful))

-- what the code knows of the first pages of a drain
pub part_out : (z : PlainZone) (w : ℕ) (pages : List ℕ) (p j : ℕ) → AreOut z w pages → 2 ^ j ≤ length pages → AreTurned z.base pages p j →
    (i : ℕ) → head p j ≤ i → i < head p j + 2 ^ j → IsHolding z w i 0
part_out z w pages p j out room marks i lo hi =
    let d : ℕ = bit_xor p i in
    let small : d < 2 ^ j = turned_number p i j (number_same (head p j) i j (head_aligned p j) lo hi ∙ shl-shr (p / 2 ^ j) j) in
    let at : get_or pages d 0 ≡ z.base + i = marks d small ∙ ap (λ n. z.base + n) (turned_back p i) in
    let here : is_out z w (z.base + i) 0 ≡ true = rw at at (All-get_or (λ q. is_out z w q 0 ≡ true) pages d 0 (omega (arith, small, room)) out) in
    let place : z.base + i - z.base ≡ i = omega arith in
    rw place at (out_held z w (z.base + i) 0 here)

pub part_pages : (base : ℕ) (pages : List ℕ) (p j : ℕ) → 2 ^ j ≤ length pages → AreTurned base pages p j → take (2 ^ j) pages ≡ map (λ h. base + h) (turned_pages p j)
part_pages base pages p j room marks =
    let some : length (take (2 ^ j) pages) ≡ 2 ^ j = length-take-le (2 ^ j) pages room in
    let all : length (turned_pages p j) ≡ 2 ^ j = length-turned p j in
    ext_get_or 0 (take (2 ^ j) pages) (map (λ h. base + h) (turned_pages p j)) (some ∙ sym (length-map (turned_pages p j) (λ h. base + h) ∙ all)) (λ d lt.
    let small : d < 2 ^ j = omega (arith, some) in
    get_or-take (2 ^ j) pages d 0 small ∙ marks d small ∙ ap (λ n. base + n) (sym (get_or-turned p j d small))
    ∙ sym (get_or-map_at (λ h. base + h) (turned_pages p j) d 0 0 (omega (arith, all))))

-- a drain of the first pages
started : (z : PlainZone) (w n : ℕ) (pages : List ℕ) → AreOut z w pages → is_distinct pages ≡ true → IsLeft z z w pages (take n pages ++ drop n pages)
started z w n pages out distinct =
    let P : List ℕ → Type 0 = λ q. IsLeft z z w pages q in
    let x : IsLeft z z w pages pages = record { rest = refl; out = out; distinct = distinct } in
    subst P (sym (take-append-drop n pages)) x

pub part_lawful : (z : PlainZone) (w n : ℕ) (pages : List ℕ) → AreOut z w pages → is_distinct pages ≡ true → IsLawful z → IsLawful (drained z (take n pages))
part_lawful z w n pages out distinct l = (left_run (take n pages) (drop n pages) z z w pages (started z w n pages out distinct) l).1

-- the pages after a part are left
pub left_part : (before z y : PlainZone) (w n : ℕ) (all pages rest : List ℕ) → IsLeft before z w all pages → IsLawful z → y ≡ drained z (take n pages) → rest ≡ drop n pages →
    IsLeft before y w all rest × IsLawful y
left_part before z y w n all pages rest x l e r =
    let P : List ℕ → Type 0 = λ q. IsLeft before z w all q in
    rw (e, r) (left_run (take n pages) (drop n pages) before z w all (subst P (sym (take-append-drop n pages)) x) l)

pub all_back : (before z : PlainZone) (w : ℕ) (all rest : List ℕ) → IsLeft before z w all rest → length rest ≤ 0 → z ≡ drained before all
all_back before z w all [] x e = sym x.rest
all_back before z w all (p ∷ ps) x e = absurd (omega arith)

-- the frames once the block of order k around the first page came back
abbrev pub run_given : Frames → ℕ → ℕ → List ℕ → Frames
run_given f base k pages =
    let h : ℕ = head (get_or pages 0 0 - base) k in
    let g : Frames = record f { states = with_run f.states h (2 ^ k) Tail } in
    given g h k

-- in the words of a zone that contracts see: what is out is a clear run, and comes back as the drain says
module _ (Z : NamedZone) (name : List ℕ) (f : Frames) (base min w k : ℕ) (pages : List ℕ) (e : named name (plain_of f base min) ≡ Z) (x : IsAsked f base min)
    (order : k ≤ Z.plain.area.largest) (out : AreOut Z.plain w pages) (room : 2 ^ k ≤ length pages) (marks : AreTurned Z.plain.base pages (get_or pages 0 0 - Z.plain.base) k) where
  abbrev first : ℕ
  first = get_or pages 0 0 - base

  small : k ≤ f.area.largest
  small = rw (← e) at order

  at_first : AreTurned base pages first k
  at_first = rw (← e) at marks

  holds_run : (i : ℕ) → head first k ≤ i → i < head first k + 2 ^ k → IsHolding (plain_of f base min) w i 0
  holds_run = part_out (plain_of f base min) w pages first k (rw (← e) at out) room at_first

  pub run_clear : IsClear f (head first k) k
  run_clear = part_clear f base min w first k x small holds_run

  these : take (2 ^ k) pages ≡ map (λ h. base + h) (turned_pages first k)
  these = part_pages base pages first k room at_first

  pub run_back : named name (plain_of (run_given f base k pages) base min) ≡ record Z { plain = drained Z.plain (take (2 ^ k) pages) }
  run_back =
      let after : NamedZone → NamedZone = λ z. record z { plain = drained z.plain (take (2 ^ k) pages) } in
      ap (named name) (part_back f base min w first k x small holds_run ∙ ap (drained (plain_of f base min)) (sym these)) ∙ ap after e

  pub run_kept_back : {count : ℕ} → IsKept name f base min count → is_distinct pages ≡ true → IsKept name (run_given f base k pages) base min count
  run_kept_back {count} y distinct = part_kept f base min w first k x small holds_run name y (rw these at (part_lawful (plain_of f base min) w (2 ^ k) pages (rw (← e) at out) distinct x.lawful))

-- the place of the first page, as the code finds it
pub first_place : (pages : List ℕ) (page n base at : ℕ) → 0 < length pages → page ≡ get_or pages 0 page → n ≡ page → at ≡ n - base → at ≡ get_or pages 0 0 - base
first_place pages page n base at some is same e = e ∙ ap (λ q. q - base) (same ∙ is ∙ get_or_default pages 0 page 0 some)
