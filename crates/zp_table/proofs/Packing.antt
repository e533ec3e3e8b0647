-- Packing and unpacking undo each other.
use Rattle.std.proofs.Common.{ℕ, ◌≡◌, ◌<◌, ◌≤◌, ◌+◌, ◌*◌, ◌/◌, ◌%◌, ◌^◌, ◌↔◌, refl, sym, ◌∙◌, subst, ap, arith, true, false, min, Option, Some, None}
use Rattle.std.specs.Prelude.{IfSome, ltb}
use Rattle.std.proofs.lemmas.Bool.{lt-ltb, le-ltb}
use Rattle.zp_model.specs.declared.constants.TheConstants.{MAX_PAGES, NARROW_PAGES}
use Rattle.zp_model.specs.declared.migrate_type.MigrateType.{MigrateType}
use Rattle.zp_model.specs.declared.migrate_type.MigrateType.TheVariants.{Unmovable, Reclaimable, Movable}
use Rattle.zp_model.specs.declared.state.State.{State}
use Rattle.zp_model.specs.declared.state.State.TheVariants.{Tail, Free, Out, Posted}
use Rattle.zp_model.specs.MigrateType.{type_number}
use Rattle.zp_table.specs.declared.entry.PageEntry.{PageEntry}
use Rattle.zp_table.specs.declared.layout.TheConstants.{STATE_BITS, LINK_BITS, BACK_AT, STATE_AT, FORWARD_AT}
use Rattle.zp_table.specs.Fields.{field, with_field}
use Rattle.zp_table.specs.Links.{page_of, number_of}
use Rattle.zp_table.specs.Packed.{Layout, narrow, wide, packed_state, packed, type_of, state_of, unpacked_state, unpacked, StateFits, Fits, IsPacked, UnpackingUndoesPacking}

-- a state and its bits
type_back : (t : MigrateType) → (type_number t < 3) × (type_of (type_number t) ≡ t)
type_back Unmovable = (omega arith, refl)
type_back Reclaimable = (omega arith, refl)
type_back Movable = (omega arith, refl)

state_below : (s : State) → StateFits s → packed_state s < 2 ^ STATE_BITS
state_below Tail fits = omega arith
state_below (Free order) fits = omega arith
state_below (Out order t worker) fits = omega (arith, type_back t)
state_below (Posted order t worker) fits = omega (arith, type_back t)

-- the parts of a state's bits
state_is : (bits which order t worker : ℕ) → bits ≡ which + order * 4 + t * 64 + worker * 256 → which < 4 → order < 16 → t < 4 → worker < 32 →
    unpacked_state bits ≡ state_of which order (type_of t) worker
state_is bits which order t worker e a b c d =
    let w : bits / 1 % 4 ≡ which = omega arith in
    let x : bits / 4 % 16 ≡ order = omega arith in
    let y : bits / 64 % 4 ≡ t = omega arith in
    let z : bits / 256 % 32 ≡ worker = omega arith in
    rw (w, x, y, z) refl

state_back : (s : State) (bits : ℕ) → StateFits s → bits ≡ packed_state s → unpacked_state bits ≡ s
state_back Tail bits fits e = state_is bits 0 0 0 0 (omega arith) (omega arith) (omega arith) (omega arith) (omega arith)
state_back (Free order) bits fits e = state_is bits 1 order 0 0 (omega arith) (omega arith) (omega arith) (omega arith) (omega arith)
state_back (Out order t worker) bits fits e =
    let b = type_back t in
    rw b.1 at (state_is bits 2 order (type_number t) worker (omega arith) (omega arith) (omega arith) (omega (arith, b.0)) (omega arith))
state_back (Posted order t worker) bits fits e =
    let b = type_back t in
    rw b.1 at (state_is bits 3 order (type_number t) worker (omega arith) (omega arith) (omega arith) (omega (arith, b.0)) (omega arith))

-- a link and its number
link_below : (none : ℕ) (l : Option ℕ) → number_of none l ≤ none
link_below none None = omega arith
link_below none (Some page) = omega arith

link_back : (none : ℕ) (l : Option ℕ) → IfSome l (λ page. page < none) → page_of none (number_of none l) ≡ l
link_back none None fits = let past : ltb none none ≡ false = le-ltb none none (omega arith) in rw past refl
link_back none (Some page) fits =
    let same : min page none ≡ page = omega arith in
    let small : ltb page none ≡ true = lt-ltb page none fits in
    ap (λ (n : ℕ). page_of none n) same ∙ rw small refl

-- each field of an entry's word has what was put there
abbrev AreFields : Layout → PageEntry → Type 0
AreFields l e =
    (field (packed l e) l.state_at STATE_BITS ≡ packed_state e.state) × (field (packed l e) l.forward_at l.link_bits ≡ number_of l.none e.forward) × (field (packed l e) l.back_at l.link_bits ≡ number_of l.none e.back)

narrow_fields : (e : PageEntry) → StateFits e.state → AreFields narrow e
narrow_fields e fits =
    let s = state_below e.state fits in
    let f = link_below NARROW_PAGES e.forward in
    let b = link_below NARROW_PAGES e.back in
    (omega arith, omega arith, omega arith)

wide_fields : (e : PageEntry) → StateFits e.state → AreFields wide e
wide_fields e fits =
    let s = state_below e.state fits in
    let f = link_below MAX_PAGES e.forward in
    let b = link_below MAX_PAGES e.back in
    (omega arith, omega arith, omega arith)

-- what such fields stand for
fields_back : (l : Layout) (e : PageEntry) → Fits l e → AreFields l e → unpacked l (packed l e) ≡ e
fields_back l e fits are =
    let s = state_back e.state (field (packed l e) l.state_at STATE_BITS) fits.state are.0 in
    let f = ap (λ (n : ℕ). page_of l.none n) are.1 ∙ link_back l.none e.forward fits.forward in
    let b = ap (λ (n : ℕ). page_of l.none n) are.2 ∙ link_back l.none e.back fits.back in
    λ i. record { state = s i; back = b i; forward = f i }

pub narrow_undone : UnpackingUndoesPacking narrow
narrow_undone e fits = fields_back narrow e fits (narrow_fields e fits.state)

pub wide_undone : UnpackingUndoesPacking wide
wide_undone e fits = fields_back wide e fits (wide_fields e fits.state)

-- the word of an entry is a packed one, and stands for the entry
pub packed_is : (e : PageEntry) (word : ℕ) → Fits wide e → word ≡ packed wide e → IsPacked wide word × (unpacked wide word ≡ e)
packed_is e word fits is =
    let same = wide_undone e fits in
    rw is ((subst (Fits wide) (sym same) fits, ap (λ (d : PageEntry). packed wide d) same), same)

-- the bits of a state in a packed word are those of the state that it tells
pub state_tells : (word : ℕ) (s : State) → IsPacked wide word → StateFits s → (field word STATE_AT STATE_BITS * 2 ^ STATE_AT ≡ with_field 0 STATE_AT STATE_BITS (packed_state s)) ↔ ((unpacked wide word).state ≡ s)
state_tells word s p fits = (
  λ same. let bits : field word STATE_AT STATE_BITS ≡ packed_state s = omega arith in state_back s (field word STATE_AT STATE_BITS) fits bits,
  λ told.
      let bits = ap (λ (w : ℕ). field w STATE_AT STATE_BITS) (sym p.1) ∙ (wide_fields (unpacked wide word) p.0.state).0 ∙ ap (λ (d : State). packed_state d) told in
      omega arith,
)

-- another state, or another link, in the word of an entry
pub state_put : (word : ℕ) (s : State) → IsPacked wide word → StateFits s →
    let next = with_field word STATE_AT STATE_BITS (packed_state s) in IsPacked wide next × (unpacked wide next ≡ record (unpacked wide word) { state = s })
state_put word s p fits =
    let e = unpacked wide word in
    let f = p.0 in
    packed_is (record e { state = s }) _ (record { state = fits; back = f.back; forward = f.forward })
    (omega (arith, p.1, state_below e.state f.state, link_below MAX_PAGES e.forward, link_below MAX_PAGES e.back))

pub back_put : (word : ℕ) (l : Option ℕ) → IsPacked wide word → IfSome l (λ page. page < MAX_PAGES) →
    let next = with_field word BACK_AT LINK_BITS (number_of MAX_PAGES l) in IsPacked wide next × (unpacked wide next ≡ record (unpacked wide word) { back = l })
back_put word l p fits =
    let e = unpacked wide word in
    let f = p.0 in
    packed_is (record e { back = l }) _ (record { state = f.state; back = fits; forward = f.forward })
    (omega (arith, p.1, state_below e.state f.state, link_below MAX_PAGES e.forward, link_below MAX_PAGES e.back))

pub forward_put : (word : ℕ) (l : Option ℕ) → IsPacked wide word → IfSome l (λ page. page < MAX_PAGES) →
    let next = with_field word FORWARD_AT LINK_BITS (number_of MAX_PAGES l) in IsPacked wide next × (unpacked wide next ≡ record (unpacked wide word) { forward = l })
forward_put word l p fits =
    let e = unpacked wide word in
    let f = p.0 in
    packed_is (record e { forward = l }) _ (record { state = f.state; back = f.back; forward = fits })
    (omega (arith, p.1, state_below e.state f.state, link_below MAX_PAGES e.forward, link_below MAX_PAGES e.back, link_below MAX_PAGES l))

-- the word that is put together from a state's bits and two links
pub put_together : (e : PageEntry) → StateFits e.state →
    with_field (with_field (with_field 0 FORWARD_AT LINK_BITS (number_of MAX_PAGES e.forward)) STATE_AT STATE_BITS (packed_state e.state)) BACK_AT LINK_BITS (number_of MAX_PAGES e.back) ≡ packed wide e
put_together e fits = omega (arith, state_below e.state fits, link_below MAX_PAGES e.forward, link_below MAX_PAGES e.back)
