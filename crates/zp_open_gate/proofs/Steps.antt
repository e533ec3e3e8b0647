-- Each step on a lock keeps its rule.
use Rattle.std.proofs.Common.{◌≡◌, ℕ, ◌==◌, List, [], ◌∷◌, ◌++◌, set, refl, sym, ap, ◌∙◌, subst, inl, inr, arith}
use Rattle.std.specs.Prelude.{Some}
use Rattle.std.proofs.lemmas.Bool.{cases_lt}
use mathlib.Core.Option.{some, none}
use lib.ListN.{get_elem?}
use prog.Atomic.{either}
use Rattle.std.specs.List.{slice_index}
use Rattle.atomic_table.specs.Table.{State, Me, Act, step, stepped, keeps, takes, gives, rest, Allows, put_back}
use Rattle.atomic_table.specs.Table.{Enters as Entering}
use Rattle.atomic_table.specs.Seated.{TableId}
use Rattle.atomic_table.specs.declared.shared.Seat.{Seat}
use Rattle.atomic_table.proofs.Lists.{at_set, at_snoc, set_here, exchanged}
use Rattle.zp_open_gate.specs.declared.visit_view.VisitView.{VisitView}
use Rattle.zp_open_room.specs.Rooms.{RoomState}
use Rattle.zp_open_gate.specs.declared.room_key.RoomKey.{RoomKey}
use Rattle.zp_open_gate.specs.Rooms.{IsBehind}
use Rattle.zp_open_gate.specs.Locks.{IsGated, IsIn, Comes, Enters, Leaves, first_held, inside, outside}
use Rattle.zp_open_gate.specs.Visits.{IsVisit}

-- each visitor knows the lock's key
abbrev Views : RoomKey → List VisitView → Type 0
Views key views = (by : ℕ) (v : VisitView) → get_elem? views by ≡ some v → v.key ≡ key

views_end : (key : RoomKey) (views : List VisitView) (w : VisitView) → w.key ≡ key → Views key views → Views key (views ++ w ∷ [])
views_end key views w is old j u e = elim (at_snoc views w u j e) [ inl was ↦ old j u was | inr x ↦ ap (λ (v : VisitView). v.key) (sym x) ∙ is ]

views_set : (key : RoomKey) (views : List VisitView) (id : ℕ) (w : VisitView) → w.key ≡ key → Views key views → Views key (set views id w)
views_set key views id w is old j u e = elim (at_set views id j w u e) [ inl x ↦ ap (λ (v : VisitView). v.key) (sym x.1) ∙ is | inr x ↦ old j u x.1 ]

pub comes : (key : RoomKey) (slots : ℕ) → Entering (IsGated key) slots 0 (λ n w. Comes (step slots 0 0 0 none) (outside key, []) n (w, []))
comes key slots s gated len small = (outside key, (gated.0, gated.1, gated.2, views_end key s.views (outside key) refl gated.3), refl)

-- a lock that was tried is not free, whatever it was
shut : (key : RoomKey) (id : ℕ) (me : List (ℕ × RoomState)) (s : State RoomState VisitView) (v : VisitView) (a : Act RoomState) → IsGated key s → v.key ≡ key →
    IsGated key (stepped s 0 (either (slice_index s.words 0 == 0) 1 (slice_index s.words 0)) id me v a)
shut key id me s v a gated is =
    let n = slice_index s.words 0 in
    let no : either (n == 0) 1 n ≡ 0 → ⊥ = exchanged n 0 1 (λ k. k ≡ 0 → ⊥) (λ z e. absurd (omega (arith, e))) (λ ne e. ne e) in
    (either (n == 0) 1 n, ap (λ (ws : List ℕ). set ws 0 (either (n == 0) 1 n)) gated.1, (λ free. absurd (no free)), views_set key s.views id v is gated.3)

pub enters : (key : RoomKey) (slots id : ℕ) (me : Me RoomState VisitView) → Allows (IsGated key) slots id me 0 (λ n. either (n == 0) 1 n) (Enters (step slots 0 0 1 none) me)
enters key slots id me s gated len at small =
    let is : me.0.key ≡ key = gated.3 id me.0 at in
    let word : slice_index s.words 0 ≡ gated.0 = ap (λ (ws : List ℕ). slice_index ws 0) gated.1 in
    elim (cases_lt 0 gated.0) [
      | inl more ↦ (me.0, keeps, tt, shut key id me.1 s me.0 keeps gated is, (λ found. absurd (omega (arith, found, word, more))))
      | inr free ↦
          let h = gated.2 (omega (arith, free)) in
          let in' = inside me.0.key h.0 in
          (in', takes 0 h.0, h.1, shut key id me.1 s in' (takes 0 h.0) gated is, (λ found. (h.0, refl, refl, subst (λ (k : RoomKey). IsBehind k h.0) (sym is) h.2)))
    ]

pub leaves : (key : RoomKey) (id : TableId) (slots : ℕ) (p : Seat RoomState VisitView) → slots ≡ 1 → (y z : RoomState) → p.me.0 ≡ inside key y → p.me.1 ≡ (0, z) ∷ [] → IsBehind key z →
    Allows (IsGated key) slots p.id p.me 0 (λ _. 0) (λ _. Leaves (step slots 0 0 0 none) p.me 0)
leaves key tid slots p one y z in' held behind s gated len at small =
    let home : get_elem? (put_back s.homes p.me.1) 0 ≡ some (some z) = rw held (set_here s.homes 0 (some z) (omega (arith, one, len))) in
    let now : VisitView = record p.me.0 { left = first_held p.me.1 } in
    (now, gives, tt, (0, ap (λ (ws : List ℕ). set ws 0 0) gated.1, (λ _. (z, home, behind)), views_set key s.views p.id now (ap (λ (v : VisitView). v.key) in') gated.3), refl)

-- what he sees there is what he found, and his visit tells of that, and of what he left
pub visited : (id : TableId) (key : RoomKey) (p : Seat RoomState VisitView) (was now : RoomState) (v : VisitView) → IsIn id key p → p.me.1 ≡ (0, was) ∷ rest p.me.1 → v ≡ record { key = p.me.0.key; found = p.me.0.found; left = Some now } → IsVisit key was now v
visited id key p was now v is has left =
    let found : Some is.1.0 ≡ Some was = ap first_held (sym is.1.2 ∙ has) in
    let same : is.1.0 ≡ was = cc in
    record { view = left ∙ ap (λ (u : VisitView). record u { left = Some now }) (is.1.1 ∙ ap (inside key) same); behind = subst (IsBehind key) same is.1.3 }

-- the room at which he looks is the one that he has
pub looked_at : (p : Seat RoomState VisitView) (z now : RoomState) → p.me.1 ≡ (0, z) ∷ [] → p.me.1 ≡ (0, now) ∷ rest p.me.1 → now ≡ z
looked_at p z now held has = let found : Some now ≡ Some z = ap first_held (sym has ∙ held) in cc
