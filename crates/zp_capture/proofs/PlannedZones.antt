-- The zones that are planned.
use Rattle.std.proofs.Common.{ℕ, ◌≡◌, ◌<◌, ◌+◌, ◌++◌, List, [], ◌∷◌, All, refl, sym, ap, subst, ◌∙◌, arith, length, map, take, drop, get_or}
use Rattle.std.proofs.lemmas.List.{drop_more, take_more, take-append-drop, length-map, length-take}
use Rattle.std.proofs.lemmas.List.Elements.{All-push}
use Rattle.zp_capture.specs.declared.plan.ZonePlan.{ZonePlan}
use Rattle.zp_capture.specs.declared.zone_info.MemoryZone.{MemoryZone}
use Rattle.zp_capture.specs.Plans.{ArePlansOf, CannotBe, HasPlace, IsFirst, in_place}

-- the first elements and the next one
next : {X : Type 0} (xs : List X) (i : ℕ) (x : X) → i < length xs → x ≡ get_or xs i x → drop i xs ≡ x ∷ drop (i + 1) xs
next xs i x lt is = drop_more xs i x lt ∙ ap (λ y. y ∷ drop (i + 1) xs) (sym is)

-- the first of the machine's zones in whose place none can be
pub first_is : (zones : List MemoryZone) (i : ℕ) (zone : MemoryZone) → i < length zones → zone ≡ get_or zones i zone → All HasPlace (take i zones) → CannotBe zone → IsFirst CannotBe zones zone
first_is zones i zone lt is before cannot =
    record {
      before = take i zones;
      after = drop (i + 1) zones;
      all = sym (take-append-drop i zones) ∙ ap (λ l. take i zones ++ l) (next zones i zone lt is);
      is = cannot;
      first = before;
    }

-- those that are named are planned
pub named_are : (named : List ZonePlan) (told : List MemoryZone) (plans : List ZonePlan) → 0 < length named → plans ≡ named → ArePlansOf named told plans
named_are [] told plans some is = absurd (omega (arith, some))
named_are (p ∷ named) told plans some is = is

-- none are planned only where none are named or told
pub no_plans : (named : List ZonePlan) (told : List MemoryZone) (plans : List ZonePlan) → ArePlansOf named told plans → length plans ≡ 0 → (named ≡ []) × (told ≡ [])
no_plans [] [] plans are none = (refl, refl)
no_plans [] (z ∷ told) plans are none = absurd (omega (arith, ap length are.0, none))
no_plans (p ∷ named) told plans are none = absurd (omega (arith, ap length are, none))

-- one zone more has a place
pub placed_more : (zones : List MemoryZone) (i : ℕ) (zone : MemoryZone) → i < length zones → zone ≡ get_or zones i zone → All HasPlace (take i zones) → HasPlace zone → All HasPlace (take (i + 1) zones)
placed_more zones i zone lt is before has =
    subst (λ l. All HasPlace l) (sym (take_more zones i zone lt ∙ ap (λ y. take i zones ++ y ∷ []) (sym is))) (All-push HasPlace (take i zones) zone before has)

-- as many stand in their places as there were zones so far
pub made_so_far : (zones : List MemoryZone) (i : ℕ) (plans : List ZonePlan) → i < length zones → plans ≡ map in_place (take i zones) → length plans ≡ i
made_so_far zones i plans lt is = ap length is ∙ length-map (take i zones) in_place ∙ omega (arith, length-take i zones, lt)
