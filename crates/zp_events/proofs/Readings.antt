-- What is said of a line, from what its parts are.
use Rattle.std.proofs.Common.{ℕ, ◌≡◌, ◌↔◌, List, refl, sym, ap, subst, ◌∙◌}
use Rattle.zp_events.specs.declared.event.Action.{Action}
use Rattle.zp_events.specs.declared.event.EventName.{EventName}
use Rattle.zp_events.specs.declared.event.PageEvent.{PageEvent}
use Rattle.zp_events.specs.declared.event.Line.{Line}
use Rattle.zp_events.specs.declared.event.Line.TheVariants.{Event, Broken, Other}
use Rattle.zp_events.specs.Words.{words_of}
use Rattle.zp_events.specs.Fields.{IsAction}
use Rattle.zp_events.specs.Lines.{IsBeginning, IsEvent, BeginsAsEvent, IsBroken}
use Rattle.zp_events.proofs.Heads.{same_beginning}
use Rattle.zp_events.proofs.Actions.{same_action}

other_event : (e : PageEvent) → Other ≡ Event e → ⊥
other_event e h = cc

other_broken : Other ≡ Broken → ⊥
other_broken h = cc

broken_event : (e : PageEvent) → Broken ≡ Event e → ⊥
broken_event e h = cc

event_broken : (e : PageEvent) → Event e ≡ Broken → ⊥
event_broken e h = cc

event_other : (e : PageEvent) → Event e ≡ Other → ⊥
event_other e h = cc

one_event : (d e : PageEvent) → Event d ≡ Event e → d ≡ e
one_event d e h = cc

begins : (line : List ℕ) (e : PageEvent) → IsEvent line e → BeginsAsEvent line
begins line e is = record { cpu = e.cpu; name = is.name; fields = is.fields; beginning = is.beginning }

-- what may be said of a line
pub record Says (line : List ℕ) (said : Line) : Type 0 where
  pub event : (e : PageEvent) → (said ≡ Event e) ↔ IsEvent line e
  pub broken : (said ≡ Broken) ↔ IsBroken line
  pub other : (said ≡ Other) ↔ (BeginsAsEvent line → ⊥)

pub other_says : (line : List ℕ) → (BeginsAsEvent line → ⊥) → Says line Other
other_says line none = record {
  event = λ e. ((λ h. absurd (other_event e h)), (λ is. absurd (none (begins line e is))));
  broken = ((λ h. absurd (other_broken h)), (λ is. absurd (none is.begins)));
  other = ((λ h. none), (λ h. refl));
}

pub broken_says : (line : List ℕ) (cpu : ℕ) (name : EventName) (fields : List ℕ) → IsBeginning line cpu name fields → ((a : Action) → IsAction name (words_of fields) a → ⊥) → Says line Broken
broken_says line cpu name fields b none = record {
  event = λ e. ((λ h. absurd (broken_event e h)), (λ is. absurd (no_event e is)));
  broken = ((λ h. record { begins = begun; no_event = no_event }), (λ h. refl));
  other = ((λ h. absurd (other_broken (sym h))), (λ no. absurd (no begun)));
}
  where
    begun : BeginsAsEvent line
    begun = record { cpu = cpu; name = name; fields = fields; beginning = b }

    no_event : (e : PageEvent) → IsEvent line e → ⊥
    no_event e is =
        let same = same_beginning line cpu e.cpu name is.name fields is.fields b is.beginning in
        none e.action (subst (λ n. IsAction n (words_of fields) e.action) (sym same.1) (subst (λ f. IsAction is.name (words_of f) e.action) (sym same.2) is.action))

same_event : (d e : PageEvent) → d.cpu ≡ e.cpu → d.action ≡ e.action → d ≡ e
same_event d e p q =
    let from : ℕ → PageEvent = λ n. record { cpu = n; action = d.action } in
    let to : Action → PageEvent = λ a. record { cpu = e.cpu; action = a } in
    ap from p ∙ ap to q

pub event_says : (line : List ℕ) (said : PageEvent) (name : EventName) (fields : List ℕ) → IsBeginning line said.cpu name fields → IsAction name (words_of fields) said.action → Says line (Event said)
event_says line said name fields b action = record {
  event = λ e. ((λ h. subst (IsEvent line) (one_event said e h) itself), (λ is. ap Event (is_same e is)));
  broken = ((λ h. absurd (event_broken said h)), (λ is. absurd (is.no_event said itself)));
  other = ((λ h. absurd (event_other said h)), (λ no. absurd (no (begins line said itself))));
}
  where
    itself : IsEvent line said
    itself = record { name = name; fields = fields; beginning = b; action = action }

    is_same : (e : PageEvent) → IsEvent line e → said ≡ e
    is_same e is =
        let same = same_beginning line said.cpu e.cpu name is.name fields is.fields b is.beginning in
        let here = subst (λ n. IsAction n (words_of is.fields) said.action) same.1 (subst (λ f. IsAction name (words_of f) said.action) same.2 action) in
        same_event said e same.0 (same_action is.name (words_of is.fields) said.action e.action here is.action)
