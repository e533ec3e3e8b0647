use Rattle.std.proofs.Common.{[], ◌≡◌, ◌++◌, ◌∙◌, ap, arith, map, sym}
use Rattle.std.proofs.lemmas.Grind.{common_steps}
use Rattle.std.proofs.lemmas.List.{append-nil, nil_from_length}
use Rattle.std.specs.Arc.{arc_value}
use Rattle.zp_gate.specs.GatedRows.{lock_key}
use Rattle.zp_gate.proofs.Keys.{key_in}
use Rattle.zp_gate.proofs.opening.open_row.Goals as goal

-- the locks that were put together are those that the crew has its desks at
same_gates : (c : goal.After-drop-zone-iterator) → map (λ g. lock_key (arc_value g)) c.loop-zone.locks.items ≡ map key_in c.as_mut_slice.result.now
same_gates c =
    let locks = map (λ g. lock_key (arc_value g)) c.loop-zone.locks.items in
    let none : c.loop-zone.zone-iterator.rest.items ≡ [] = nil_from_length c.loop-zone.zone-iterator.rest.items (omega (arith, c.in-None.ensures.steps.0)) in
    let handed : c.into_iter-zone-iterator.result.rest.items ≡ c.crew_of.new.zones = grind (arith, common_steps) in
    sym (ap (λ zs. locks ++ map key_in zs) none ∙ append-nil locks) ∙ c.loop-zone.invariant.keys ∙ ap (map key_in) handed ∙ c.in_ok-crew.ensures.keys

pub returns-clause-new : goal.returns-clause-new
returns-clause-new c = rw (same_gates c) c.in_ok-crew.ensures.new
