use Rattle.std.proofs.Common.{ℕ, ◌≡◌, ◌∙◌, ◌+◌, ◌<◌, All, length, slice_index_or, ap, refl, sym, subst, arith}
use Rattle.std.proofs.Math.Seq.{map-set_same}
use Rattle.std.proofs.lemmas.List.{get_or-set_other, get_or_push, length_push}
use Rattle.std.proofs.lemmas.List.Elements.{All-push, AllWithin-more_set}
use Rattle.zp_zone.specs.Seats.{SeatState}
use Rattle.zp_gate.specs.declared.opening.OpenedZone.{OpenedZone}
use Rattle.zp_gate.specs.GatedWorkers.{GatedShareState, IsNewShare}
use Rattle.zp_gate.proofs.Keys.{key_in, same_next}
use Rattle.zp_gate.proofs.opening.next_worker.Goals as goal

pub loop-zone-preserved : goal.loop-zone-preserved
loop-zone-preserved c =
    let kept = c.loop-zone.invariant in
    let zones = c.loop-zone.zone-items in
    let i = c.loop-zone.zone-index in
    let below : i < length zones = omega arith in
    let item : OpenedZone = slice_index_or zones i c.zone-item.result in
    let rest = c.pop.new.self.items in
    let seat = c.in-Some.seat in
    let pops = c.in-Some.ensures.items in
    let desk = c.in_ok-new.field-0 in
    let lists = c.args.lists in
    let long = ap length pops ∙ length_push rest seat in
    let last : (w : ℕ) → All (λ z. length z.seats.items ≡ w + 1) c.args.zones.now → length item.seats.items ≡ w + 1 =
    λ w all. ap (λ (z : OpenedZone). length z.seats.items) (kept.rest i c.zone-item.result (omega arith)) ∙ all i c.zone-item.result (omega arith) in
    record {
      many = omega (arith, c.push_reserved.ensures.len, kept.many);
      room = omega (arith, c.push_reserved.ensures.capacity, kept.room);
      keys = map-set_same key_in c.loop-zone.zone-items c.loop-zone.zone-index _ c.zone-item.result refl ∙ kept.keys;
      at = same_next (λ (d : GatedShareState). d.key) key_in c.loop-zone.shares.items c.push_reserved.new.self.items desk c.args.zones.now i c.zone-item.result (omega (arith, below)) c.push_reserved.ensures.items kept.at
          (c.in_ok-new.ensures.key ∙ ap key_in (kept.rest i c.zone-item.result (omega arith)));
      new = λ w all.
          let at = ap (λ ss. slice_index_or ss w seat) pops ∙ get_or_push rest seat seat w (omega (arith, long, last w all)) in
          let number : seat.worker ≡ w = ap (λ (s : SeatState). s.worker) (sym at) ∙ item.order w seat (omega (arith, last w all)) in
          let P : GatedShareState → Type 0 = λ d. IsNewShare w lists.batch lists.high_len d.share in
          let here : P desk = subst (λ v. IsNewShare v lists.batch lists.high_len desk.share) number c.in_ok-new.ensures.new in
          subst (All P) (sym c.push_reserved.ensures.items) (All-push P c.loop-zone.shares.items desk (kept.new w all) here);
      left = λ w all. AllWithin-more_set zones i _ below (λ z. length z.seats.items ≡ w) (kept.left w all) (omega (arith, long, last w all));
      rest = λ k d after. get_or-set_other zones i k _ d (λ same. absurd (omega (arith, same, after))) ∙ kept.rest k d (omega (arith, after));
    }

pub returns-clause-left : goal.returns-clause-left
returns-clause-left c = λ ok w all k d lt. c.loop-zone.invariant.left w all k d (omega arith) (omega (arith, lt))
