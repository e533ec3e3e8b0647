use Rattle.std.proofs.Common.{List, ◌∙◌, All, Some, ap, length, slice_index_or, sym, subst, zero-add}
use Rattle.std.proofs.lemmas.List.Elements.{All-pop}
use Rattle.std.proofs.lemmas.List.FromFn.{get_or-map-range_with_len, length-map-range_with_len}
use Rattle.std.specs.Arc.{arc_value}
use Rattle.zp_zone.specs.Seats.{IsSeatOf, IsUnused, SeatState, ZoneState, books}
use Rattle.zp_gate.specs.GatedZones.{GateKey, IsSeatBy}
use Rattle.zp_gate.specs.GatedRows.{lock_key}
use Rattle.zp_gate.proofs.Keys.{opening_key, seats_by}
use Rattle.zp_gate.proofs.opening.opened_zone.Goals as goal

pub shut_in-requires-clause-key : goal.shut_in-requires-clause-key
shut_in-requires-clause-key c =
    let config = c.args.config.now in let zone = c.in_ok-zone.zone in
    let tie = (All-pop (IsSeatOf zone) _ _ (Some c.in-Some-pop.seat) c.in-Some-pop.ensures.items c.in_ok-zone.ensures.fits).1 in
    let named = c.in-Some.ensures.some ∙ c.as_bytes.ensures.value in
    opening_key zone zone.tie config.name.now config.largest config.base config.pages config.min c.args.workers c.in_ok-zone.ensures.zone
    ∙ (λ i. record { tie = sym tie i; name = sym named i; base = config.base; pages = config.pages; min = config.min; largest = config.largest; workers = c.args.workers })

pub invariant_of-result : goal.invariant_of-result
invariant_of-result c =
    let zone = c.in_ok-zone.zone in let made = c.in_ok-zone.ensures in
    let seats = c.push_reserved.ensures.items ∙ sym c.in-Some-pop.ensures.items in
    let key = lock_key (arc_value c.in-Ok.lock) in
    let tie = (All-pop (IsSeatOf zone) _ _ (Some c.in-Some-pop.seat) c.in-Some-pop.ensures.items made.fits).1 in
    let is = ap lock_key c.in-Ok.ensures.ok ∙ c.of-lock.ensures ∙ c.in_ok-table.ensures.key in
    record {
      order = λ w none lt.
          let few = rw (ap length (seats ∙ made.seats) ∙ length-map-range_with_len _ 0 c.args.workers) at lt in
          ap (λ xs. (slice_index_or xs w none).worker) (seats ∙ made.seats) ∙ ap (λ (s : SeatState). s.worker) (get_or-map-range_with_len _ 0 c.args.workers w w none few (zero-add w));
      unused = subst (All IsUnused) (sym seats) made.unused;
      of = subst (λ (ss : List SeatState). All (IsSeatBy key.zone) ss) (sym (seats ∙ made.seats))
          (seats_by zone.tie (books zone) c.args.workers key.zone (sym tie ∙ sym (ap (λ (k : GateKey). k.zone.tie) is)) (ap (λ (z : ZoneState). z.plain.base) made.zone ∙ sym (ap (λ (k : GateKey). k.zone.base) is)));
    }

pub returns-clause-seats : goal.returns-clause-seats
returns-clause-seats c = ap length (c.push_reserved.ensures.items ∙ sym c.in-Some-pop.ensures.items ∙ c.in_ok-zone.ensures.seats) ∙ length-map-range_with_len _ 0 c.args.workers
