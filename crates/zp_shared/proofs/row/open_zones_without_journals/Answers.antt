use Rattle.std.proofs.Common.{◌≡◌, ◌∙◌, ◌++◌, ◌∷◌, [], ap, ap₂, sym, map, arith}
use Rattle.std.proofs.lemmas.Grind.{common_steps}
use Rattle.std.proofs.lemmas.List.{map_push}
use Rattle.std.proofs.lemmas.Simd.{map-map}
use Rattle.zp_zone.specs.Seats.{ZoneState}
use Rattle.zp_share.specs.Shares.{key_of}
use Rattle.zp_shared.specs.Rows.{OpenedState, zone_counts}
use Rattle.zp_shared.proofs.Opening.{all_more, many_more, one_over}
use Rattle.zp_shared.proofs.row.open_zones_without_journals.Goals as goal

pub loop-zone-preserved : goal.loop-zone-preserved
loop-zone-preserved c =
    let i = c.loop-zone.invariant in
    let p = c.push_reserved.ensures in
    let new = c.in_ok-without_journal.field-0 in
    let made = c.in_ok-without_journal.ensures in
    let zone_of : OpenedState → ZoneState = λ o. o.zone in
    record {
      zones = ap (map zone_of) p.items ∙ map_push zone_of c.loop-zone.row.items new ∙ ap₂ (λ l z. l ++ z ∷ []) i.zones made.zone;
      many = many_more c.loop-zone.row.items _ new c.loop-zone.yielded c.in-Some.zone i.many p.items;
      sections = all_more (λ (o : OpenedState). (o.board.capacity ≡ c.args.sections) × (o.capacity ≡ c.args.sections)) c.loop-zone.row.items _ new i.sections p.items made.capacity;
      published =
          all_more (λ (o : OpenedState). o.published ≡ zone_counts o.zone ∷ []) c.loop-zone.row.items _ new i.published p.items
          (made.published ∙ ap (λ z. zone_counts z ∷ []) (sym made.zone));
      whole = one_over c.loop-zone.yielded _ _ _ _ i.whole c.in-Some.ensures.steps.0;
      room = omega (arith, i.room, p.capacity);
    }

pub returns-clause-keys : goal.returns-clause-keys
returns-clause-keys c =
    let zone_of : OpenedState → ZoneState = λ o. o.zone in
    let same : map zone_of c.loop-zone.row.items ≡ c.args.zones.items = grind (arith, common_steps) in
    sym (map-map key_of zone_of c.loop-zone.row.items) ∙ ap (map key_of) same
