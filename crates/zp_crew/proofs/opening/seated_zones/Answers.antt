use Rattle.std.proofs.Common.{rules, ◌≡◌, ◌<◌, ◌++◌, ◌∷◌, [], List, All, get_or, length, map, ap, sym, subst, ◌∙◌, arith}
use Rattle.std.proofs.lemmas.List.{get_or-map, length-map}
use Rattle.std.proofs.lemmas.List.Elements.{All-push}
use Rattle.zp_zone.specs.Seats.{ZoneState, SeatState, IsUnused}
use Rattle.zp_share.specs.Shares.{named_zone}
use Rattle.zp_crew.specs.Opening.{IsWhyNone, no_config, opened_zone, plain_config}
use Rattle.zp_crew.proofs.Refusing.{good_more, why_none}
use Rattle.zp_crew.proofs.Seating.{made_count, zones_more, seats_in, seats_more}
use Rattle.zp_crew.proofs.opening.seated_zones.Goals as goal

pub push_reserved-requires : goal.push_reserved-requires
push_reserved-requires c =
    let configs = map plain_config c.args.configs.now in
    let lt : c.loop-config.config-index < length configs = omega (arith, c.loop-config-test.true, length-map c.args.configs.now plain_config) in
    let count = made_count (opened_zone c.args.workers) named_zone configs c.loop-config.config-index c.loop-config.zones.items lt c.loop-config.invariant.zones in
    omega (arith, count, c.loop-config.zones.ok.0, c.loop-config.invariant.zones_room, c.loop-config-test.true)

pub push_reserved-requires-in-loop-config : goal.push_reserved-requires-in-loop-config
push_reserved-requires-in-loop-config c =
    let configs = map plain_config c.args.configs.now in
    let zs = c.loop-config.zones.items in
    let lt : c.loop-config.config-index < length configs = omega (arith, c.loop-config-test.true, length-map c.args.configs.now plain_config) in
    let count = made_count (opened_zone c.args.workers) named_zone configs c.loop-config.config-index zs lt c.loop-config.invariant.zones in
    let rows : length c.loop-config.seats.items ≡ length zs = ap length c.loop-config.invariant.seats ∙ length-map zs (seats_in c.args.workers) in
    omega (arith, count, rows, c.loop-config.seats.ok.0, c.loop-config.invariant.seats_room, c.loop-config-test.true)

pub returns-in_err-zone-clause-why : goal.returns-in_err-zone-clause-why
returns-in_err-zone-clause-why c =
    let configs = map plain_config c.args.configs.now in
    let i = c.loop-config.config-index in
    let one = plain_config c.config-item.result in
    let lt : i < length configs = omega (arith, c.loop-config-test.true, length-map c.args.configs.now plain_config) in
    let is : one ≡ get_or configs i no_config =
    ap plain_config c.config-item.is ∙ sym (get_or-map plain_config c.args.configs.now i c.config-item.result no_config c.loop-config-test.true) in
    let why : IsWhyNone c.args.workers configs c.in_err-zone.field-0.0 =
    why_none c.args.workers configs i one c.in_err-zone.field-0.0 lt is c.loop-config.invariant.good c.in_err-zone.ensures.why in
    search (rules, why)

pub loop-config-preserved : goal.loop-config-preserved
loop-config-preserved c =
    let n = c.args.workers in
    let i = c.loop-config.config-index in
    let configs = map plain_config c.args.configs.now in
    let one = plain_config c.config-item.result in
    let lt : i < length configs = omega (arith, c.loop-config-test.true, length-map c.args.configs.now plain_config) in
    let is : one ≡ get_or configs i one =
    ap plain_config c.config-item.is ∙ sym (get_or-map plain_config c.args.configs.now i c.config-item.result one c.loop-config-test.true) in
    let was = c.loop-config.invariant in
    let got = c.in_ok-zone.ensures in
    let zs = c.loop-config.zones.items in
    let z = c.in_ok-zone.zone in
    let row = c.in_ok-zone.row.items in
    let pushed = c.push_reserved.ensures in
    let placed = c.push_reserved-in-loop-config.ensures in
    let rows_are = placed.items ∙ ap (λ r. c.loop-config.seats.items ++ r ∷ []) c.new.ensures in
    record {
      good = good_more n configs i one lt is was.good got.good;
      zones = ap (map named_zone) pushed.items ∙ zones_more n configs i one zs z lt was.zones (ap named_zone got.zone) is;
      seats = rows_are ∙ seats_more n zs z c.loop-config.seats.items row was.seats got.seats ∙ sym (ap (map (seats_in n)) pushed.items);
      unused =
          subst (λ l. All (λ (r : List SeatState). All IsUnused r) l) (sym rows_are)
          (All-push (λ (r : List SeatState). All IsUnused r) c.loop-config.seats.items row was.unused got.unused);
      new =
          subst (λ l. All (λ (y : ZoneState). y.entries ≡ []) l) (sym pushed.items)
          (All-push (λ (y : ZoneState). y.entries ≡ []) zs z was.new (ap (λ (y : ZoneState). y.entries) got.zone));
      zones_room = omega (arith, was.zones_room, pushed.capacity);
      seats_room = omega (arith, was.seats_room, placed.capacity);
    }
