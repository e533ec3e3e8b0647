use Rattle.std.proofs.Common.{◌≡◌, ◌≤◌, All, length, map, ap, sym, subst, ◌∙◌, arith}
use Rattle.std.specs.List.{range_with_len}
use Rattle.std.proofs.lemmas.List.{length-map}
use Rattle.std.proofs.lemmas.List.Elements.{All-push}
use Rattle.zp_share.specs.Shares.{ShareState, IsShareOf, key_of, plain}
use Rattle.zp_crew.specs.Opening.{opening_share, plain_config}
use Rattle.zp_model.proofs.RowLists.{written_back}
use Rattle.zp_crew.proofs.Seating.{seat_in, seats_left, left_some, fronts_are, rests_are, zones_count, own_count, all_are, all_unused, opened_as, opened_fits, opened_worker, shares_more, workers_more, shares_count, crew_is}
use Rattle.zp_crew.proofs.opening.open_crew.Goals as goal

pub next_seats-requires : goal.next_seats-requires
next_seats-requires c =
    left_some c.args.workers c.loop.counter c.in_ok-zones.zones.items c.deref_mut.result.now (omega (arith, c.loop-test.true)) (c.deref_mut.ensures.value ∙ c.loop.invariant.rows)

pub new-requires-clause-worker : goal.new-requires-clause-worker
new-requires-clause-worker c =
    let n = c.args.workers in
    let configs = map plain_config c.args.configs.now in
    let w = c.loop.counter in
    let zs = c.in_ok-zones.zones.items in
    let own = c.in_ok-own.own.items in
    let mine : own ≡ map (seat_in w) zs =
    fronts_are n w zs c.deref_mut.result.now own (omega (arith, c.loop-test.true)) (c.deref_mut.ensures.value ∙ c.loop.invariant.rows) c.in_ok-own.ensures.front in
    all_are w zs own (omega (arith, own_count w zs own mine, zones_count n configs zs c.in_ok-zones.ensures.zones, length-map c.args.configs.now plain_config, c.requires.some)) mine

pub new-requires-clause-unused : goal.new-requires-clause-unused
new-requires-clause-unused c =
    let n = c.args.workers in
    let w = c.loop.counter in
    let zs = c.in_ok-zones.zones.items in
    let own = c.in_ok-own.own.items in
    let mine : own ≡ map (seat_in w) zs =
    fronts_are n w zs c.deref_mut.result.now own (omega (arith, c.loop-test.true)) (c.deref_mut.ensures.value ∙ c.loop.invariant.rows) c.in_ok-own.ensures.front in
    all_unused n w zs c.in_ok-zones.seats.items own (omega (arith, c.loop-test.true)) c.in_ok-zones.ensures.seats mine

pub push_reserved-requires : goal.push_reserved-requires
push_reserved-requires c =
    let opening = opening_share c.args.lists.batch c.args.lists.high_len (map plain_config c.args.configs.now) in
    omega (arith, shares_count c.loop.counter c.loop.shares.items opening c.loop.invariant.shares, c.loop.shares.ok.0, c.loop.invariant.room, c.loop-test.true)

pub loop-preserved : goal.loop-preserved
loop-preserved c =
    let n = c.args.workers in
    let b = c.args.lists.batch in
    let g = c.args.lists.high_len in
    let configs = map plain_config c.args.configs.now in
    let was = c.loop.invariant in
    let w = c.loop.counter in
    let zs = c.in_ok-zones.zones.items in
    let made = c.in_ok-zones.ensures.zones in
    let rows = c.deref_mut.result.now in
    let left = c.next_seats.new.seats in
    let own = c.in_ok-own.own.items in
    let ss = c.loop.shares.items in
    let s = c.in_ok-new.field-0 in
    let pushed = c.push_reserved.ensures in
    let rows_are : rows ≡ map (seats_left n w) zs = c.deref_mut.ensures.value ∙ was.rows in
    let mine : own ≡ map (seat_in w) zs = fronts_are n w zs rows own (omega (arith, c.loop-test.true)) rows_are c.in_ok-own.ensures.front in
    let some : 1 ≤ length own = omega (arith, own_count w zs own mine, zones_count n configs zs made, length-map c.args.configs.now plain_config, c.requires.some) in
    record {
      rows =
          written_back left c.loop.seats.items c.loop.seats.len (ap length c.in_ok-own.ensures.rest ∙ length-map rows _ ∙ ap length c.deref_mut.ensures.value) c.loop.seats.ok.0
          ∙ rests_are n w zs rows left rows_are c.in_ok-own.ensures.rest;
      shares = ap (map plain) pushed.items ∙ shares_more (opening_share b g configs) w ss s was.shares (opened_as n configs w zs own b g s made mine c.in_ok-new.ensures.share);
      workers = ap (map (λ (x : ShareState). x.worker)) pushed.items ∙ workers_more w ss s was.workers (opened_worker w zs own b g s some mine c.in_ok-new.ensures.share);
      fit =
          subst (λ l. All (IsShareOf (map key_of zs)) l) (sym pushed.items)
          (All-push (IsShareOf (map key_of zs)) ss s was.fit (opened_fits w zs own b g s mine c.in_ok-new.ensures.share));
      room = omega (arith, was.room, pushed.capacity);
    }

pub returns-clause-many : goal.returns-clause-many
returns-clause-many c =
    zones_count c.args.workers (map plain_config c.args.configs.now) c.in_ok-zones.zones.items c.in_ok-zones.ensures.zones ∙ length-map c.args.configs.now plain_config

pub returns-clause-workers : goal.returns-clause-workers
returns-clause-workers c =
    let opening = opening_share c.args.lists.batch c.args.lists.high_len (map plain_config c.args.configs.now) in
    shares_count c.loop.counter c.loop.shares.items opening c.loop.invariant.shares ∙ omega (arith, c.loop-test.false, c.loop.auto.counter-end)

pub returns-clause-crew : goal.returns-clause-crew
returns-clause-crew c =
    let was = c.loop.invariant in
    let n = c.args.workers in
    let opening = opening_share c.args.lists.batch c.args.lists.high_len (map plain_config c.args.configs.now) in
    let all : c.loop.counter ≡ n = omega (arith, c.loop-test.false, c.loop.auto.counter-end) in
    crew_is n (map plain_config c.args.configs.now) c.in_ok-zones.zones.items c.loop.shares.items opening c.in_ok-zones.ensures.zones
    (was.shares ∙ ap (λ m. map opening (range_with_len 0 m)) all)
    (was.workers ∙ ap (range_with_len 0) all)
    was.fit
