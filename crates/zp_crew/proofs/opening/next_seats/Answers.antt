use Rattle.std.proofs.Common.{◌≡◌, ◌<◌, List, drop, get_or, length, set, sym, ap, ◌∙◌, arith}
use Rattle.std.proofs.lemmas.List.{length-set}
use Rattle.std.proofs.lemmas.List.Edits.{map_over_more}
use Rattle.zp_zone.specs.Seats.{SeatState}
use Rattle.zp_share.specs.Shares.{no_seat}
use Rattle.zp_crew.proofs.Seating.{made_more, unwritten}
use Rattle.zp_crew.proofs.opening.next_seats.Goals as goal

pub loop-row-preserved : goal.loop-row-preserved
loop-row-preserved c =
    let was = c.loop-row.invariant in
    let rows = c.args.seats.now in
    let i = c.loop-row.row-index in
    let row = c.row-item.result in
    let front : List SeatState → SeatState = λ l. get_or l 0 no_seat in
    let rest : List SeatState → List SeatState = λ l. drop 1 l in
    let lt : i < length rows = omega (arith, c.loop-row-test.true, c.loop-row.auto.seats) in
    let left : c.take_front.new.self ≡ rest row = c.take_front.ensures.rest ∙ ap rest (sym c.row-item.is) in
    record {
      own =
          c.push_reserved.ensures.items
          ∙ made_more front rows i row c.loop-row.own.items c.take_front.result lt was.own
          (c.take_front.ensures.front ∙ ap front (sym c.row-item.is ∙ unwritten rest rows c.loop-row.seats i row lt was.rest c.row-item.is));
      rest = ap (set c.loop-row.seats i) left ∙ map_over_more rest rows c.loop-row.seats i row lt was.rest c.row-item.is;
      room = omega (arith, was.room, c.push_reserved.ensures.capacity, length-set c.loop-row.seats i c.take_front.new.self);
    }
