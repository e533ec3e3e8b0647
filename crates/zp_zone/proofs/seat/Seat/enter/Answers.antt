use Rattle.std.proofs.Common.{sym, ap, ◌∙◌}
use Rattle.zp_model.specs.Books.{Part}
use Rattle.zp_laws.specs.KeptBooks.{IsSamePlaces}
use Rattle.zp_laws.proofs.BooksOthers.{request_others}
use Rattle.zp_laws.proofs.BooksShape.{places_kept}
use Rattle.zp_tie.specs.Ties.{Held}
use Rattle.zp_zone.specs.Seats.{SeatState}
use Rattle.zp_zone.proofs.Tied.{entering, books_after, seat_after}
use Rattle.zp_zone.proofs.seat.Seat.enter.Goals as goal

pub request-requires-clause-others : goal.request-requires-clause-others
request-requires-clause-others g c =
    let e = sym (ap (λ (s : SeatState). s.worker) c.self.view_is) ∙ sym c.self.invariant.0 in
    let f = sym (ap (λ (s : SeatState). s.part) c.self.view_is) in
    λ agreed other. let d = entering c.args.self.now c.self.inside.token c.args.keeper.now c.args.zone.now.plain g.Q.Asks.request c.lawful.ensures e f c.requires.zone c.requires.books c.requires.may agreed.dealt agreed.same in
    request_others other c.self.inside.token.worker g.Q.Asks.request c.args.keeper.now.whole (rw c.requires.zone c.lawful.ensures) d.0 d.1

pub invariant_of-self : goal.invariant_of-self
invariant_of-self g c =
    let e = sym (ap (λ (s : SeatState). s.worker) c.self.view_is) ∙ sym c.self.invariant.0 in
    let f = sym (ap (λ (s : SeatState). s.part) c.self.view_is) in
    let agreed = c.request.ensures.agreed in
    let d = entering c.args.self.now c.self.inside.token c.args.keeper.now c.args.zone.now.plain g.Q.Asks.request c.lawful.ensures e f c.requires.zone c.requires.books c.requires.may agreed.dealt agreed.same in
    let w = c.self.inside.token.worker in
    let same : IsSamePlaces c.self.inside.token.mine c.request.new.token.mine =
    rw (agreed.same, ap (λ (x : Held Part). x.mine) c.request.ensures.token) (places_kept w w g.Q.Asks.request c.args.keeper.now.whole (rw c.requires.zone c.lawful.ensures) d.0 d.1) in
    (ap (λ (x : Held Part). x.worker) c.request.ensures.token ∙ c.self.invariant.0, c.self.invariant.1 ∙ sym same.base, c.self.invariant.2 ∙ sym same.pages)

pub returns-clause-books : goal.returns-clause-books
returns-clause-books g c =
    let e = sym (ap (λ (s : SeatState). s.worker) c.self.view_is) ∙ sym c.self.invariant.0 in
    let f = sym (ap (λ (s : SeatState). s.part) c.self.view_is) in
    let agreed = c.request.ensures.agreed in
    let d = entering c.args.self.now c.self.inside.token c.args.keeper.now c.args.zone.now.plain g.Q.Asks.request c.lawful.ensures e f c.requires.zone c.requires.books c.requires.may agreed.dealt agreed.same in
    books_after c.args.keeper.now c.request.new.self c.self.inside.token.worker g.Q.Asks.request c.requires.books d c.request.ensures.keeper

pub returns-clause-seat : goal.returns-clause-seat
returns-clause-seat g c =
    let e = sym (ap (λ (s : SeatState). s.worker) c.self.view_is) ∙ sym c.self.invariant.0 in
    let f = sym (ap (λ (s : SeatState). s.part) c.self.view_is) in
    let agreed = c.request.ensures.agreed in
    let d = entering c.args.self.now c.self.inside.token c.args.keeper.now c.args.zone.now.plain g.Q.Asks.request c.lawful.ensures e f c.requires.zone c.requires.books c.requires.may agreed.dealt agreed.same in
    seat_after c.args.self.now c.self.inside.token c.request.new.token c.self.inside.worker c.args.keeper.now c.args.zone.now.plain g.Q.Asks.request c.self.view_is c.self.invariant.0 c.requires.zone agreed.same d c.request.ensures.token
