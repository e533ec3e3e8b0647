use Rattle.std.proofs.Common.{◌≡◌, ◌<◌, length, true, subst, sym, ap, ◌∙◌, arith}
use Rattle.zp_board.proofs.Steps.{empties, joins, looks, parts}
use Rattle.zp_board.proofs.board.WordPublisher.show_place.Goals as goal

pub split_seat-part-requires : goal.split_seat-part-requires
split_seat-part-requires g c =
    (ap (λ p. p.tie) c.reader.view_is ∙ c.requires.reader ∙ sym (ap (λ b. b.tie) c.board.view_is), omega (arith, c.board.invariant.1), empties g.row.W c.board.inside.row.shared.key c.reader.inside.pin.id c.reader.inside.pin.me.0 c.reader.invariant.1)

pub join_seat-requires : goal.join_seat-requires
join_seat-requires g c =
    let mine = ap (λ p. p.tie) c.self.view_is ∙ c.requires.tie ∙ sym (ap (λ b. b.tie) c.board.view_is) in
    let theirs = ap (λ p. p.tie) c.reader.view_is ∙ c.requires.reader ∙ sym (ap (λ b. b.tie) c.board.view_is) in
    let s = c.split_seat-part.ensures in
    (mine, s.3 ∙ theirs, ap (λ m. m.1) s.4, omega (arith, c.board.invariant.1), joins g.row.W c.board.inside.row.shared.key c.self.inside.pin.id c.self.inside.pin.me.0 c.split_seat-part.result.id c.split_seat-part.result.me.0 c.self.invariant.1)

pub load-place-requires : goal.load-place-requires
load-place-requires g c =
    let mine = ap (λ p. p.tie) c.self.view_is ∙ c.requires.tie ∙ sym (ap (λ b. b.tie) c.board.view_is) in
    let s = c.split_seat-part.ensures in
    let j = c.join_seat.ensures in
    let reads : c.join_seat.new.seat.me.0.reads ≡ true = ap (λ m. m.0.reads) j.2 ∙ ap (λ m. m.0.reads) s.4 ∙ c.reader.invariant.2 in
    let seen : c.join_seat.new.seat.me.0.seen ≡ c.reader.inside.pin.me.0.seen = ap (λ m. m.0.seen) j.2 ∙ ap (λ m. m.0.seen) s.4 in
    (j.0 ∙ mine, omega (arith, c.board.invariant.1), looks g.row.W c.board.inside.row.shared.key c.board.inside.row.shared.table_id.slots c.join_seat.new.seat.id c.join_seat.new.seat.me reads (subst (λ l. 0 < length l) (sym seen) c.reader.invariant.3))

pub split_seat-requires : goal.split_seat-requires
split_seat-requires g c =
    let mine = ap (λ p. p.tie) c.self.view_is ∙ c.requires.tie ∙ sym (ap (λ b. b.tie) c.board.view_is) in
    (c.load-place.ensures.0 ∙ c.join_seat.ensures.0 ∙ mine, omega (arith, c.board.invariant.1), parts g.row.W c.board.inside.row.shared.key c.load-place.new.seat.id c.load-place.new.seat.me.0)
