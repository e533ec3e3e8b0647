use Rattle.std.proofs.Common.{◌≡◌, ℕ, ◌+◌, ◌<◌, List, true, subst, sym, ap, ◌∙◌, arith}
use mathlib.Core.List.{IsPrefix}
use Rattle.zp_ring.proofs.Words.{prefix_take}
use Rattle.zp_ring.proofs.Steps.{empties, joins, looks, parts}
use Rattle.zp_ring.proofs.ring.RingPublisher.show_board.Goals as goal

pub split_seat-part-requires : goal.split_seat-part-requires
split_seat-part-requires g c =
    let row = c.board.inside.row.shared in
    let some : 0 < row.table_id.words = omega (arith, c.board.invariant.0) in
    let theirs = ap (λ p. p.tie) c.reader.view_is ∙ c.requires.reader ∙ sym (ap (λ b. b.tie) c.board.view_is) in
    (theirs, some, empties g.row.W g.row.S c.reader.inside.pin.id c.reader.inside.pin.me.0 c.reader.invariant.1)

pub join_seat-requires : goal.join_seat-requires
join_seat-requires g c =
    let row = c.board.inside.row.shared in
    let some : 0 < row.table_id.words = omega (arith, c.board.invariant.0) in
    let mine = ap (λ p. p.tie) c.self.view_is ∙ c.requires.tie ∙ sym (ap (λ b. b.tie) c.board.view_is) in
    let theirs = ap (λ p. p.tie) c.reader.view_is ∙ c.requires.reader ∙ sym (ap (λ b. b.tie) c.board.view_is) in
    let s = c.split_seat-part.ensures in
    (mine, s.3 ∙ theirs, ap (λ m. m.1) s.4, some, joins g.row.W g.row.S c.self.inside.pin.id c.self.inside.pin.me.0 c.split_seat-part.result.id c.split_seat-part.result.me.0 c.self.invariant.1)

pub load-place-requires : goal.load-place-requires
load-place-requires g c =
    let row = c.board.inside.row.shared in
    let some : 0 < row.table_id.words = omega (arith, c.board.invariant.0) in
    let mine = ap (λ p. p.tie) c.self.view_is ∙ c.requires.tie ∙ sym (ap (λ b. b.tie) c.board.view_is) in
    let s = c.split_seat-part.ensures in
    let j = c.join_seat.ensures in
    let reads : c.join_seat.new.seat.me.0.reads ≡ true = ap (λ m. m.0.reads) j.2 ∙ ap (λ m. m.0.reads) s.4 ∙ c.reader.invariant.2 in
    (j.0 ∙ mine, some, looks g.row.W g.row.S row.table_id.slots c.join_seat.new.seat.id c.join_seat.new.seat.me reads)

pub split_seat-requires : goal.split_seat-requires
split_seat-requires g c =
    let row = c.board.inside.row.shared in
    let some : 0 < row.table_id.words = omega (arith, c.board.invariant.0) in
    let mine = ap (λ p. p.tie) c.self.view_is ∙ c.requires.tie ∙ sym (ap (λ b. b.tie) c.board.view_is) in
    (c.find-words.ensures.tie ∙ c.load-place.ensures.0 ∙ c.join_seat.ensures.0 ∙ mine, some, parts g.row.W g.row.S c.find-words.new.pin.id c.find-words.new.pin.me.0)

pub returns-clause-before : goal.returns-clause-before
returns-clause-before g c =
    let s = c.split_seat-part.ensures in
    let j = c.join_seat.ensures in
    let l = c.load-place.ensures.2 in
    let before : List (List ℕ) = c.reader.inside.pin.me.0.seen in
    let all : List (List ℕ) = c.load-place.new.seat.me.0.seen in
    let seen : c.join_seat.new.seat.me.0.seen ≡ before = ap (λ m. m.0.seen) j.2 ∙ ap (λ m. m.0.seen) s.4 in
    let stores : c.join_seat.new.seat.me.0.stores ≡ true = ap (λ m. m.0.stores) j.2 ∙ c.self.invariant.1 in
    let entries : all ≡ c.args.self.now.published = l.5 stores ∙ ap (λ m. m.0.entries) j.2 ∙ ap (λ p. p.published) c.self.view_is in
    let pre : IsPrefix before c.args.self.now.published = subst (λ (p : List (List ℕ) × List (List ℕ)). IsPrefix p.0 p.1) (λ i. (seen i, entries i)) l.1 in
    subst (λ l. IsPrefix l c.args.self.now.published) (ap (λ r. r.seen) c.reader.view_is) (prefix_take (c.reader.inside.last.place + 1) before c.args.self.now.published pre)
