use Rattle.std.proofs.Common.{◌≡◌, true, arith, sym, ap, ◌∙◌}
use Rattle.zp_tie.proofs.Moves.{empties, joins, requests, parts, others_at}
use Rattle.zp_tie.proofs.keeper.Keeper.turn.Goals as goal

pub split_seat-part-requires : goal.split_seat-part-requires
split_seat-part-requires g c =
    let i = c.self.invariant in
    let t = c.token.invariant in
    (ap (λ x. x.tie) c.token.view_is ∙ c.requires.tie ∙ sym (ap (λ x. x.tie) c.self.view_is) ∙ sym i.0, omega (arith, i.1), empties g.P.Parted.part c.token.inside.pin.id c.token.inside.pin.me.0 t.1 t.2)

pub join_seat-requires : goal.join_seat-requires
join_seat-requires g c =
    let i = c.self.invariant in
    let t = c.token.invariant in
    let s = c.split_seat-part.ensures in (
      sym i.0,
      s.3 ∙ ap (λ x. x.tie) c.token.view_is ∙ c.requires.tie ∙ sym (ap (λ x. x.tie) c.self.view_is) ∙ sym i.0,
      ap (λ m. m.1) s.4,
      omega (arith, i.1),
      joins g.P.Parted.part g.P.Parted.start c.self.inside.pin.id c.self.inside.pin.me.0 c.split_seat-part.result.id c.split_seat-part.result.me.0 i.4 (ap (λ m. m.0.holds) s.4 ∙ t.1),
    )

pub load-requires : goal.load-requires
load-requires g c =
    let i = c.self.invariant in
    let t = c.token.invariant in
    let s = c.split_seat-part.ensures in
    let j = c.join_seat.ensures in
    let keeps : c.join_seat.new.seat.me.0.keeps ≡ true = ap (λ m. m.0.keeps) j.2 ∙ i.3 in
    let holds : c.join_seat.new.seat.me.0.holds ≡ true = ap (λ m. m.0.holds) j.2 ∙ ap (λ m. m.0.holds) s.4 ∙ t.1 in (
      j.0 ∙ sym i.0,
      omega (arith, i.1),
      requests g.P.Parted.part g.C.Change.to c.self.inside.row.shared.table_id.slots c.join_seat.new.seat.id c.join_seat.new.seat.me keeps holds
          (others_at g.P.Parted.part g.C.Change.to _ _ _ _ _ _ _ _
          (sym (ap (λ k. k.whole) c.self.view_is) ∙ sym (ap (λ m. m.0.whole) j.2))
          (sym (ap (λ k. k.worker) c.token.view_is) ∙ sym (ap (λ m. m.0.worker) s.4) ∙ sym (ap (λ m. m.0.worker) j.2))
          (sym (ap (λ k. k.dealt) c.self.view_is) ∙ sym (ap (λ m. m.0.dealt) j.2))
          (sym (ap (λ k. k.mine) c.token.view_is) ∙ sym (ap (λ m. m.0.mine) s.4) ∙ sym (ap (λ m. m.0.mine) j.2))
          (λ dealt same. c.requires.others (record { dealt = dealt; same = same }))),
    )

pub split_seat-requires : goal.split_seat-requires
split_seat-requires g c =
    let i = c.self.invariant in
    let t = c.token.invariant in
    let s = c.split_seat-part.ensures in
    let j = c.join_seat.ensures in
    let l = c.load.ensures in
    let keeps : c.load.new.seat.me.0.keeps ≡ true = ap (λ m. m.0.keeps) l.2.0 ∙ ap (λ m. m.0.keeps) j.2 ∙ i.3 in
    let holds : c.load.new.seat.me.0.holds ≡ true = ap (λ m. m.0.holds) l.2.0 ∙ ap (λ m. m.0.holds) j.2 ∙ ap (λ m. m.0.holds) s.4 ∙ t.1 in
    (l.0 ∙ j.0 ∙ sym i.0, omega (arith, i.1), parts g.P.Parted.part c.load.new.seat.id c.load.new.seat.me.0 keeps holds)
