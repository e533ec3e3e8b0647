use Rattle.std.proofs.Common.{◌<◌, length, ap, sym, ◌∙◌, arith}
use Rattle.zp_ring.proofs.Steps.{comes}
use Rattle.zp_ring.proofs.ring.RingPublisher.reader.Goals as goal

pub split_seat-pin-requires : goal.split_seat-pin-requires
split_seat-pin-requires g c =
    let some : 0 < c.board.inside.row.shared.table_id.words = omega (arith, c.board.invariant.0) in
    let any : 0 < length c.self.inside.pin.me.0.entries = omega (arith, c.self.invariant.4) in (
      ap (λ p. p.tie) c.self.view_is ∙ ap (λ p. p.tie) c.newest-last.ensures.same ∙ c.requires ∙ sym (ap (λ b. b.tie) c.board.view_is),
      some,
      comes g.row.W g.row.S c.self.inside.pin.id c.self.inside.pin.me.0 c.self.invariant.1 any,
    )
