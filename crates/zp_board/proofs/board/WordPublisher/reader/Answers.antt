use Rattle.std.proofs.Common.{ap, sym, ◌∙◌, arith}
use Rattle.zp_board.proofs.Steps.{comes}
use Rattle.zp_board.proofs.board.WordPublisher.reader.Goals as goal

pub split_seat-pin-requires : goal.split_seat-pin-requires
split_seat-pin-requires g c = (
  ap (λ p. p.tie) c.self.view_is ∙ c.requires.tie ∙ sym (ap (λ b. b.tie) c.board.view_is),
  omega (arith, c.board.invariant.1),
  comes g.row.W c.board.inside.row.shared.key c.self.inside.pin.id c.self.inside.pin.me.0 c.self.invariant.1,
)
