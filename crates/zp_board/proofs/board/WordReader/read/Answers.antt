use Rattle.std.proofs.Common.{sym, ap, ◌∙◌, arith}
use Rattle.zp_board.proofs.Steps.{looks}
use Rattle.zp_board.proofs.board.WordReader.read.Goals as goal

pub load-place-requires : goal.load-place-requires
load-place-requires g c =
    let row = c.board.inside.row.shared in (
      ap (λ r. r.tie) c.self.view_is ∙ c.requires ∙ sym (ap (λ b. b.tie) c.board.view_is),
      omega (arith, c.board.invariant.1),
      looks g.row.W row.key row.table_id.slots c.self.inside.pin.id c.self.inside.pin.me c.self.invariant.2 c.self.invariant.3,
    )
