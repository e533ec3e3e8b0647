use Rattle.std.proofs.Common.{rules}
use Rattle.zp_open_gate.specs.Rows.{key_at}
use Rattle.zp_open_gate.specs.Visits.{IsVisit}
use Rattle.zp_open_gate.proofs.open_row.OpenRow.info_line.Goals as goal

-- the line is that of the room that was found
pub returns-clause-told : goal.returns-clause-told
returns-clause-told c =
    let y = c.slot_mut-room.result.now in
    let visit : IsVisit (key_at c.args.self.now c.args.zone) y y c.leave-visit.result = search rules in
    (y, visit, c.line_of-answer.ensures)
