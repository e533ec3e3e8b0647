use Rattle.std.proofs.Common.{rules, ◌≡◌}
use Rattle.std.proofs.lemmas.List.Elements.{All-get_or}
use Rattle.zp_counts.specs.CountBoards.{CountsSeen}
use Rattle.zp_shared.specs.Rows.{HaveReadZone, board_at}
use Rattle.zp_shared.proofs.Readers.{taken_read}
use Rattle.zp_shared.proofs.shared_zone.SharedZone.close.Goals as goal

pub read_all-requires-clause-readers : goal.read_all-requires-clause-readers
read_all-requires-clause-readers g c = λ k d lt. rw c.into_guarded-guarded.ensures.board (All-get_or (λ (r : CountsSeen). r.tie ≡ (board_at g.J.Naming.boards c.args.self).tie) c.args.readers.now k d lt c.requires)

pub returns-clause-taken : goal.returns-clause-taken
returns-clause-taken g c = λ e r.
    let read : HaveReadZone c.into_parts-zone.result.0 c.args.readers.now c.if-at_place.readers = search rules in
    taken_read c.into_parts-zone.result.0 c.args.readers.now c.if-at_place.readers r read
