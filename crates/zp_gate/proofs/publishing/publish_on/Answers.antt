use Rattle.std.proofs.Common.{sym, ap, ◌∙◌, cond, Bool}
use Rattle.zp_counts.specs.CountBoards.{CountsPublished}
use Rattle.zp_gate.specs.Boards.{with_counts}
use Rattle.zp_gate.proofs.Boards.{published_on}
use Rattle.zp_gate.proofs.publishing.publish_on.Goals as goal

pub returns : goal.returns
returns c =
    let p = c.args.publisher.now in let z = c.args.zone.now in
    let more : CountsPublished = record p { published = with_counts z p.published } in
    published_on c.args.board.now c.in-Some.board p c.publish.new.self z c.counts.result c.is_full.result c.in-Some.is c.requires c.is_full.ensures.full c.if-is_full.false c.publish.ensures.tie c.publish.ensures.published
    c.counts.ensures.counts
    ∙ sym (ap (λ (asked : Bool). cond asked more p) c.if-not-asked.false)
