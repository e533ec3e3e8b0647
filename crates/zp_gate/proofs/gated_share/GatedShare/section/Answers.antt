use Rattle.std.proofs.Common.{inl, rules, sym, ◌∙◌}
use Rattle.std.specs.Arc.{arc_value}
use Rattle.zp_gate.specs.Calls.{answer_of, reply_of, request_of}
use Rattle.zp_gate.specs.GatedRows.{lock_key}
use Rattle.zp_gate.specs.GatedZones.{IsBehind}
use Rattle.zp_gate.proofs.Sections.{denied, granted}
use Rattle.zp_gate.proofs.gated_share.GatedShare.section.Goals.{in-Ok, in-Err}
use Rattle.zp_gate.proofs.gated_share.GatedShare.section.Goals as goal

-- a section was made of what was found there
pub leave-requires : goal.leave-requires
leave-requires c = (
  search rules,
  (
    c.slot_mut-zone.result.now,
    c.section-answer.new.self,
    search rules,
    search rules,
    search rules,
    inl (request_of c.args.call, answer_of c.args.call c.section-answer.result, c.self.inside.share, c.section-answer.new.share, c.section-answer.ensures),
  ),
)

pub returns : goal.returns
returns c =
    let key = lock_key (arc_value c.self.inside.lock) in
    let behind : IsBehind key c.slot_mut-zone.result.now = search rules in
    let r = request_of c.args.call in
    let worker = c.lacks_worker.ensures.no c.if-lacks_worker.false in
    let lends = sym c.lends_for.ensures ∙ c.if-not-lends_for.false in
    elim c.match-answer.branch [
      | in-Ok w ↦ granted r (reply_of c.args.call) key c.slot_mut-zone.result.now c.section-answer.new.self c.self.inside.share c.section-answer.new.share behind w.in-Ok.given _ c.args.self.now c.self.view_is w.result-is w.in-Ok.ensures worker lends
      | in-Err w ↦ denied r (reply_of c.args.call) key c.slot_mut-zone.result.now c.section-answer.new.self c.self.inside.share c.section-answer.new.share behind w.in-Err.refused _ c.args.self.now c.self.view_is w.result-is w.in-Err.ensures worker lends
    ]
