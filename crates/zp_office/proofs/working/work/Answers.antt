use Rattle.std.proofs.Common.{◌≡◌, ◌<◌, ◌∙◌, arith, get_or, length, subst, sym, ap}
use Rattle.std.proofs.lemmas.Grind.{common_steps}
use Rattle.zp_share.proofs.Covering.{covers_then}
use Rattle.zp_share.proofs.DrainingAll.{same_share}
use Rattle.zp_office.specs.declared.command.Command.TheVariants.{Info}
use Rattle.zp_office.specs.Desks.{IsAnswerTo, IsDeskLeft, after_command, desk_world, next_of}
use Rattle.zp_office.proofs.Scripts.{after_more, answers_more, goes_on, next_at}
use Rattle.zp_office.proofs.working.work.Goals as goal

pub loop-at-preserved : goal.loop-at-preserved
loop-at-preserved g c =
    let x = c.loop-at.invariant in
    let y = c.work_next.ensures in
    let a = y.answered in
    let old = c.args.desk.now in
    let script = old.script in
    let command = next_of c.loop-at.desk in
    let lt : c.loop-at.at < length script = omega (arith, c.loop-at-test.true, ap length c.script-at-end.ensures.same) in
    let is : command ≡ get_or script c.loop-at.at Info = next_at c.loop-at.desk script c.loop-at.at x.script x.count in
    record {
      keys = y.keys ∙ x.keys;
      fits = y.fits;
      same = same_share old.share c.loop-at.desk.share c.work_next.new.desk.share x.same a.same;
      ties = a.ties ∙ x.ties;
      script = a.script ∙ x.script;
      count = grind (arith, common_steps);
      answers =
          answers_more (IsAnswerTo (length old.share.zones)) script c.loop-at.at c.loop-at.desk.replies c.work_next.new.desk.replies command Info a.answer lt is a.replies x.answers
          (subst (λ n. IsAnswerTo n command a.answer) x.same.places a.answers);
      read = covers_then (g.Z.Zones.covers c.args.zones.now) (g.Z.Zones.covers c.loop-at.zones) (g.Z.Zones.covers c.work_next.new.zones) old.share c.loop-at.desk.share c.work_next.new.desk.share x.read y.read;
      told = λ rows e.
          subst (λ w. IsDeskLeft w (g.Z.Zones.told c.work_next.new.zones) c.work_next.new.desk) (sym (after_more (desk_world rows old) script c.loop-at.at command Info lt is))
          (goes_on (λ w. after_command w command) _ _ _ c.loop-at.desk c.work_next.new.desk (x.told rows e) y.told);
    }
