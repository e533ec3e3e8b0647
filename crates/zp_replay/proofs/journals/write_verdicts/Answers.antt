use Rattle.std.proofs.Common.{◌<◌, ◌≤◌, length, refl, ap, ◌∙◌, arith}
use Rattle.std.specs.List.{flat_map}
use Rattle.std.proofs.lemmas.List.{take_all}
use Rattle.std.proofs.lemmas.Result.{on_err_weaker, on_ok_weaker}
use Rattle.zp_replay.specs.Judging.{judged_verdict}
use Rattle.zp_streams.proofs.Written.{begun-same, on_err, written-same}
use Rattle.zp_text.proofs.Gathered.{begun_items, gathered-same, gathered_begun, gathered_item, gathered_written, none_gathered}
use Rattle.zp_replay.proofs.journals.write_verdicts.Goals as goal

pub loop-journal-init : goal.loop-journal-init
loop-journal-init g c = record { gathered = none_gathered _ _ c.new-text.ensures; calm = refl }

pub returns-in_err-make_room-clause-err : goal.returns-in_err-make_room-clause-err
returns-in_err-make_room-clause-err g c = on_err c.from_residual.result (begun_items judged_verdict _ _ _ _ _ _ c.loop-journal.invariant.gathered c.in_err-make_room.ensures.err)

pub loop-journal-preserved : goal.loop-journal-preserved
loop-journal-preserved g c =
    let at : c.loop-journal.journal-index < length c.args.journals.now = omega arith in
    record {
      gathered = gathered_item judged_verdict _ _ _ _ _ _ _ _ _ at c.journal-item.is c.loop-journal.invariant.gathered c.in_ok-make_room.ensures.ok c.push_verdict.ensures;
      calm = c.in_ok-make_room.ensures.calm ∙ c.loop-journal.invariant.calm;
    }

pub returns-clause-ok : goal.returns-clause-ok
returns-clause-ok g c =
    let end : length c.args.journals.now ≤ c.loop-journal.journal-index = omega arith in
    let all = gathered-same _ _ _ _ _ (ap (λ js. flat_map judged_verdict js) (take_all c.loop-journal.journal-index c.args.journals.now end)) c.loop-journal.invariant.gathered in
    on_ok_weaker c.write_gathered.result (λ w. gathered_written _ _ _ _ _ all (written-same _ _ _ _ c.as_bytes.ensures w)) c.write_gathered.ensures.ok

pub returns-clause-err : goal.returns-clause-err
returns-clause-err g c =
    let end : length c.args.journals.now ≤ c.loop-journal.journal-index = omega arith in
    let all = gathered-same _ _ _ _ _ (ap (λ js. flat_map judged_verdict js) (take_all c.loop-journal.journal-index c.args.journals.now end)) c.loop-journal.invariant.gathered in
    on_err_weaker c.write_gathered.result (λ w. gathered_begun _ _ _ _ _ all (begun-same _ _ _ _ c.as_bytes.ensures w)) c.write_gathered.ensures.err
