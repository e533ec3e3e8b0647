use Rattle.std.proofs.Common.{◌≡◌, ◌<◌, ◌∙◌, ◌++◌, length, refl, ap, arith}
use Rattle.std.proofs.lemmas.List.{length-set}
use Rattle.std.proofs.lemmas.Result.{on_err_weaker, on_ok_weaker}
use Rattle.zp_office.specs.Offices.{workers_in}
use Rattle.zp_streams.proofs.Written.{written-same, begun-same, on_err}
use Rattle.zp_text.proofs.Gathered.{begun_items, gathered-same, gathered_begun, gathered_item, gathered_written, none_gathered}
use Rattle.zp_replay.specs.Output.{turn_text}
use Rattle.zp_replay.proofs.Outputs.{number_here}
use Rattle.zp_replay.proofs.Replying.{counted_more, none_counted, turn_is, turn-lt, turn_place, turns_end}
use Rattle.zp_replay.proofs.report.write_replies.Goals as goal

pub loop-command-init : goal.loop-command-init
loop-command-init g c =
    record {
      places = refl;
      counted = none_counted 32;
      text = none_gathered _ _ c.new-text.ensures;
      calm = refl;
    }

pub returns-in_err-make_room-clause-err : goal.returns-in_err-make_room-clause-err
returns-in_err-make_room-clause-err g c =
    on_err c.from_residual.result
    (begun_items (turn_text c.args.office.now (workers_in c.args.commands.now)) _ _ _ _ _ _ c.loop-command.invariant.text c.in_err-make_room.ensures.err)

pub loop-command-preserved : goal.loop-command-preserved
loop-command-preserved g c =
    let at : c.loop-command.command-index < length c.args.commands.now = omega arith in
    let i = c.loop-command.invariant in
    let same : c.from-worker.result ≡ c.command-item.result.worker = c.from-worker.ensures ∙ c.number.ensures.same in
    let there : c.from-worker.result < length c.loop-command.written = omega (arith, same, i.places, c.number.ensures.within, c.number.ensures.same) in
    record {
      places = length-set c.loop-command.written c.from-worker.result _ ∙ i.places;
      counted = counted_more c.loop-command.written c.args.commands.now c.loop-command.command-index c.from-worker.result _ at c.command-item.is i.counted same there;
      text = gathered_item (turn_text c.args.office.now (workers_in c.args.commands.now)) _ c.loop-command.command-index c.loop-command.command-index _ _ _ _ _ _ (turn_place c.args.commands.now _ at) (number_here _ _ (turn-lt c.args.commands.now _ at)) i.text
          c.in_ok-make_room.ensures.ok
          (c.push_reply_at.ensures ∙ ap (λ q. c.make_room.new.text ++ q) (turn_is c.args.office.now c.args.commands.now _ _ c.loop-command.written _ at c.command-item.is i.counted same there));
      calm = c.in_ok-make_room.ensures.calm ∙ i.calm;
    }

pub returns-clause-ok : goal.returns-clause-ok
returns-clause-ok g c =
    let all = gathered-same _ _ _ _ _ (turns_end c.args.office.now c.args.commands.now c.loop-command.command-index (omega arith)) c.loop-command.invariant.text in
    on_ok_weaker c.write_gathered.result (λ w. gathered_written _ _ _ _ _ all (written-same _ _ _ _ c.as_bytes.ensures w)) c.write_gathered.ensures.ok

pub returns-clause-err : goal.returns-clause-err
returns-clause-err g c =
    let all = gathered-same _ _ _ _ _ (turns_end c.args.office.now c.args.commands.now c.loop-command.command-index (omega arith)) c.loop-command.invariant.text in
    on_err_weaker c.write_gathered.result (λ w. gathered_begun _ _ _ _ _ all (begun-same _ _ _ _ c.as_bytes.ensures w)) c.write_gathered.ensures.err
