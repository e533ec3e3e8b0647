use Rattle.std.proofs.Common.{◌<◌, ◌∙◌, length, refl, arith}
use Rattle.std.proofs.lemmas.Result.{on_err_weaker, on_ok_weaker}
use Rattle.zp_streams.proofs.Written.{begun-same, on_err, written-same}
use Rattle.zp_text.proofs.Gathered.{begun_items, gathered-same, gathered_begun, gathered_item, gathered_written, none_gathered}
use Rattle.zp_text.proofs.Numbered.{line_of, numbered, numbered_end, numbered_here, numbered_place}
use Rattle.zp_text.proofs.journal.write_journal.Goals as goal

pub loop-at-init : goal.loop-at-init
loop-at-init g c = record { gathered = none_gathered _ _ c.new-text.ensures; calm = refl }

pub returns-in_err-make_room-clause-err : goal.returns-in_err-make_room-clause-err
returns-in_err-make_room-clause-err g c =
    on_err c.from_residual.result
    (begun_items (line_of c.args.name.now) (numbered c.args.journal.now.entries) _ _ _ _ _ c.loop-at.invariant.gathered c.in_err-make_room.ensures.err)

pub loop-at-preserved : goal.loop-at-preserved
loop-at-preserved g c =
    let es = c.args.journal.now.entries in
    let at : c.loop-at.at < length es = omega (arith, c.loop-at-test.true, c.len-at-end.ensures.entries) in
    record {
      gathered = gathered_item (line_of c.args.name.now) (numbered es) _ _ _ _ _ _ _ _ (numbered_place es _ at) (numbered_here es _ _ _ _ at (omega arith) (omega arith) c.entry.ensures) c.loop-at.invariant.gathered
          c.in_ok-make_room.ensures.ok c.push_entry.ensures.bytes;
      calm = c.in_ok-make_room.ensures.calm ∙ c.loop-at.invariant.calm;
    }

pub returns-clause-ok : goal.returns-clause-ok
returns-clause-ok g c =
    let all = gathered-same _ _ _ _ _ (numbered_end c.args.name.now c.args.journal.now.entries c.loop-at.at (omega (arith, c.loop-at-test.false, c.len-at-end.ensures.entries))) c.loop-at.invariant.gathered in
    on_ok_weaker c.write_gathered.result (λ w. gathered_written _ _ _ _ _ all (written-same _ _ _ _ c.as_bytes.ensures w)) c.write_gathered.ensures.ok

pub returns-clause-err : goal.returns-clause-err
returns-clause-err g c =
    let all = gathered-same _ _ _ _ _ (numbered_end c.args.name.now c.args.journal.now.entries c.loop-at.at (omega (arith, c.loop-at-test.false, c.len-at-end.ensures.entries))) c.loop-at.invariant.gathered in
    on_err_weaker c.write_gathered.result (λ w. gathered_begun _ _ _ _ _ all (begun-same _ _ _ _ c.as_bytes.ensures w)) c.write_gathered.ensures.err
