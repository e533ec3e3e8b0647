use Rattle.std.proofs.Common.{[], Bool, cond, ap, sym}
use Rattle.std.specs.List.{flat_map}
use Rattle.zp_streams.proofs.Written.{begun-then, begun-longer, begun-same, on_err}
use Rattle.zp_replay.specs.Judging.{judged_text}
use Rattle.zp_replay.proofs.journals.write_ending.Goals as goal

pub returns-in_err-write_verdicts-clause-err : goal.returns-in_err-write_verdicts-clause-err
returns-in_err-write_verdicts-clause-err g c = on_err c.from_residual.result (begun-longer _ _ _ _ c.in_err-write_verdicts.ensures.err)

pub returns-in_err-write_entries-clause-err : goal.returns-in_err-write_entries-clause-err
returns-in_err-write_entries-clause-err g c =
    let asked = ap (λ (b : Bool). cond b (flat_map judged_text c.args.journals.now) []) (sym c.if-entries.true) in
    on_err c.from_residual-in_err-write_entries.result
    (begun-then _ _ _ _ _ c.in_ok-write_verdicts.ensures.ok (begun-same _ _ _ _ asked c.in_err-write_entries.ensures.err))
