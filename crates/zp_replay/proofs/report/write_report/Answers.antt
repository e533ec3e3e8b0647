use Rattle.std.proofs.Common.{◌∙◌, ap, map}
use Rattle.zp_share.specs.Shares.{named_zone}
use Rattle.std.specs.List.{flat_map}
use Rattle.std.proofs.lemmas.Result.{on_err_weaker, on_ok_weaker}
use Rattle.zp_streams.proofs.Written.{written-same, written-then, begun-then, begun-longer, begun-same, on_err}
use Rattle.zp_share.specs.Crews.{CrewState, crew_of}
use Rattle.zp_replay.specs.Output.{total_lines}
use Rattle.zp_replay.specs.Replies.{info_of}
use Rattle.zp_replay.proofs.report.write_report.Goals as goal

pub returns-in_err-write_replies-clause-err : goal.returns-in_err-write_replies-clause-err
returns-in_err-write_replies-clause-err g c = on_err c.from_residual.result (begun-longer _ _ _ _ c.in_err-write_replies.ensures.err)

pub returns-in_err-write_total_lines-clause-err : goal.returns-in_err-write_total_lines-clause-err
returns-in_err-write_total_lines-clause-err g c =
    let totals = ap (λ (x : CrewState). total_lines x) (ap (crew_of c.into_parts-zones.result.0) c.deref_mut.ensures.value ∙ c.into_parts-zones.ensures.crew) in
    on_err c.from_residual-in_err-write_total_lines.result
    (begun-then _ _ _ _ _ c.in_ok-write_replies.ensures.ok (begun-longer _ _ _ _ (begun-same _ _ _ _ totals c.in_err-write_total_lines.ensures.err)))

pub returns-clause-ok : goal.returns-clause-ok
returns-clause-ok g c =
    let totals = ap (λ (x : CrewState). total_lines x) (ap (crew_of c.into_parts-zones.result.0) c.deref_mut.ensures.value ∙ c.into_parts-zones.ensures.crew) in
    let infos = ap (λ zs. flat_map info_of zs) (ap (map named_zone) (c.as_slice.ensures ∙ c.in_ok-write_total_lines.ensures.same) ∙ ap (λ (x : CrewState). x.zones) c.into_parts-zones.ensures.crew) in
    on_ok_weaker c.write_infos.result
    (λ w. written-then _ _ _ _ _ c.in_ok-write_replies.ensures.ok (written-then _ _ _ _ _ (written-same _ _ _ _ totals c.in_ok-write_total_lines.ensures.ok) (written-same _ _ _ _ infos w)))
    c.write_infos.ensures.ok

pub returns-clause-err : goal.returns-clause-err
returns-clause-err g c =
    let totals = ap (λ (x : CrewState). total_lines x) (ap (crew_of c.into_parts-zones.result.0) c.deref_mut.ensures.value ∙ c.into_parts-zones.ensures.crew) in
    let infos = ap (λ zs. flat_map info_of zs) (ap (map named_zone) (c.as_slice.ensures ∙ c.in_ok-write_total_lines.ensures.same) ∙ ap (λ (x : CrewState). x.zones) c.into_parts-zones.ensures.crew) in
    on_err_weaker c.write_infos.result
    (λ b. begun-then _ _ _ _ _ c.in_ok-write_replies.ensures.ok (begun-then _ _ _ _ _ (written-same _ _ _ _ totals c.in_ok-write_total_lines.ensures.ok) (begun-same _ _ _ _ infos b)))
    c.write_infos.ensures.err
