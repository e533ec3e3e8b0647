use Rattle.std.proofs.Common.{refl, ◌∙◌, ap, map, [], ◌∷◌}
use Rattle.std.proofs.lemmas.List.{map-append}
use Rattle.zp_trace.specs.Lines as line
use Rattle.zp_trace.proofs.HeaderLines.{read_more}
use Rattle.zp_trace.proofs.parser.zone_lines.Goals as goal

pub loop-zone-preserved : goal.loop-zone-preserved
loop-zone-preserved c =
    let zs = c.loop-zone.zones in
    let z = c.in-Some.zone in
    let more = ap (map line.Zone) c.in_ok-push.ensures.ok ∙ map-append line.Zone zs (z ∷ []) in
    let read = read_more _ _ (line.Zone z) _ _ _ more c.loop-zone.invariant.parts c.loop-zone.invariant.allowed c.in-Some.ensures.some.1 (zs, refl, rw c.as_slice.ensures.same at c.in-Some.ensures.some.0) in
    record { parts = read.0; allowed = read.1 }
