use Rattle.std.proofs.Common.{◌≡◌, ◌∙◌, ℕ, List, Err, ap, subst, refl}
use Rattle.zp_trace.specs.declared.trace.TraceFault.{TraceFault}
use Rattle.zp_trace.specs.declared.trace.TraceFault.TheVariants as bad
use Rattle.zp_trace.specs.Grammar.{IsTraceText, IsBadLine}
use Rattle.zp_streams.specs.Streams.{IsWritten}
use Rattle.zp_replay.specs.Output.{bad_line}
use Rattle.zp_streams.proofs.Written.{begun-same}
use Rattle.zp_replay.proofs.Endings.{trace-read, refused, bad-cut}
use Rattle.zp_replay.proofs.traces.read_trace.Goals as goal

pub returns-in-Ok-clause-input : goal.returns-in-Ok-clause-input
returns-in-Ok-clause-input g c =
    let is = subst (λ (text : List ℕ). IsTraceText text c.in-Ok.trace) c.deref.ensures.value c.in-Ok.ensures.good in
    (trace-read _ _ _ _ c.in_ok-text.ensures.ok is, record { lines = c.in-Ok.ensures.good.allowed; header = c.in-Ok.ensures.header; commands = c.in-Ok.ensures.commands }, refl)

pub returns-in_err-write_all-in-Err-BadLine-clause-begun : goal.returns-in_err-write_all-in-Err-BadLine-clause-begun
returns-in_err-write_all-in-Err-BadLine-clause-begun g c e =
    let faulty : c.in-Err-BadLine.field-0 ≡ bad.BadLine c.in-Err-BadLine.number = cc in
    let is = subst (λ (text : List ℕ). IsBadLine text c.in-Err-BadLine.number) c.deref.ensures.value (c.in-Err-BadLine.ensures.bad c.in-Err-BadLine.number (ap (λ (f : TraceFault). Err f) faulty)) in
    let line : c.as_bytes.result.now ≡ bad_line c.in-Err-BadLine.number = c.as_bytes.ensures ∙ c.bad_line.ensures ∙ ap (λ (m : ℕ). bad_line m) c.in-Err-BadLine.number-is in
    bad-cut _ _ _ _ _ c.in-Err-BadLine.number c.in_ok-text.ensures.ok is (begun-same _ _ _ _ line c.in_err-write_all-in-Err-BadLine.ensures.err)

pub returns-in-Err-BadLine-clause-input : goal.returns-in-Err-BadLine-clause-input
returns-in-Err-BadLine-clause-input g c =
    let faulty : c.in-Err-BadLine.field-0 ≡ bad.BadLine c.in-Err-BadLine.number = cc in
    let is = subst (λ (text : List ℕ). IsBadLine text c.in-Err-BadLine.number) c.deref.ensures.value (c.in-Err-BadLine.ensures.bad c.in-Err-BadLine.number (ap (λ (f : TraceFault). Err f) faulty)) in
    let line : c.as_bytes.result.now ≡ bad_line c.in-Err-BadLine.number = c.as_bytes.ensures ∙ c.bad_line.ensures ∙ ap (λ (m : ℕ). bad_line m) c.in-Err-BadLine.number-is in
    refused _ _ _ _ _ c.in-Err-BadLine.number c.in_ok-text.ensures.ok is (subst (λ (q : List ℕ). IsWritten (g.W.Writer.contents c.args.writer.now) (g.W.Writer.contents c.write_all.new.writer) q) line c.in_ok-write_all-in-Err-BadLine.ensures.ok)
