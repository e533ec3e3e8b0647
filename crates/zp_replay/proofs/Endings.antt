-- What a replay has read and written: the parts that its records are of.
use Rattle.std.proofs.Common.{ℕ, ◌≡◌, ◌∙◌, Bool, List, Option, take, inl, arith, subst}
use Rattle.std.proofs.lemmas.List.{length-take}
use Rattle.zp_trace.specs.declared.trace.Trace.{Trace}
use Rattle.zp_trace.specs.Grammar.{IsTraceText, IsBadLine}
use Rattle.zp_streams.specs.Streams.{IsWritten, IsBegun}
use Rattle.zp_replay.specs.Inputs.{IsRead}
use Rattle.zp_replay.specs.Output.{bad_line, output}
use Rattle.zp_replay.specs.declared.traces.Input.{Input}
use Rattle.zp_replay.specs.Replaying.{IsBadLineCut, IsInputOf, IsParsed, IsRefusedAt, IsTraceRead, IsUnanswered}
use Rattle.zp_replay.specs.Serving.{IsCutShort, IsReplayed, IsReportCut, IsReported, IsTraceReported, IsTraceReportBegun}
use Rattle.zp_replay.specs.declared.input.TheConstants.{INPUT_LIMIT}
use Rattle.zp_replay.proofs.Limits.{good-input, bad-input}

pub trace-read : (had left : Option (List ℕ)) (text : List ℕ) (t : Trace) → IsRead had left text → IsTraceText text t → IsTraceRead had left t
trace-read had left text t read is = record { text = text; input = good-input had left text t read is; grammar = is }

pub refused : (had left x y : Option (List ℕ)) (text : List ℕ) (n : ℕ) → IsRead had left text → IsBadLine text n → IsWritten x y (bad_line n) → IsRefusedAt had left x y n
refused had left x y text n read is written =
    let whole = bad-input had left text n read is in
    record { text = whole.text; input = whole.input; grammar = whole.grammar; written = written }

pub bad-cut : (had left x y : Option (List ℕ)) (text : List ℕ) (n : ℕ) → IsRead had left text → IsBadLine text n → IsBegun x y (bad_line n) → IsBadLineCut had left x y
bad-cut had left x y text n read is begun =
    let whole = bad-input had left text n read is in
    record { text = whole.text; input = whole.input; number = n; grammar = whole.grammar; begun = begun }

-- an input that is a trace was read as one, and nothing was written
as_trace : (had left x y : Option (List ℕ)) (i : Input) (t : Trace) → i ≡ Input.Trace t → IsInputOf had left x y i → IsTraceRead had left t × IsParsed t × (y ≡ x)
as_trace had left x y i t e is = subst (λ j. IsInputOf had left x y j) e is

-- what was read and written where a trace was read, and then so much was written of it
pub replayed : (had left x y z : Option (List ℕ)) (i : Input) (t : Trace) → i ≡ Input.Trace t → IsInputOf had left x y i → IsWritten y z (output t) → IsReplayed had left x z
replayed had left x y z i t e is written =
    let read = as_trace had left x y i t e is in
    record { trace = t; read = read.0; written = subst (λ w. IsWritten w z (output t)) read.2 written }

pub output_cut : (had left x y z : Option (List ℕ)) (i : Input) (t : Trace) → i ≡ Input.Trace t → IsInputOf had left x y i → IsBegun y z (output t) → IsCutShort had left x z
output_cut had left x y z i t e is begun =
    let read = as_trace had left x y i t e is in
    inl (t, read.0, subst (λ w. IsBegun w z (output t)) read.2 begun)

pub reported : (entries : Bool) (had left x y z : Option (List ℕ)) (i : Input) (t : Trace) → i ≡ Input.Trace t → IsInputOf had left x y i → IsTraceReported entries t y z →
    IsReported entries had left x z
reported entries had left x y z i t e is all =
    let read = as_trace had left x y i t e is in
    record { trace = t; read = read.0; report = subst (λ w. IsTraceReported entries t w z) read.2 all }

pub report_cut : (entries : Bool) (had left x y z : Option (List ℕ)) (i : Input) (t : Trace) → i ≡ Input.Trace t → IsInputOf had left x y i → IsTraceReportBegun entries t y z →
    IsReportCut entries had left x z
report_cut entries had left x y z i t e is begun =
    let read = as_trace had left x y i t e is in
    inl (t, read.0, subst (λ w. IsTraceReportBegun entries t w z) read.2 begun)

-- and where nothing was written of it
silent : (had left x y : Option (List ℕ)) (t : Trace) → IsTraceRead had left t → y ≡ x → IsUnanswered had left x y
silent had left x y t read same =
    record { read = record { text = take INPUT_LIMIT read.text; within = omega (arith, length-take INPUT_LIMIT read.text); front = read.input.read }; silent = same }

pub unanswered : (had left x y z : Option (List ℕ)) (i : Input) (t : Trace) → i ≡ Input.Trace t → IsInputOf had left x y i → z ≡ y → IsUnanswered had left x z
unanswered had left x y z i t e is same =
    let read = as_trace had left x y i t e is in
    silent had left x z t read.0 (same ∙ read.2)
