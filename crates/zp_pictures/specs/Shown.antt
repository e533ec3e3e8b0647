-- What was shown of a text: a picture of the trace that it writes, or the number of its bad line.
use Rattle.std.specs.Prelude.{ℕ, ◌⊎◌, List, [], ◌∷◌, codes, Option}
use Rattle.std.specs.Fmt.{decimal}
use Rattle.std.specs.Io.KnownBytes.{Keeps}
use Rattle.std.specs.List.{concat}
use Rattle.zp_trace.specs.declared.trace.Trace.{Trace}
use Rattle.zp_trace.specs.Grammar.{IsBadLine, IsTraceText}
use Rattle.zp_streams.specs.Streams.{IsBegun, IsWritten}
use Rattle.zp_pictures.specs.declared.fault.PictureFault.{PictureFault}
use Rattle.zp_pictures.specs.declared.fault.PictureFault.TheVariants.{Memory, Write}
use Rattle.zp_pictures.specs.declared.input.Shown.{Shown}
use Rattle.zp_pictures.specs.declared.input.Shown.TheVariants.{Picture, BadLine}

-- what is written of a bad line, as a replay writes it
abbrev pub bad_line : ℕ → List ℕ
bad_line n = concat (codes "bad line " ∷ decimal n ∷ codes "\n" ∷ [])

-- the text has this bad line, of which was told and of nothing else
abbrev pub IsBadLineTold : List ℕ → Option (List ℕ) → Option (List ℕ) → ℕ → Type 0
IsBadLineTold text old new n = IsBadLine text n × IsWritten old new (bad_line n)

-- the text is a trace, or was told to be none
abbrev pub IsShown : List ℕ → Option (List ℕ) → Option (List ℕ) → Shown → Type 0
IsShown text old new Picture = (t : Trace) × IsTraceText text t
IsShown text old new (BadLine n) = IsBadLineTold text old new n

-- the text is a trace, or it has this bad line, and nothing was written
abbrev pub IsDrawn : List ℕ → Option (List ℕ) → Option (List ℕ) → Shown → Type 0
IsDrawn text old new Picture = (t : Trace) × IsTraceText text t
IsDrawn text old new (BadLine n) = IsBadLine text n × Keeps old new

-- the text is a trace, of which this picture was written, or was told to be none; a text writes one trace at most (a_text_writes_one_trace, of zp_trace)
abbrev pub IsShownAs : (Trace → List ℕ) → List ℕ → Option (List ℕ) → Option (List ℕ) → Shown → Type 0
IsShownAs picture text old new Picture = (t : Trace) × IsTraceText text t × IsWritten old new (picture t)
IsShownAs picture text old new (BadLine n) = IsBadLineTold text old new n

-- where the writer failed, a beginning of what was to be shown was written; and nothing, where there was no memory
abbrev pub IsCutShort : (Trace → List ℕ) → List ℕ → Option (List ℕ) → Option (List ℕ) → PictureFault → Type 0
IsCutShort picture text old new Memory = Keeps old new
IsCutShort picture text old new Write =
    ((t : Trace) × IsTraceText text t × IsBegun old new (picture t)) ⊎ ((n : ℕ) × IsBadLine text n × IsBegun old new (bad_line n))
