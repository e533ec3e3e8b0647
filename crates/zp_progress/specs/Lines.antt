-- What a line says.
use Rattle.std.specs.Prelude.{ℕ, List, [], ◌++◌, Option, None, Some, codes}
use Rattle.std.specs.Fmt.{decimal}
use Rattle.zp_progress.specs.declared.line.ProgressLine.{ProgressLine}

-- of how much, where that is known
abbrev pub of_text : Option ℕ → List ℕ
of_text None = []
of_text (Some of) = codes " of " ++ decimal of

-- as "zoneview film: 1200 of 4096 requests"
abbrev pub line_text : ProgressLine → List ℕ
line_text line = line.task.now ++ (codes ": " ++ (decimal line.done ++ (of_text line.of ++ (codes " " ++ line.unit.now))))
