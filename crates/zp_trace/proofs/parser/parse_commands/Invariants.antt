use Rattle.std.proofs.Common.{◌≡◌, ◌≤◌, ◌+◌, ◌++◌, length}
use Rattle.zp_trace.specs.declared.bounds.TheConstants.{MOST_LINES}
use Rattle.zp_trace.specs.Spelling.{text_of, header_of}
use Rattle.zp_trace.specs.Grammar.{IsBeginning}
use Rattle.zp_trace.proofs.HeaderLines.{lines_with}
use Rattle.zp_trace.proofs.parser.parse_commands.Given as goal

-- the text is that of the lines so far and the rest, and each line may stand where it does
abbrev pub invariant-loop-rest : goal.invariant-loop-rest
invariant-loop-rest l = record {
  parts : text_of (header_of l.header) ++ l.text ≡ text_of (lines_with l.header l.commands) ++ l.rest;
  allowed : IsBeginning (lines_with l.header l.commands);
  few : length (header_of l.header) + length l.commands ≤ MOST_LINES;
}

abbrev pub decreases-loop-rest : goal.decreases-loop-rest
decreases-loop-rest l = length l.rest
