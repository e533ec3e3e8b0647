use Rattle.std.proofs.Common.{◌≡◌, ◌++◌, map, length}
use Rattle.zp_trace.specs.Lines as line
use Rattle.zp_trace.specs.Spelling.{text_of}
use Rattle.zp_trace.specs.Grammar.{IsBeginning}
use Rattle.zp_trace.proofs.parser.zone_lines.Given as goal

-- the text is that of the zones so far and the rest, and each may stand where it does
abbrev pub invariant-loop-zone : goal.invariant-loop-zone
invariant-loop-zone l = record {
  parts : l.text ≡ text_of (map line.Zone l.zones) ++ l.rest;
  allowed : IsBeginning (map line.Zone l.zones);
}

abbrev pub decreases-loop-zone : goal.decreases-loop-zone
decreases-loop-zone l = length l.rest
