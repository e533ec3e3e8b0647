use Rattle.std.proofs.Common.{◌≤◌, length, take}
use Rattle.std.specs.Io.KnownBytes.{Appends}
use Rattle.zp_pictures.proofs.output.write_text.Given as goal

-- what was written so far
abbrev pub invariant-pieces : goal.invariant-pieces
invariant-pieces g l = record {
  inside : l.at ≤ length l.text;
  written : Appends (g.W.Write.contents l.initial.writer) (g.W.Write.contents l.writer) (take l.at l.text);
}
