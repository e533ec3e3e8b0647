use Rattle.std.proofs.Common.{◌≡◌, [], take}
use Rattle.std.specs.List.{flat_map}
use Rattle.zp_text.specs.Gathering.{IsGathered}
use Rattle.zp_text.proofs.Numbered.{line_of, numbered}
use Rattle.zp_text.proofs.journal.write_journal.Given as goal

-- the lines of the entries so far were gathered, and no call failed
abbrev pub invariant-loop-at : goal.invariant-loop-at
invariant-loop-at g l = record {
  gathered : IsGathered (g.W.Writer.contents l.fn.writer) (g.W.Writer.contents l.writer) [] l.text (flat_map (line_of l.name) (take l.at (numbered l.journal.entries)));
  calm : g.W.Writer.failures l.writer ≡ g.W.Writer.failures l.fn.writer;
}
