use Rattle.std.proofs.Common.{◌≡◌, [], length, take}
use Rattle.std.specs.List.{flat_map, range_with_len}
use Rattle.zp_text.specs.Gathering.{IsGathered}
use Rattle.zp_office.specs.Offices.{workers_in}
use Rattle.zp_replay.specs.Output.{turn_text}
use Rattle.zp_replay.proofs.Replying.{AreCounted}
use Rattle.zp_replay.proofs.report.write_replies.Given as goal

-- the replies of the turns so far were gathered, each worker's turns among them are counted, and no call failed
abbrev pub invariant-loop-command : goal.invariant-loop-command
invariant-loop-command g l = record {
  places : length l.written ≡ 32;
  counted : AreCounted l.written (take l.command-index (workers_in l.commands));
  text : IsGathered (g.W.Writer.contents l.fn.writer) (g.W.Writer.contents l.writer) [] l.text (flat_map (turn_text l.office (workers_in l.commands)) (take l.command-index (range_with_len 0 (length (workers_in l.commands)))));
  calm : g.W.Writer.failures l.writer ≡ g.W.Writer.failures l.fn.writer;
}
