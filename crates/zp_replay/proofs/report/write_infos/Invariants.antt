use Rattle.std.proofs.Common.{◌≡◌, [], map, take}
use Rattle.std.specs.List.{flat_map}
use Rattle.zp_text.specs.Gathering.{IsGathered}
use Rattle.zp_share.specs.Shares.{named_zone}
use Rattle.zp_replay.specs.Replies.{info_of}
use Rattle.zp_replay.proofs.report.write_infos.Given as goal

-- the lines of the zones so far were gathered, and no call failed
abbrev pub invariant-loop-zone : goal.invariant-loop-zone
invariant-loop-zone g l = record {
  gathered : IsGathered (g.W.Writer.contents l.fn.writer) (g.W.Writer.contents l.writer) [] l.text (flat_map info_of (take l.zone-index (map named_zone l.zones)));
  calm : g.W.Writer.failures l.writer ≡ g.W.Writer.failures l.fn.writer;
}
