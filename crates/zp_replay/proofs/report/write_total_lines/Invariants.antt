use Rattle.std.proofs.Common.{◌≡◌, [], length, take, map}
use Rattle.std.specs.List.{flat_map, range_with_len}
use Rattle.zp_text.specs.Gathering.{IsGathered}
use Rattle.zp_share.specs.Gathering.{gathered}
use Rattle.zp_share.specs.Shares.{named_zone, plain}
use Rattle.zp_share.specs.Crews.{crew_of}
use Rattle.zp_replay.specs.Output.{total_of}
use Rattle.zp_replay.proofs.report.write_total_lines.Given as goal

-- zones and shares are as they were and the totals are known; the lines of the zones so far were gathered, and no call failed
abbrev pub invariant-loop-number : goal.invariant-loop-number
invariant-loop-number g l = record {
  zones : l.zones ≡ l.fn.zones;
  shares : l.shares ≡ l.fn.shares;
  totals : l.totals.items ≡ gathered (map named_zone l.zones) (map plain l.shares);
  gathered : IsGathered (g.W.Writer.contents l.fn.writer) (g.W.Writer.contents l.writer) [] l.text (flat_map (total_of (crew_of l.fn.zones l.fn.shares)) (take l.number (range_with_len 0 (length (map named_zone l.fn.zones)))));
  calm : g.W.Writer.failures l.writer ≡ g.W.Writer.failures l.fn.writer;
}
