use Rattle.std.proofs.Common.{◌≡◌, ◌≤◌, ◌+◌, ◌*◌, ◌++◌, length, map, take}
use Rattle.std.specs.List.{flat_map, zip}
use Rattle.zp_share.specs.Shares.{named_zone}
use Rattle.zp_replay.proofs.Infos.{line_of}
use Rattle.zp_replay.proofs.report.push_info_lines.Given as goal

-- the lines of the zones so far were appended
abbrev pub invariant-loop-at : goal.invariant-loop-at
invariant-loop-at g l = record {
  bytes : l.text ≡ l.fn.text ++ flat_map line_of (take l.at (zip (map named_zone l.zones) l.counts));
  len : length l.text ≤ length l.fn.text + 160 * l.at;
}
