use Rattle.std.proofs.Common.{◌≡◌, [], ◌++◌, take}
use Rattle.std.specs.List.{flat_map}
use Rattle.std.specs.String.{string_bytes}
use Rattle.zp_buddyinfo.specs.Report.{zone_text}
use Rattle.zp_buddyinfo.proofs.report.report_text.Given as goal

-- the texts of the zones so far
abbrev pub invariant-loop-row : goal.invariant-loop-row
invariant-loop-row l = string_bytes l.text ≡ [] ++ flat_map (zone_text l.page l.style) (take l.row-index l.rows)
