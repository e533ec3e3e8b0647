use Rattle.std.proofs.Common.{◌≡◌, ◌++◌, take}
use Rattle.std.specs.List.{concat}
use Rattle.std.specs.String.{string_bytes}
use Rattle.zp_buddyinfo.specs.Rows.{spelled}
use Rattle.zp_buddyinfo.proofs.text.push_parts.Given as goal

abbrev pub invariant-loop-part : goal.invariant-loop-part
invariant-loop-part l = string_bytes l.text ≡ string_bytes l.initial.text ++ concat (take l.part-index (spelled l.parts))
