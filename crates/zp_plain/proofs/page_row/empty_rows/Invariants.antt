use Rattle.std.proofs.Common.{◌≡◌, [], replicate}
use Rattle.zp_plain.proofs.page_row.empty_rows.Given as goal

abbrev pub invariant-loop : goal.invariant-loop
invariant-loop l = l.rows.items ≡ replicate l.counter []
