use Rattle.std.proofs.Common.{◌≡◌, length}
use Rattle.zp_model.specs.Rows.{after}
use Rattle.zp_plain.proofs.page_row.PageRow.after.Given as goal

-- the page stands in what is left, if it stands on the list
abbrev pub invariant-pages : goal.invariant-pages
invariant-pages l = after l.page l.left ≡ after l.page l.self

abbrev pub decreases-pages : goal.decreases-pages
decreases-pages l = length l.left
