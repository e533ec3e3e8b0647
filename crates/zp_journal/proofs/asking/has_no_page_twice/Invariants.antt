use Rattle.std.proofs.Common.{◌≡◌, drop}
use Rattle.zp_model.specs.Run.{is_distinct}
use Rattle.zp_journal.proofs.asking.has_no_page_twice.Given as goal

-- none of the pages so far is there once more
abbrev pub invariant-loop-place : goal.invariant-loop-place
invariant-loop-place l = is_distinct l.pages ≡ is_distinct (drop l.place l.pages)
