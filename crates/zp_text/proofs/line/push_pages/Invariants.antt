use Rattle.std.proofs.Common.{◌≡◌, ◌≤◌, ◌+◌, ◌*◌, ◌++◌, length, map, take}
use Rattle.std.specs.Fmt.{decimal}
use Rattle.zp_text.specs.JournalText.{spaced}
use Rattle.zp_text.proofs.line.push_pages.Given as goal

-- the pages so far were appended
abbrev pub invariant-loop-page : goal.invariant-loop-page
invariant-loop-page g l = record {
  bytes : l.line ≡ l.fn.line ++ spaced (map decimal (take l.page-index l.pages));
  len : length l.line ≤ length l.fn.line + 11 * l.page-index;
}
