use Rattle.std.proofs.Common.{◌≡◌, ◌≤◌, take}
use Rattle.std.specs.List.{count_by}
use Rattle.zp_view.specs.Ways.{is_used}
use Rattle.zp_view.proofs.ways.used_pages.Given as goal

abbrev pub invariant-pages : goal.invariant-pages
invariant-pages l = record { within : l.used ≤ l.state-index; counted : l.used ≡ count_by is_used (take l.state-index l.row) }
