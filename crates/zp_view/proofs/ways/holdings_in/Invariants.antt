use Rattle.std.proofs.Common.{◌≡◌, ◌≤◌, take}
use Rattle.std.specs.List.{count_by}
use Rattle.zp_view.specs.Ways.{is_cached_by, is_out_to, is_posted_to}
use Rattle.zp_view.proofs.ways.holdings_in.Given as goal

abbrev pub invariant-pages : goal.invariant-pages
invariant-pages l = record {
  out_within : l.held.out ≤ l.state-index;
  cached_within : l.held.cached ≤ l.state-index;
  posted_within : l.held.posted ≤ l.state-index;
  out : l.held.out ≡ count_by (is_out_to l.worker) (take l.state-index l.row);
  cached : l.held.cached ≡ count_by (is_cached_by l.worker) (take l.state-index l.row);
  posted : l.held.posted ≡ count_by (is_posted_to l.worker) (take l.state-index l.row);
}
