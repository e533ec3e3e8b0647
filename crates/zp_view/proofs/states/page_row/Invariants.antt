use Rattle.std.proofs.Common.{◌≡◌, length}
use Rattle.std.specs.Option.{ForSome}
use Rattle.zp_view.specs.States.{AreStatesFrom, IsWhole}
use Rattle.zp_view.proofs.states.page_row.Given as goal

-- the states of the pages so far, and the block of the last one
abbrev pub invariant-pages : goal.invariant-pages
invariant-pages g l = record {
  pages : length l.row.items ≡ l.offset;
  before : ForSome l.before (IsWhole (g.L.Lenders.lent l.lenders l.place) l.zone.plain);
  states : AreStatesFrom (g.L.Lenders.lent l.lenders l.place) l.zone.plain l.first l.row.items;
}
