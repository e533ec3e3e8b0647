use Rattle.std.proofs.Common.{arith, subst, sym, length, ◌≤◌}
use Rattle.zp_counts.specs.CountBoards.{ArePackable}
use Rattle.zp_model.specs.declared.constants.TheConstants.{NARROW_PAGES}
use Rattle.zp_counts.proofs.FewBlocks.{few_blocks}
use Rattle.zp_shared.proofs.opened.turning_board.Goals as goal

pub new_turning_board-requires : goal.new_turning_board-requires
new_turning_board-requires c =
    let area = c.args.zone.now.plain.area in
    let few : length area.free ≤ NARROW_PAGES = omega (arith, c.pages.ensures.pages) in
    record { packable = subst ArePackable (sym c.counts-counts.ensures.counts) (few_blocks area.largest area.free few) }
