use Rattle.std.proofs.Common.{sym, ◌∙◌, ap, arith}
use Rattle.zp_area.specs.Blocks.{removed}
use Rattle.zp_area.specs.Chains.{pages_split_off}
use Rattle.zp_area.proofs.SplitPages.{rest_whole}
use Rattle.zp_area.proofs.area.FreeArea.take_first_pages.Goals as goal

-- all pages of the block were wanted
pub returns-clause-some : goal.returns-clause-some
returns-clause-some c =
    let x = c.in_ok-head.ensures in
    let a = c.args.self.now in (
      c.in_ok-head.found,
      record {
        first = rw c.pageblock_type.ensures at (rw c.zero.ensures at x.some);
        starts = x.starts.0;
        typed = rw c.pageblock_type.ensures at x.typed;
        count = omega (arith, c.pages-whole.ensures.pages, c.if-most-whole.false);
        after =
            c.take_whole.ensures
            ∙ sym (rest_whole c.in_ok-head.found c.args.self.now.largest (removed c.args.self.now.largest a c.in_ok-head.head c.in_ok-head.found) c.in_ok-head.head)
            ∙ ap (pages_split_off c.args.self.now.largest a c.in_ok-head.head c.in_ok-head.found) (sym c.pages-whole.ensures.pages);
      },
    )
