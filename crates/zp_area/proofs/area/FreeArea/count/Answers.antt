use Rattle.std.proofs.Common.{◌≡◌, ◌+◌, ◌≤◌, arith, sym}
use Rattle.zp_model.specs.declared.constants.TheConstants.{MAX_PAGES}
use Rattle.zp_area.specs.Blocks.{Blocks, block_set, count_of}
use Rattle.zp_area.specs.KeptSets.{set_of}
use Rattle.zp_area.proofs.Keeping.{count-le}
use Rattle.zp_area.proofs.CountedLists.{count_above, counted_lists}
use Rattle.zp_area.proofs.area.FreeArea.count.Goals.{After-len-isolated}
use Rattle.zp_area.proofs.area.FreeArea.count.Goals as goal

counted : (c : After-len-isolated) → c.len-unmovable.result + c.len-reclaimable.result + c.len-movable.result + c.len-isolated.result ≡ count_of (block_set (set_of c.self.inside.blocks)) c.args.order
counted c =
    let a : Blocks = set_of c.self.inside.blocks in
    rw (c.len-unmovable.ensures, c.len-reclaimable.ensures, c.len-movable.ensures, c.len-isolated.ensures, c.list_of.ensures.number, c.list_of-2.ensures.number, c.list_of-3.ensures.number, c.list_of-4.ensures.number) (counted_lists c.self.inside.blocks.largest a c.args.order c.self.invariant.kept.one (omega arith))

fits : (c : After-len-isolated) → c.len-unmovable.result + c.len-reclaimable.result + c.len-movable.result + c.len-isolated.result ≤ MAX_PAGES
fits c =
    let a : Blocks = set_of c.self.inside.blocks in
    omega (arith, counted c, count-le c.self.inside.blocks.largest a c.args.order c.self.invariant.kept.one)

pub overflow_add-result : goal.overflow_add-result
overflow_add-result c = omega (arith, fits (goal.at.overflow_add-result c).After-len-isolated)

pub overflow_add-result-2 : goal.overflow_add-result-2
overflow_add-result-2 c = omega (arith, fits (goal.at.overflow_add-result-2 c).After-len-isolated)

pub overflow_add-result-3 : goal.overflow_add-result-3
overflow_add-result-3 c = omega (arith, fits (goal.at.overflow_add-result-3 c).After-len-isolated)

pub returns : goal.returns
returns c = rw (← c.self.view_is) (counted (goal.at.returns c).After-len-isolated)

pub returns-then-number : goal.returns-then-number
returns-then-number c =
    let a : Blocks = set_of c.self.inside.blocks in
    rw (← c.self.view_is) (sym (count_above c.self.inside.blocks.largest a c.args.order c.self.invariant.kept.one (omega arith)))
