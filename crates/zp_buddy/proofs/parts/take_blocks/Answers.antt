use Rattle.std.proofs.Common.{sym, subst, arith}
use Rattle.zp_model.specs.BlockSet.{Starts}
use Rattle.zp_area.specs.Blocks.{block_set}
use Rattle.zp_buddy.proofs.PartsTaken.{AreBehind, next_heads, taking_begins, taking_goes}
use Rattle.zp_buddy.proofs.parts.take_blocks.Goals.{Start}
use Rattle.zp_buddy.proofs.parts.take_blocks.Goals as goal

-- the pages are free, and the one before them is not
behind : (c : Start) → AreBehind c.args.area.now c.args.from c.args.end
behind c = record { some = c.requires.some; inside = c.requires.inside; full = c.requires.free; before = c.requires.before; sound = c.requires.sound }

pub heads-init : goal.heads-init
heads-init c = taking_begins c.args.area.now c.args.from c.args.end c.requires.up (behind (goal.at.heads-init c).Start)

pub unreachable-requires : goal.unreachable-requires
unreachable-requires c =
    let st = next_heads (behind (goal.at.unreachable-requires c).Start) c.heads.invariant (omega arith) in
    c.in_default.ensures.none st.0 (subst (λ i. Starts (block_set c.heads.area) i st.0) (sym c.at-head.ensures) st.1)

pub heads-preserved : goal.heads-preserved
heads-preserved c =
    taking_goes (behind (goal.at.heads-preserved c).Start) c.heads.invariant (omega arith) c.in-Some.order (rw c.at-head.ensures at c.in-Some.ensures.some) c.take_part.new.area c.min-taken.result
    (omega (arith, c.min-taken.ensures, c.pages.ensures.pages)) (rw c.at-head.ensures at c.take_part.ensures)
