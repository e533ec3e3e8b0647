use Rattle.std.proofs.Common.{◌-◌, ◌^◌, ◌≡◌, arith, max}
use Rattle.std.proofs.lemmas.Nat.{pow_pos}
use Rattle.zp_buddy.specs.Bare.{IsBareTo}
use Rattle.zp_zone.specs.Kept.{plain_of}
use Rattle.zp_zone.proofs.LowestRuns.{may_alloc_run-to, start_comes_free}
use Rattle.zp_zone.proofs.untied_zone.UntiedZone.next_start.Goals as goal

pub returns : goal.returns
returns c =
    let k = c.order_inside-order.result in
    let l = c.max-least.result in
    let none : IsBareTo c.self.inside.buddy.area 0 c.args.from c.bare_until-free.result = rw c.zero.ensures at c.bare_until-free.ensures.bare in
    let is : l ≡ max (max c.args.from c.bare_until-free.result) (c.bare_until-block.result - (2 ^ k - 1)) = omega (arith, c.max-least.ensures, c.max-first.ensures, c.saturating_sub.ensures, c.pages.ensures.pages, pow_pos k) in
    rw (← c.self.view_is)
    (start_comes_free (plain_of c.self.inside.buddy c.self.inside.base c.self.inside.min) c.args.pages c.args.align k c.args.from c.bare_until-block.result c.bare_until-free.result l c.first_multiple.result
    (omega (arith, c.order_inside-order.ensures.within, rw (← c.self.view_is) at c.largest.ensures)) c.order_inside-order.ensures.inside (may_alloc_run-to c.args.pages c.args.align c.requires.may).0 c.bare_until-block.ensures.bare none is c.first_multiple.ensures)
