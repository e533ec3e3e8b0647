use Rattle.std.proofs.Common.{◌+◌, ◌-◌, ◌^◌, ◌≡◌, arith}
use Rattle.zp_model.specs.Frames.{with_area}
use Rattle.zp_model.specs.RunLaws.{IsFitting}
use Rattle.zp_model.specs.Take.{leave}
use Rattle.zp_area.specs.Blocks.{Blocks}
use Rattle.zp_buddy.specs.Choices.{area_in, frames_in}
use Rattle.zp_buddy.specs.FallingRuns.{IsGivingAs}
use Rattle.zp_buddy.proofs.GivingAs.{behind_goes, behind_tails, giving_then, last_before}
use Rattle.zp_buddy.proofs.falling.take_behind.Goals.{After-last_order-order-in-Some}
use Rattle.zp_buddy.proofs.falling.take_behind.Goals as goal

pub buddies-preserved : goal.buddies-preserved
buddies-preserved c =
    let m = c.args.area.now.largest in
    let a : Blocks = c.args.area.now in
    let b : Blocks = c.buddies.area in
    let n : Blocks = c.take_block.new.area in
    let d = c.buddies.end in
    let k = c.buddies.order in
    let i = c.buddies.invariant in
    let e : b.largest ≡ m = i.same.largest in
    let some = c.in-Some.ensures in
    let took = rw e at c.take_block.ensures in
    let after : frames_in m n ≡ with_area (frames_in m b) (leave (area_in m b) d k) = rw c.at.ensures at took.after in
    let step : IsGivingAs m b n c.args.from d (d + 2 ^ k) =
    behind_goes m b n c.args.from d k i.same.sound i.some i.same.clear i.last took.largest took.sound took.pages took.kinds (rw e at some.order) some.double some.free after in
    let last : IsFitting m (d + 2 ^ k) (d + 2 ^ k - c.args.from) c.last_order-order-in-Some.result = rw (c.pages-end.ensures.pages, c.largest-largest.ensures) at c.last_order-order-in-Some.ensures in
    rw c.pages-end.ensures.pages (record {
      same = giving_then m a b n c.args.from c.args.end d (d + 2 ^ k) i.same step;
      tails = behind_tails m b n c.args.from d k i.same.sound i.some i.same.clear i.last took.largest took.sound took.pages took.kinds (rw e at some.order) some.double some.free after c.args.end i.up i.tails;
      last = last;
      before = omega (arith, i.before, last_before m c.args.from d k c.last_order-order-in-Some.result i.last (rw e at some.order) some.double last);
      some = omega (arith, i.some);
      up = omega (arith, i.up);
    })
