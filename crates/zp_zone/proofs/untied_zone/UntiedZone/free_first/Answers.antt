use Rattle.std.proofs.Common.{◌+◌, ◌-◌, ◌^◌, ◌≡◌, ◌≤◌, ap, arith}
use Rattle.std.proofs.lemmas.Nat.{pow_pos}
use Rattle.zp_model.specs.Zone.{pages_of}
use Rattle.zp_model.proofs.Pages.{in_run-from}
use Rattle.zp_laws.proofs.Around.{around-from}
use Rattle.zp_laws.proofs.Held.{held-to}
use Rattle.zp_laws.proofs.RunSteps.{lent-to, lent_inside}
use Rattle.zp_zone.proofs.untied_zone.UntiedZone.free_first.Goals.{After-pages-pages}
use Rattle.zp_zone.proofs.untied_zone.UntiedZone.free_first.Goals as goal

-- the run lies in the zone
inside : (c : After-pages-pages) → c.args.at + c.args.pages ≤ pages_of c.args.self.now.plain
inside c =
    lent_inside c.args.self.now.plain c.args.worker c.args.at c.args.pages c.lawful.ensures (lent-to c.args.self.now.plain c.args.worker c.args.at c.args.pages (omega (arith, c.requires.some)) c.requires.lent)

pub headed_order-requires : goal.headed_order-requires
headed_order-requires c = omega (arith, inside (goal.at.headed_order-requires c).After-pages-pages, c.requires.some)

pub returns-then-count-pages-clause-after : goal.returns-then-count-pages-clause-after
returns-then-count-pages-clause-after c = rw c.pages-count.ensures.pages c.free_whole.ensures

pub returns-then-count-pages-clause-some : goal.returns-then-count-pages-clause-some
returns-then-count-pages-clause-some c = omega (arith, c.pages-count.ensures.pages, pow_pos c.in-Some.order)

-- the block ends where its pages do
pub returns-then-count-pages-clause-ends : goal.returns-then-count-pages-clause-ends
returns-then-count-pages-clause-ends c = λ less.
    let y = held-to c.args.self.now.plain c.args.worker c.args.at c.in-Some.order c.in-Some.ensures.some in
    let size : 2 ^ y.holding.order ≡ 2 ^ c.in-Some.order = ap (λ k. 2 ^ k) y.order in
    let count = c.pages-count.ensures.pages in (
      (c.args.at, y.holding),
      around-from c.args.self.now.plain c.lawful.ensures c.args.worker (c.args.at + c.pages-count.result - 1) (c.args.at, y.holding) (record {
        at = y.at;
        worker = y.worker;
        page = in_run-from c.args.at y.holding.order (c.args.at + c.pages-count.result - 1) (omega (arith, count, pow_pos c.in-Some.order)) (omega (arith, count, size, pow_pos c.in-Some.order));
      }),
      omega (arith, size, count),
    )
