use Rattle.std.specs.Prelude.{IfSome}
use Rattle.std.proofs.Common.{arith}
use Rattle.std.proofs.lemmas.Nat.{pow_pos}
use Rattle.zp_share.specs.PageUses.{IsOneBlock}
use Rattle.zp_share.proofs.RunUses.{found_lent, none_found, one_found}
use Rattle.zp_share.proofs.page_uses.PageUses.block_order.Goals.{After-order_of_run}
use Rattle.zp_share.proofs.page_uses.PageUses.block_order.Goals as goal

pub returns-in_default-clause-none : goal.returns-in_default-clause-none
returns-in_default-clause-none c = λ k x. c.in_default.ensures.none x.from (omega (arith, x.size, pow_pos k)) x.inside

pub order_of_run-requires : goal.order_of_run-requires
order_of_run-requires c = let at = c.in-Some.ensures.some in omega (arith, at.2, at.3)

found : (c : After-order_of_run) → IfSome c.order_of_run.result (IsOneBlock c.args.self.now.base c.args.self.now.uses c.args.page c.args.pages)
found c =
    let at = c.in-Some.ensures.some in
    one_found c.args.self.now.base c.args.page c.args.pages c.in-Some.at c.args.self.now.uses c.order_of_run.result at.0 at.1 at.3 c.order_of_run.ensures.some

pub returns-clause-some : goal.returns-clause-some
returns-clause-some c = found c

pub returns-clause-lent : goal.returns-clause-lent
returns-clause-lent c = found_lent c.args.self.now.base c.args.page c.args.pages c.args.self.now.uses c.order_of_run.result c.order_of_run.ensures.below (found c)

pub returns-clause-none : goal.returns-clause-none
returns-clause-none c =
    none_found c.args.self.now.base c.args.page c.args.pages c.in-Some.at c.args.self.now.uses c.order_of_run.result c.in-Some.ensures.some.1 c.order_of_run.ensures.none
