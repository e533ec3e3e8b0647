use Rattle.std.specs.Prelude.{IfNone, IfSome}
use Rattle.std.proofs.Common.{ℕ, ◌≡◌, Option, None, Some}
use Rattle.zp_model.specs.declared.state.State.TheVariants.{Free}
use Rattle.zp_model.specs.BlockSet.{Starts}
use Rattle.zp_model.specs.Rows.{state_at}
use Rattle.zp_area.specs.Blocks.{block_set}
use Rattle.zp_area.proofs.NotedBlocks.{starts-from, starts-to}
use Rattle.zp_buddy.proofs.buddy.Buddy.order_headed.Goals as goal

pub returns-clause-some : goal.returns-clause-some
returns-clause-some c = rw (← c.self.view_is) (go c.order_headed.result c.order_headed.ensures.some)
  where
    go : (r : Option ℕ) → IfSome r (λ o. Starts (block_set c.self.inside.area) c.args.at o) → IfSome r (λ o. state_at c.self.inside.area.rows.states c.args.at ≡ Free o)
    go (Some o) x = starts-to c.self.inside.area.rows.states c.args.at o x
    go None x = x

pub returns-clause-none : goal.returns-clause-none
returns-clause-none c = rw (← c.self.view_is) (go c.order_headed.result c.order_headed.ensures.none)
  where
    go : (r : Option ℕ) → IfNone r ((k : ℕ) → Starts (block_set c.self.inside.area) c.args.at k → ⊥) → IfNone r ((k : ℕ) → state_at c.self.inside.area.rows.states c.args.at ≡ Free k → ⊥)
    go (Some o) x = x
    go None x = λ k free. x k (starts-from c.self.inside.area.rows.states c.args.at k free)
