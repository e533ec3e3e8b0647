use Rattle.std.proofs.Common.{◌∙◌, sym}
use Rattle.zp_model.specs.declared.state.State.TheVariants.{Tail, Out, Posted}
use Rattle.zp_zone.proofs.BlockSteps.{IsAsked}
use Rattle.zp_zone.proofs.PassedBlocks.{free_whole, heads_none, passed_free, passed_out, passed_posted}
use Rattle.zp_zone.proofs.untied_zone.UntiedZone.block_headed.Goals.{After-holding}
use Rattle.zp_zone.proofs.untied_zone.UntiedZone.block_headed.Goals as goal

asked : (c : After-holding) → IsAsked c.self.inside.buddy c.self.inside.base c.self.inside.min
asked c = record { framed = c.pages-pages.ensures.framed; lawful = c.self.invariant.lawful }

pub returns-in-Free-clause-passed : goal.returns-in-Free-clause-passed
returns-in-Free-clause-passed c =
    let now = (goal.at.returns-in-Free-clause-passed c).After-holding in
    rw (← c.self.view_is, c.pages.ensures.pages, c.is_isolate.ensures, c.type_of.ensures)
    (passed_free c.self.inside.buddy c.self.inside.base c.self.inside.min c.args.at (asked now) c.in-Free.order (sym c.holding.ensures ∙ c.in-Free.is))

pub returns-in-Out-clause-passed : goal.returns-in-Out-clause-passed
returns-in-Out-clause-passed c =
    let now = (goal.at.returns-in-Out-clause-passed c).After-holding in
    rw (← c.self.view_is, c.pages-in-Out.ensures.pages)
    (passed_out c.self.inside.buddy c.self.inside.base c.self.inside.min c.args.at (asked now) c.in-Out.order _ _ (sym c.holding.ensures ∙ c.in-Out.is))

pub returns-in-Posted-clause-passed : goal.returns-in-Posted-clause-passed
returns-in-Posted-clause-passed c =
    let now = (goal.at.returns-in-Posted-clause-passed c).After-holding in
    rw (← c.self.view_is, c.pages-in-Posted.ensures.pages)
    (passed_posted c.self.inside.buddy c.self.inside.base c.self.inside.min c.args.at (asked now) c.in-Posted.order _ _ c.self.invariant.aside (sym c.holding.ensures ∙ c.in-Posted.is))

-- a free block is as large as is noted of it
pub returns-in-Free-clause-whole : goal.returns-in-Free-clause-whole
returns-in-Free-clause-whole c =
    let now = (goal.at.returns-in-Free-clause-whole c).After-holding in
    rw (← c.self.view_is, c.pages.ensures.pages)
    (λ k e. free_whole c.self.inside.buddy c.self.inside.base c.self.inside.min c.args.at (asked now) c.in-Free.order k (sym c.holding.ensures ∙ c.in-Free.is) e)

-- and no other page heads one
pub returns-in-Out-clause-whole : goal.returns-in-Out-clause-whole
returns-in-Out-clause-whole c =
    let now = (goal.at.returns-in-Out-clause-whole c).After-holding in
    rw (← c.self.view_is)
    (λ k e. absurd (heads_none c.self.inside.buddy c.self.inside.base c.self.inside.min c.args.at (asked now) (Out c.in-Out.order _ _) (sym c.holding.ensures ∙ c.in-Out.is) (λ j q. cc) k e))

pub returns-in-Posted-clause-whole : goal.returns-in-Posted-clause-whole
returns-in-Posted-clause-whole c =
    let now = (goal.at.returns-in-Posted-clause-whole c).After-holding in
    rw (← c.self.view_is)
    (λ k e. absurd (heads_none c.self.inside.buddy c.self.inside.base c.self.inside.min c.args.at (asked now) (Posted c.in-Posted.order _ _) (sym c.holding.ensures ∙ c.in-Posted.is) (λ j q. cc) k e))

pub returns-in-Tail-clause-none : goal.returns-in-Tail-clause-none
returns-in-Tail-clause-none c =
    let now = (goal.at.returns-in-Tail-clause-none c).After-holding in
    rw (← c.self.view_is)
    (λ k e. heads_none c.self.inside.buddy c.self.inside.base c.self.inside.min c.args.at (asked now) Tail (sym c.holding.ensures ∙ c.in-Tail.is) (λ j q. cc) k e)
