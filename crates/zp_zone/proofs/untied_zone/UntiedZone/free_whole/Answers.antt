use Rattle.std.proofs.Common.{◌^◌, ◌∙◌, ap, sym}
use Rattle.zp_model.specs.Runs.{run_freed}
use Rattle.zp_laws.proofs.Held.{IsHolding, held-to}
use Rattle.zp_zone.specs.Kept.{plain_of}
use Rattle.zp_zone.specs.NamedZone.{NamedZone}
use Rattle.zp_zone.proofs.BlockSteps.{IsAsked, given_kept, held_clear, named, plain-given}
use Rattle.zp_zone.proofs.RunsFreed.{whole_freed}
use Rattle.zp_zone.proofs.untied_zone.UntiedZone.free_whole.Goals.{After-pages-pages}
use Rattle.zp_zone.proofs.untied_zone.UntiedZone.free_whole.Goals as goal

held : (c : After-pages-pages) → IsHolding (plain_of c.self.inside.buddy c.self.inside.base c.self.inside.min) c.args.worker c.args.head c.args.order
held c = held-to (plain_of c.self.inside.buddy c.self.inside.base c.self.inside.min) c.args.worker c.args.head c.args.order (rw (← c.self.view_is) at c.requires)

asked : (c : After-pages-pages) → IsAsked c.self.inside.buddy c.self.inside.base c.self.inside.min
asked c = record { framed = c.pages-pages.ensures.framed; lawful = c.self.invariant.lawful }

pub give-requires : goal.give-requires
give-requires c =
    let before = (goal.at.give-requires c).After-pages-pages in
    held_clear c.self.inside.buddy c.self.inside.base c.self.inside.min c.args.worker c.args.head c.args.order (asked before) (held before)

pub invariant_of-self : goal.invariant_of-self
invariant_of-self c =
    let before = (goal.at.invariant_of-self c).After-pages-pages in
    rw c.give.ensures
    (given_kept c.self.inside.name c.self.inside.buddy c.self.inside.base c.self.inside.min c.args.worker c.args.head c.args.order c.self.invariant c.pages-pages.ensures.framed (held before))

pub returns : goal.returns
returns c =
    let before = (goal.at.returns c).After-pages-pages in
    ap (λ f. named c.self.inside.name (plain_of f c.self.inside.base c.self.inside.min)) c.give.ensures
    ∙ ap (named c.self.inside.name)
    (plain-given c.self.inside.buddy c.self.inside.base c.self.inside.min c.args.worker c.args.head c.args.order (asked before) (held before)
    ∙ sym (whole_freed (plain_of c.self.inside.buddy c.self.inside.base c.self.inside.min) c.args.worker c.args.head c.args.order c.self.invariant.lawful (held before)))
    ∙ ap (λ (v : NamedZone). let y : NamedZone = record v { plain = run_freed v.plain c.args.worker c.args.head (2 ^ c.args.order) } in y) c.self.view_is
