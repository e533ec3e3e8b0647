use Rattle.std.proofs.Common.{ℕ, ◌+◌, ◌-◌, ◌^◌, ◌≡◌, ◌≤◌, ◌∙◌, ap, sym, arith, true, Some}
use Rattle.std.proofs.lemmas.Nat.{pow_pos}
use Rattle.zp_model.specs.declared.state.State.TheVariants.{Out}
use Rattle.zp_model.specs.Block.{head, in_run}
use Rattle.zp_model.specs.Rows.{state_at}
use Rattle.zp_model.specs.Runs.{block_around}
use Rattle.zp_model.specs.Zone.{Holding, pages_of}
use Rattle.zp_model.proofs.Heads.{head_le, lt_head}
use Rattle.zp_model.proofs.Pages.{in_run-from}
use Rattle.zp_laws.proofs.Held.{IsHolding, held-to}
use Rattle.zp_laws.proofs.KeepingRuns.{IsLent}
use Rattle.zp_laws.proofs.RunSteps.{lent-to, lent_inside}
use Rattle.zp_zone.specs.Kept.{plain_of}
use Rattle.zp_zone.proofs.RunsFreed.{first_lent, held_noted, not_noted}
use Rattle.zp_zone.proofs.untied_zone.UntiedZone.free_in_block.Goals.{After-pages-pages, In-Some, In-Out}
use Rattle.zp_zone.proofs.untied_zone.UntiedZone.free_in_block.Goals as goal

-- the run lies in the zone
inside : (c : After-pages-pages) → c.args.at + c.args.pages ≤ pages_of (plain_of c.self.inside.buddy c.self.inside.base c.self.inside.min)
inside c =
    let all : IsLent c.args.self.now.plain c.args.worker c.args.at c.args.pages = lent-to c.args.self.now.plain c.args.worker c.args.at c.args.pages (omega arith) c.requires.lent in
    rw (← c.self.view_is) at (lent_inside c.args.self.now.plain c.args.worker c.args.at c.args.pages c.lawful.ensures all)

pub lent_order-requires : goal.lent_order-requires
lent_order-requires c = rw (← c.self.view_is) (omega (arith, inside (goal.at.lent_order-requires c).After-pages-pages))

pub unreachable-requires : goal.unreachable-requires
unreachable-requires c = first_lent c.args.self.now.plain c.args.worker c.args.at c.args.pages c.requires.some c.requires.lent c.in_default.ensures.none

-- the block in which the page lies
held : (c : In-Some) → IsHolding (plain_of c.self.inside.buddy c.self.inside.base c.self.inside.min) c.args.worker (head c.args.at c.in-Some.order) c.in-Some.order
held c =
    held-to (plain_of c.self.inside.buddy c.self.inside.base c.self.inside.min) c.args.worker (head c.args.at c.in-Some.order) c.in-Some.order (rw (← c.self.view_is) at c.in-Some.ensures.some)

pub holding-requires : goal.holding-requires
holding-requires c =
    omega (arith, c.head-head.ensures, head_le c.args.at c.in-Some.order, inside (goal.at.holding-requires c).After-pages-pages, c.pages-pages.ensures.framed.pages)

pub unreachable-requires-in_default-holding : goal.unreachable-requires-in_default-holding
unreachable-requires-in_default-holding c =
    not_noted c.self.inside.buddy c.self.inside.base c.self.inside.min c.args.worker (head c.args.at c.in-Some.order) c.in-Some.order (held (goal.at.unreachable-requires-in_default-holding c).In-Some)
    (λ j v t e. c.in_default-holding.not-Out j t v (c.holding.ensures ∙ ap (state_at c.self.inside.buddy.states) c.head-head.ensures ∙ e))

-- what is noted of it
noted : (c : In-Out) → state_at c.self.inside.buddy.states (head c.args.at c.in-Some.order) ≡ Out c.in-Out.field-0 c.in-Out.kind c.in-Out.field-2
noted c = ap (state_at c.self.inside.buddy.states) (sym c.head-head.ensures) ∙ sym c.holding.ensures ∙ c.in-Out.is

around : (c : In-Out) (i : ℕ) → in_run (head c.args.at c.in-Some.order) c.in-Some.order i ≡ true →
    block_around c.args.self.now.plain c.args.worker i ≡ (let x : Holding = record { order = c.in-Some.order; kind = c.in-Out.kind; worker = c.args.worker } in Some (head c.args.at c.in-Some.order, x))
around c i run =
    rw (← c.self.view_is)
    (held_noted c.self.inside.buddy c.self.inside.base c.self.inside.min c.args.worker (head c.args.at c.in-Some.order) i c.in-Some.order _ _ _
    (record { framed = c.pages-pages.ensures.framed; lawful = c.self.invariant.lawful }) (held (goal.at.In-Out c).In-Some) run (noted c))

pub free_part_of-requires-clause-around : goal.free_part_of-requires-clause-around
free_part_of-requires-clause-around c =
    rw c.head-head.ensures
    (around (goal.at.free_part_of-requires-clause-around c).In-Out c.args.at (in_run-from (head c.args.at c.in-Some.order) c.in-Some.order c.args.at (head_le c.args.at c.in-Some.order) (lt_head c.args.at c.in-Some.order)))

pub free_part_of-requires-clause-some : goal.free_part_of-requires-clause-some
free_part_of-requires-clause-some c = omega (arith, lt_head c.args.at c.in-Some.order, c.head-head.ensures, c.pages.ensures.pages)

pub free_part_of-requires-clause-within : goal.free_part_of-requires-clause-within
free_part_of-requires-clause-within c = omega (arith, lt_head c.args.at c.in-Some.order, c.head-head.ensures, c.pages.ensures.pages)

pub returns-clause-some : goal.returns-clause-some
returns-clause-some c = omega (arith, lt_head c.args.at c.in-Some.order, c.head-head.ensures, c.pages.ensures.pages)

pub returns-clause-ends : goal.returns-clause-ends
returns-clause-ends c = λ less.
    let g : ℕ = head c.args.at c.in-Some.order in
    let x : Holding = record { order = c.in-Some.order; kind = c.in-Out.kind; worker = c.args.worker } in
    let ends : g + 2 ^ c.in-Some.order ≡ c.args.at + c.min-count.result = omega (arith, lt_head c.args.at c.in-Some.order, c.head-head.ensures, c.pages.ensures.pages) in (
      (g, x),
      around (goal.at.returns-clause-ends c).In-Out (c.args.at + c.min-count.result - 1)
          (in_run-from (head c.args.at c.in-Some.order) c.in-Some.order (c.args.at + c.min-count.result - 1) (omega (arith, head_le c.args.at c.in-Some.order, lt_head c.args.at c.in-Some.order, c.head-head.ensures, c.pages.ensures.pages)) (omega (arith, lt_head c.args.at c.in-Some.order, pow_pos c.in-Some.order))),
      ends,
    )
