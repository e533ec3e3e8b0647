use Rattle.std.proofs.Common.{◌≡◌, arith, ◌∙◌, ap}
use Rattle.std.proofs.lemmas.Bool.{both_ways}
use Rattle.zp_area.specs.Blocks.{Blocks}
use Rattle.zp_area.proofs.Indexing.{indexed_anew, pageblock_kept}
use Rattle.zp_area.specs.OneSet.{IsKept}
use Rattle.zp_area.proofs.Claimable.{half_claimable, noted_claimable, whole_claimable}
use Rattle.zp_area.proofs.area.FreeArea.largest_claimable.Goals.{After-is_beside}
use Rattle.zp_area.proofs.area.FreeArea.largest_claimable.Goals as goal

whole : (c : After-is_beside) → c.order-whole.result ≡ c.args.self.now.largest
whole c = c.order-whole.ensures ∙ ap (λ (b : Blocks). b.largest) c.self.view_is

kept : (c : After-is_beside) → IsKept c.args.self.now.largest c.args.self.now c.self.inside.blocks.free_in.items
kept c = rw (← c.self.view_is) c.self.invariant.kept

pub returns-then-is_beside-clause-answer : goal.returns-then-is_beside-clause-answer
returns-then-is_beside-clause-answer c =
    let before = (goal.at.returns-then-is_beside-clause-answer c).After-is_beside in
    whole_claimable c.args.self.now.largest c.args.self.now _ (kept before) c.args.kind c.order-whole.result (whole before) (c.is_beside.ensures.0 c.if-is_beside.true)

pub returns-then-is_beside-2-clause-answer : goal.returns-then-is_beside-2-clause-answer
returns-then-is_beside-2-clause-answer c =
    let before = (goal.at.returns-then-is_beside-2-clause-answer c).After-is_beside in
    half_claimable c.args.self.now.largest c.args.self.now _ (kept before) c.args.kind c.order-whole.result c.at-half.result (whole before) (omega (arith, whole before))
    (λ w. both_ways c.is_beside.result c.if-is_beside.false (c.is_beside.ensures.1 w))
    (c.is_beside-2.ensures.0 c.if-is_beside-2.true)

pub returns-clause-answer : goal.returns-clause-answer
returns-clause-answer c =
    let before = (goal.at.returns-clause-answer c).After-is_beside in
    noted_claimable c.args.self.now.largest c.args.self.now _ (kept before) c.args.kind c.order-whole.result c.at-half.result (whole before) (omega (arith, whole before))
    (λ w. both_ways c.is_beside.result c.if-is_beside.false (c.is_beside.ensures.1 w))
    (λ w. both_ways c.is_beside-2.result c.if-is_beside-2.false (c.is_beside-2.ensures.1 w))
    _ (rw (← c.self.view_is, ← c.self.invariant.told) c.look_at_marked.ensures.all) c.largest_beside.result c.largest_beside.ensures

pub look_at_marked-requires-clause-pageblocks : goal.look_at_marked-requires-clause-pageblocks
look_at_marked-requires-clause-pageblocks c = λ b lt. pageblock_kept c.self.inside.blocks.largest b _ _ _ c.self.invariant.kept c.self.invariant.told lt

pub look_at_marked-requires-clause-claimed : goal.look_at_marked-requires-clause-claimed
look_at_marked-requires-clause-claimed c = rw c.self.invariant.told c.self.invariant.claimed

pub invariant_of-self : goal.invariant_of-self
invariant_of-self c = indexed_anew c.self.inside.blocks.largest _ _ _ _ _ _ _ c.self.invariant.kept c.self.invariant.told c.self.invariant.apart c.look_at_marked.ensures.claimed
