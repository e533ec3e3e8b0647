use Rattle.std.proofs.Common.{◌-◌, ◌≡◌, sym, subst, arith}
use Rattle.zp_model.specs.Block.{head}
use Rattle.zp_model.specs.BlockSet.{Starts}
use Rattle.zp_model.proofs.Heads.{head_aligned, head_head}
use Rattle.zp_area.specs.Blocks.{block_set, removed}
use Rattle.zp_area.proofs.Towards.{largest-beside}
use Rattle.zp_buddy.specs.Parts.{IsGivenBack}
use Rattle.zp_buddy.specs.Sound.{IsSound}
use Rattle.zp_buddy.proofs.PartsTaken.{left_between, may_before, may_behind}
use Rattle.zp_buddy.proofs.Settled.{starts_block}
use Rattle.zp_buddy.proofs.TakenTowards.{IsTakenTowards, taken_towards}
use Rattle.zp_buddy.proofs.parts.take_part.Goals.{After-add_before, After-covering_order-run, After-split_towards}
use Rattle.zp_buddy.proofs.parts.take_part.Goals as goal

pub covering_order-run-requires-clause-few : goal.covering_order-run-requires-clause-few
covering_order-run-requires-clause-few c =
    omega (arith, c.requires.within, c.pages-pages.ensures.pages, c.pages-pages.ensures.within, (starts_block c.args.area.now.largest c.args.area.now (head c.args.at c.args.order) c.args.order c.requires.sound c.requires.block).inside)

-- the run lies in the block
block : (c : After-covering_order-run) → Starts (block_set c.args.area.now) (head (head c.args.at c.covering_order-run.result) c.args.order) c.args.order
block c = rw (head_head c.args.at c.covering_order-run.result c.args.order c.covering_order-run.ensures.most) c.requires.block

pub split_towards-requires-clause-block : goal.split_towards-requires-clause-block
split_towards-requires-clause-block c = rw c.head-head.ensures (block (goal.at.split_towards-requires-clause-block c).After-covering_order-run)

-- it is split off
gone : (c : After-split_towards) → IsTakenTowards c.args.area.now.largest c.args.area.now (head c.args.at c.covering_order-run.result) c.covering_order-run.result c.args.order c.split_towards.new.self
gone c =
    rw (c.split_towards.ensures, c.head-head.ensures)
    (taken_towards c.args.area.now.largest c.args.area.now (head c.args.at c.covering_order-run.result) c.covering_order-run.result c.args.order c.pages-pages.ensures.one c.requires.sound
    (rw (head_head c.args.at c.covering_order-run.result c.args.order c.covering_order-run.ensures.most) c.requires.block) (head_aligned c.args.at c.covering_order-run.result) c.covering_order-run.ensures.most)

largest : (c : After-split_towards) → c.split_towards.new.self.largest ≡ c.args.area.now.largest
largest c =
    rw c.split_towards.ensures
    (largest-beside (c.args.order - c.covering_order-run.result) c.args.area.now.largest (removed c.args.area.now.largest c.args.area.now (head c.head-head.result c.args.order) c.args.order) c.head-head.result c.covering_order-run.result)

pub add_before-requires-clause-may : goal.add_before-requires-clause-may
add_before-requires-clause-may c =
    let s = (goal.at.add_before-requires-clause-may c).After-split_towards in
    rw (c.number-2.ensures.same, c.number-taken.ensures.same, c.head-head.ensures)
    (may_before c.args.area.now c.split_towards.new.self c.args.at c.args.pages c.covering_order-run.result c.args.order c.requires.sound c.requires.block c.covering_order-run.ensures.most c.requires.some
    c.covering_order-run.ensures.within (largest s) (gone s))

pub add_before-requires-clause-sound : goal.add_before-requires-clause-sound
add_before-requires-clause-sound c =
    let s = (goal.at.add_before-requires-clause-sound c).After-split_towards in
    let n = c.split_towards.new.self in
    subst (λ q. IsSound q n.rows.states n.kinds n.rows.lists) (sym (largest s)) (gone s).left.sound

-- what the run has before the pages has come back
back : (c : After-add_before) → IsGivenBack c.split_towards.new.self c.add_before.new.area (head c.args.at c.covering_order-run.result) (c.args.at - head c.args.at c.covering_order-run.result)
back c = rw (c.number-2.ensures.same, c.number-taken.ensures.same, c.head-head.ensures) at c.add_before.ensures

pub add_behind-requires-clause-may : goal.add_behind-requires-clause-may
add_behind-requires-clause-may c =
    let s = (goal.at.add_behind-requires-clause-may c).After-split_towards in
    rw (c.number-taken.ensures.same, c.number.ensures.same, c.pages.ensures.pages, c.head-head.ensures)
    (may_behind c.args.area.now c.split_towards.new.self c.args.at c.args.pages c.covering_order-run.result c.args.order c.requires.sound c.requires.block c.covering_order-run.ensures.most c.requires.some
    c.covering_order-run.ensures.within (largest s) (gone s) c.add_before.new.area (back (goal.at.add_behind-requires-clause-may c).After-add_before))

pub returns : goal.returns
returns c =
    let s = (goal.at.returns c).After-split_towards in
    left_between c.args.area.now c.split_towards.new.self c.args.at c.args.pages c.covering_order-run.result c.args.order c.requires.sound c.requires.block c.covering_order-run.ensures.most c.requires.some
    c.covering_order-run.ensures.within (largest s) (gone s) c.add_before.new.area (back (goal.at.returns c).After-add_before) c.add_behind.new.area
    (rw (c.number-taken.ensures.same, c.number.ensures.same, c.pages.ensures.pages, c.head-head.ensures) at c.add_behind.ensures)
