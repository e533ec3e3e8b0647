use Rattle.std.proofs.Common.{ℕ, ◌/◌, ◌<◌, List, length, arith}
use Rattle.zp_model.specs.declared.constants.TheConstants.{LARGEST_ORDER}
use Rattle.zp_tree.specs.declared.constants.TheConstants.{GROUP_PAGES}
use Rattle.zp_tree.specs.Blocks.{split_towards_set}
use Rattle.zp_tree.specs.Marks.{IsLowered, IsSplitTowards}
use Rattle.zp_tree.specs.Spelled.{IsTreeOf}
use Rattle.zp_tree.proofs.Spelling.{tree_in, spelled_is, spelled_tree, block_in_groups}
use Rattle.zp_tree.proofs.TowardsSteps.{IsSplitting, group_towards, towards_large, towards_left, towards_tree}
use Rattle.zp_tree.proofs.TreeSteps.{IsLeft}
use Rattle.zp_tree.proofs.tree.OrderTree.split_towards.Goals.{After-split_marks_around}
use Rattle.zp_tree.proofs.tree.OrderTree.split_towards.Goals as goal

pub split_marks_around-requires-clause-inside : goal.split_marks_around-requires-clause-inside
split_marks_around-requires-clause-inside c =
    block_in_groups _ _ _ _ _ _ _ _ _ (tree_in LARGEST_ORDER _ _ _ _ _ _ c.self.view_is c.self.invariant) c.requires.block

splitting : (c : After-split_marks_around) → IsSplitting LARGEST_ORDER c.args.self.now c.args.at c.args.from c.args.to
splitting c = record { set = (tree_in LARGEST_ORDER _ _ _ _ _ _ c.self.view_is c.self.invariant).set; block = c.requires.block; down = omega (arith, c.requires.down) }

rest : (c : After-split_marks_around) → IsLeft c.split_marks_around.new.low c.split_marks_around.new.high c.self.inside.ranks c.self.inside.stale c.args.at
rest c =
    let t = tree_in LARGEST_ORDER _ _ _ _ _ _ c.self.view_is c.self.invariant in
    let r : IsSplitTowards c.self.inside.low c.self.inside.high c.split_marks_around.new.low c.split_marks_around.new.high c.args.at c.args.from c.args.to = c.split_marks_around.ensures in
    towards_left _ _ _ _ _ _ _ _ _ _ _ _ t (splitting c) r

-- the page's group is one of the zone
group : (c : After-split_marks_around) → c.args.at / GROUP_PAGES < length c.split_marks_around.new.high
group c =
    let t = tree_in LARGEST_ORDER _ _ _ _ _ _ c.self.view_is c.self.invariant in
    let r : IsSplitTowards c.self.inside.low c.self.inside.high c.split_marks_around.new.low c.split_marks_around.new.high c.args.at c.args.from c.args.to = c.split_marks_around.ensures in
    group_towards _ _ _ _ _ _ _ _ _ _ _ _ t (splitting c) r

pub lower_rank-requires-clause-group : goal.lower_rank-requires-clause-group
lower_rank-requires-clause-group c = group (goal.at.lower_rank-requires-clause-group c).After-split_marks_around

pub go_stale-requires-clause-group : goal.go_stale-requires-clause-group
go_stale-requires-clause-group c = group (goal.at.go_stale-requires-clause-group c).After-split_marks_around

pub lower_rank-requires-clause-down : goal.lower_rank-requires-clause-down
lower_rank-requires-clause-down c = (rest (goal.at.lower_rank-requires-clause-down c).After-split_marks_around).down

pub lower_rank-requires-clause-near : goal.lower_rank-requires-clause-near
lower_rank-requires-clause-near c = (rest (goal.at.lower_rank-requires-clause-near c).After-split_marks_around).near

pub go_stale-requires-clause-near : goal.go_stale-requires-clause-near
go_stale-requires-clause-near c = (rest (goal.at.go_stale-requires-clause-near c).After-split_marks_around).near

pub go_stale-requires-clause-large : goal.go_stale-requires-clause-large
go_stale-requires-clause-large c =
    let t = tree_in LARGEST_ORDER _ _ _ _ _ _ c.self.view_is c.self.invariant in
    towards_large _ _ _ _ _ _ _ _ _ _ _ _ t (splitting (goal.at.go_stale-requires-clause-large c).After-split_marks_around) c.requires.down (omega (arith, c.if-number-ge-WORD_LEVELS.true, c.number.ensures.same)) c.split_marks_around.ensures

after : (c : After-split_marks_around) (rs : List ℕ) (x : ℕ) → IsLowered c.split_marks_around.new.low c.split_marks_around.new.high c.self.inside.ranks rs c.self.inside.stale x (c.args.at / GROUP_PAGES) c.args.from →
    IsTreeOf LARGEST_ORDER c.self.inside.pages c.split_marks_around.new.low c.split_marks_around.new.high rs x (split_towards_set c.args.self.now c.args.at c.args.from c.args.to)
after c rs x l =
    let t = tree_in LARGEST_ORDER _ _ _ _ _ _ c.self.view_is c.self.invariant in
    let r : IsSplitTowards c.self.inside.low c.self.inside.high c.split_marks_around.new.low c.split_marks_around.new.high c.args.at c.args.from c.args.to = c.split_marks_around.ensures in
    towards_tree _ _ _ _ _ _ _ _ _ _ _ _ _ _ t (splitting c) r l

pub invariant_of-self : goal.invariant_of-self
invariant_of-self c = spelled_tree _ _ _ _ _ _ _ (after (goal.at.invariant_of-self c).After-split_marks_around _ _ c.go_stale.ensures)

pub invariant_of-self-else-number-ge-WORD_LEVELS : goal.invariant_of-self-else-number-ge-WORD_LEVELS
invariant_of-self-else-number-ge-WORD_LEVELS c = spelled_tree _ _ _ _ _ _ _ (after (goal.at.invariant_of-self-else-number-ge-WORD_LEVELS c).After-split_marks_around _ _ c.lower_rank.ensures)

pub returns-then-number-ge-WORD_LEVELS : goal.returns-then-number-ge-WORD_LEVELS
returns-then-number-ge-WORD_LEVELS c = spelled_is _ _ _ _ _ _ _ (after (goal.at.returns-then-number-ge-WORD_LEVELS c).After-split_marks_around _ _ c.go_stale.ensures)

pub returns-else-number-ge-WORD_LEVELS : goal.returns-else-number-ge-WORD_LEVELS
returns-else-number-ge-WORD_LEVELS c = spelled_is _ _ _ _ _ _ _ (after (goal.at.returns-else-number-ge-WORD_LEVELS c).After-split_marks_around _ _ c.lower_rank.ensures)
