use Rattle.std.proofs.Common.{ℕ, ◌/◌, List, arith}
use Rattle.zp_model.specs.declared.constants.TheConstants.{LARGEST_ORDER}
use Rattle.zp_tree.specs.declared.constants.TheConstants.{GROUP_PAGES}
use Rattle.zp_tree.specs.Blocks.{split_set}
use Rattle.zp_tree.specs.Marks.{IsLowered, IsSplitUp}
use Rattle.zp_tree.specs.Spelled.{IsTreeOf}
use Rattle.zp_tree.proofs.Spelling.{tree_in, spelled_is, spelled_tree, block_in_groups}
use Rattle.zp_tree.proofs.TreeSteps.{IsLeft, split_large, split_left, split_tree}
use Rattle.zp_tree.proofs.tree.OrderTree.split.Goals.{After-split_marks}
use Rattle.zp_tree.proofs.tree.OrderTree.split.Goals as goal

pub split_marks-requires-clause-inside : goal.split_marks-requires-clause-inside
split_marks-requires-clause-inside c =
    block_in_groups _ _ _ _ _ _ _ _ _ (tree_in LARGEST_ORDER _ _ _ _ _ _ c.self.view_is c.self.invariant) c.requires.block

rest : (c : After-split_marks) → IsLeft c.split_marks.new.low c.split_marks.new.high c.self.inside.ranks c.self.inside.stale c.args.at
rest c =
    let t = tree_in LARGEST_ORDER _ _ _ _ _ _ c.self.view_is c.self.invariant in
    let r : IsSplitUp c.self.inside.low c.self.inside.high c.split_marks.new.low c.split_marks.new.high c.args.at c.args.from c.args.to = c.split_marks.ensures in
    split_left _ _ _ _ _ _ _ _ _ _ _ _ t c.requires.block (omega (arith, c.requires.down)) r

pub lower_rank-requires-clause-down : goal.lower_rank-requires-clause-down
lower_rank-requires-clause-down c = (rest (goal.at.lower_rank-requires-clause-down c).After-split_marks).down

pub lower_rank-requires-clause-near : goal.lower_rank-requires-clause-near
lower_rank-requires-clause-near c = (rest (goal.at.lower_rank-requires-clause-near c).After-split_marks).near

pub go_stale-requires-clause-near : goal.go_stale-requires-clause-near
go_stale-requires-clause-near c = (rest (goal.at.go_stale-requires-clause-near c).After-split_marks).near

pub go_stale-requires-clause-large : goal.go_stale-requires-clause-large
go_stale-requires-clause-large c =
    let t = tree_in LARGEST_ORDER _ _ _ _ _ _ c.self.view_is c.self.invariant in
    split_large _ _ _ _ _ _ _ _ _ _ _ _ t c.requires.block c.requires.down (omega (arith, c.if-number-ge-WORD_LEVELS.true, c.number.ensures.same)) c.split_marks.ensures

after : (c : After-split_marks) (rs : List ℕ) (x : ℕ) → IsLowered c.split_marks.new.low c.split_marks.new.high c.self.inside.ranks rs c.self.inside.stale x (c.args.at / GROUP_PAGES) c.args.from →
    IsTreeOf LARGEST_ORDER c.self.inside.pages c.split_marks.new.low c.split_marks.new.high rs x (split_set c.args.self.now c.args.at c.args.from c.args.to)
after c rs x l =
    let t = tree_in LARGEST_ORDER _ _ _ _ _ _ c.self.view_is c.self.invariant in
    let r : IsSplitUp c.self.inside.low c.self.inside.high c.split_marks.new.low c.split_marks.new.high c.args.at c.args.from c.args.to = c.split_marks.ensures in
    split_tree _ _ _ _ _ _ _ _ _ _ _ _ _ _ t c.requires.block (omega (arith, c.requires.down)) r l

pub invariant_of-self : goal.invariant_of-self
invariant_of-self c = spelled_tree _ _ _ _ _ _ _ (after (goal.at.invariant_of-self c).After-split_marks _ _ c.go_stale.ensures)

pub invariant_of-self-else-number-ge-WORD_LEVELS : goal.invariant_of-self-else-number-ge-WORD_LEVELS
invariant_of-self-else-number-ge-WORD_LEVELS c = spelled_tree _ _ _ _ _ _ _ (after (goal.at.invariant_of-self-else-number-ge-WORD_LEVELS c).After-split_marks _ _ c.lower_rank.ensures)

pub returns-then-number-ge-WORD_LEVELS : goal.returns-then-number-ge-WORD_LEVELS
returns-then-number-ge-WORD_LEVELS c = spelled_is _ _ _ _ _ _ _ (after (goal.at.returns-then-number-ge-WORD_LEVELS c).After-split_marks _ _ c.go_stale.ensures)

pub returns-else-number-ge-WORD_LEVELS : goal.returns-else-number-ge-WORD_LEVELS
returns-else-number-ge-WORD_LEVELS c = spelled_is _ _ _ _ _ _ _ (after (goal.at.returns-else-number-ge-WORD_LEVELS c).After-split_marks _ _ c.lower_rank.ensures)
