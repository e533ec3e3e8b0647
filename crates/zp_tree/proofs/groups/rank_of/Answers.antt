use Rattle.std.proofs.Common.{ℕ, ◌*◌, subst, slice_index, Some, None}
use Rattle.zp_tree.specs.declared.constants.TheConstants.{PLACES, WORD_LEVELS}
use Rattle.zp_tree.specs.Words.{IsLargestIn, IsUnion}
use Rattle.zp_tree.proofs.GroupBlocks.{rank_of_high, rank_of_low, rank_of_none}
use Rattle.zp_tree.proofs.groups.rank_of.Goals.{After-union}
use Rattle.zp_tree.proofs.groups.rank_of.Goals as goal

united : (c : After-union) → IsUnion c.args.low.now (PLACES * c.args.group) PLACES c.union.result
united c = rw (← c.first_word.ensures) c.union.ensures.union

none : (c : After-union) → IsLargestIn (slice_index c.args.high.now c.args.group) 0 WORD_LEVELS None
none c = let P : ℕ → Type 0 = λ w. IsLargestIn w 0 WORD_LEVELS None in subst P (c.read.ensures.node 0) c.in_default.ensures

pub returns-in-Some : goal.returns-in-Some
returns-in-Some c =
    let P : ℕ → Type 0 = λ w. IsLargestIn w 0 WORD_LEVELS (Some c.in-Some.level) in
    rank_of_high _ _ _ c.in-Some.level _ c.requires.words c.requires.group (subst P (c.read.ensures.node 0) c.in-Some.ensures) c.of_number.ensures

pub returns-in-Some-largest : goal.returns-in-Some-largest
returns-in-Some-largest c =
    let u = (goal.at.returns-in-Some-largest c).After-union in
    rank_of_low _ _ _ c.union.result c.in-Some-largest.level _ c.requires.words c.requires.group (none u) (united u) c.in-Some-largest.ensures c.of_number-in-Some-largest.ensures

pub returns-in-None : goal.returns-in-None
returns-in-None c = let u = (goal.at.returns-in-None c).After-union in rank_of_none _ _ _ c.union.result _ c.requires.words c.requires.group (none u) (united u) c.in-None.ensures c.none.ensures
