use Rattle.std.proofs.Common.{◌≤◌, ◌+◌, arith}
use Rattle.zp_tree.specs.declared.constants.TheConstants.{PLACES}
use Rattle.zp_tree.proofs.GroupBlocks.{mark_high}
use Rattle.zp_tree.proofs.FirstBlocks.{first_large, first_small, first_not_small, few_reads, near_bound}
use Rattle.zp_tree.proofs.groups.first_of.Goals.{After-first_low}
use Rattle.zp_tree.proofs.groups.first_of.Goals as goal

pub first_high-found-requires-clause-rank : goal.first_high-found-requires-clause-rank
first_high-found-requires-clause-rank c i o h at = near_bound _ _ _ _ c.requires.rank i o (mark_high c.args.low.now c.args.high.now i o h) at

pub returns-then-number-ge-WORD_LEVELS-clause-first : goal.returns-then-number-ge-WORD_LEVELS-clause-first
returns-then-number-ge-WORD_LEVELS-clause-first c = first_large _ _ _ _ _ (omega arith) c.first_high-found.ensures.first

reads : (c : After-first_low) → c.first_low.new.meter ≤ c.args.meter.now + PLACES
reads c =
    few_reads c.args.low.now c.args.high.now c.args.group c.args.order c.args.rank c.words_before-words.result c.args.meter.now c.first_high-found.new.meter c.first_low.new.meter c.first_high-found.result c.requires.rank (omega arith)
    c.first_high-found.ensures.first c.words_before-words.ensures.words c.first_high-found.ensures.counted c.first_high-found.ensures.none c.first_low.ensures.counted

pub returns-in-Some-clause-first : goal.returns-in-Some-clause-first
returns-in-Some-clause-first c =
    first_small _ _ _ _ c.words_before-words.result c.first_high-found.result c.in-Some.block c.requires.words c.first_high-found.ensures.first c.words_before-words.ensures.words c.words_before-words.ensures.within c.in-Some.ensures.first

pub returns-in-Some-clause-counted : goal.returns-in-Some-clause-counted
returns-in-Some-clause-counted c = reads (goal.at.returns-in-Some-clause-counted c).After-first_low

pub returns-clause-first : goal.returns-clause-first
returns-clause-first c = first_not_small _ _ _ _ c.words_before-words.result c.first_high-found.result c.requires.words (omega arith) c.first_high-found.ensures.first c.words_before-words.ensures.words c.in_default.ensures.first

pub returns-clause-counted : goal.returns-clause-counted
returns-clause-counted c = reads (goal.at.returns-clause-counted c).After-first_low
