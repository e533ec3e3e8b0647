use Rattle.std.proofs.Common.{◌/◌, ◌%◌, ◌≡◌, ◌<◌, ◌∙◌, ap, arith, slice_index}
use Rattle.zp_tree.specs.declared.constants.TheConstants.{PLACES, WORD_LEVELS}
use Rattle.zp_tree.specs.Words.{IsMarked, IsHalved}
use Rattle.zp_tree.specs.Marks.{IsSplitUp}
use Rattle.zp_tree.proofs.Places.{low_place}
use Rattle.zp_tree.proofs.SplitMarks.{low_split, split_on}
use Rattle.zp_tree.proofs.marks.split_marks.Goals as goal

pub without-requires : goal.without-requires
without-requires c = rw (c.low_place-place.ensures.place, c.number-top.ensures.same) (low_place c.args.high.now c.args.at c.args.from c.requires.inside (omega arith)).place

pub with_halves-new-requires-clause-block : goal.with_halves-new-requires-clause-block
with_halves-new-requires-clause-block c = rw (c.low_place-place.ensures.place, c.number-top.ensures.same) (low_place c.args.high.now c.args.at c.args.from c.requires.inside (omega arith)).place

pub returns-then-top-lt-WORD_LEVELS : goal.returns-then-top-lt-WORD_LEVELS
returns-then-top-lt-WORD_LEVELS c =
    let lt : c.args.from < WORD_LEVELS = omega arith in
    let room = (low_place c.args.high.now c.args.at c.args.from c.requires.inside lt).word in
    let read : c.read-old.result ≡ slice_index c.args.low.now (c.args.at / PLACES) =
    c.read-old.ensures.node 0 ∙ ap (slice_index c.args.low.now) c.low_word-word.ensures in
    let m : IsMarked (slice_index c.args.low.now (c.args.at / PLACES)) c.without.result (c.args.at % PLACES) c.args.from 0 = rw (read, c.low_place-place.ensures.place, c.number-top.ensures.same) at c.without.ensures in
    let h : IsHalved c.without.result c.with_halves-new.result (c.args.at % PLACES) c.args.from c.args.to = rw (c.low_place-place.ensures.place, c.number-top.ensures.same, c.number-least.ensures.same) at c.with_halves-new.ensures in
    rw (c.write.ensures, c.low_word-word.ensures) (low_split c.args.low.now c.args.high.now c.without.result c.with_halves-new.result c.args.at c.args.from c.args.to c.requires.words c.requires.inside lt m h)

pub returns-then-least-lt-WORD_LEVELS : goal.returns-then-least-lt-WORD_LEVELS
returns-then-least-lt-WORD_LEVELS c =
    let s : IsSplitUp c.args.low.now c.args.high.now c.args.low.now c.split_high.new.high c.args.at c.args.from WORD_LEVELS = rw c.number-top.ensures.same at (c.split_high.ensures c.args.low.now c.requires.words) in
    let w = c.read-old-then-least-lt-WORD_LEVELS in
    let read : w.result ≡ slice_index c.args.low.now (c.args.at / PLACES) =
    w.ensures.node 0 ∙ ap (slice_index c.args.low.now) c.low_word-word.ensures in
    let h : IsHalved (slice_index c.args.low.now (c.args.at / PLACES)) c.with_halves.result 0 WORD_LEVELS c.args.to = rw (read, c.number-least.ensures.same) at c.with_halves.ensures in
    rw (c.write-then-least-lt-WORD_LEVELS.ensures, c.low_word-word.ensures) (split_on c.args.low.now c.args.high.now _ _ _ c.args.at c.args.from c.args.to (omega arith) (omega arith) c.requires.inside s h)

pub returns-else-least-lt-WORD_LEVELS : goal.returns-else-least-lt-WORD_LEVELS
returns-else-least-lt-WORD_LEVELS c = rw (c.number-top.ensures.same, c.number-least.ensures.same) at (c.split_high-else-least-lt-WORD_LEVELS.ensures c.args.low.now c.requires.words)
