use Rattle.std.proofs.Common.{◌/◌, ◌%◌, ◌≡◌, ◌<◌, ◌∙◌, ap, arith, slice_index}
use Rattle.zp_model.specs.Block.{head}
use Rattle.zp_tree.specs.declared.constants.TheConstants.{PLACES, WORD_LEVELS}
use Rattle.zp_tree.specs.Words.{IsMarked, IsPaired}
use Rattle.zp_tree.specs.Marks.{IsSplitTowards}
use Rattle.zp_tree.proofs.JoinMarks.{low_head}
use Rattle.zp_tree.proofs.TowardsMarks.{low_towards, towards_on}
use Rattle.zp_tree.proofs.marks.split_marks_around.Goals as goal

pub returns-then-top-lt-WORD_LEVELS : goal.returns-then-top-lt-WORD_LEVELS
returns-then-top-lt-WORD_LEVELS c =
    let lt : c.args.from < WORD_LEVELS = omega arith in
    let read : c.read-old.result ≡ slice_index c.args.low.now (c.args.at / PLACES) =
    c.read-old.ensures.node 0 ∙ ap (slice_index c.args.low.now) c.low_word-word.ensures in
    let m : IsMarked (slice_index c.args.low.now (c.args.at / PLACES)) c.without_around-left.result (head c.args.at c.args.from % PLACES) c.args.from 0 = rw (read, c.low_place-place.ensures.place, c.number-top.ensures.same, ← low_head c.args.at c.args.from (omega arith)) at c.without_around-left.ensures in
    let a : IsPaired c.without_around-left.result c.with_buddies.result (c.args.at % PLACES) c.args.to c.args.from = rw (c.low_place-place.ensures.place, c.number-least.ensures.same, c.number-top.ensures.same) at c.with_buddies.ensures in
    rw (c.write.ensures, c.low_word-word.ensures) (low_towards c.args.low.now c.args.high.now _ _ c.args.at c.args.from c.args.to c.requires.words c.requires.inside lt m a)

pub returns : goal.returns
returns c =
    let read : c.read-old.result ≡ slice_index c.args.low.now (c.args.at / PLACES) =
    c.read-old.ensures.node 0 ∙ ap (slice_index c.args.low.now) c.low_word-word.ensures in
    let a : IsPaired (slice_index c.args.low.now (c.args.at / PLACES)) c.with_buddies-2.result (c.args.at % PLACES) c.args.to WORD_LEVELS = rw (read, c.low_place-place.ensures.place, c.number-least.ensures.same) at c.with_buddies-2.ensures in
    let s : IsSplitTowards c.args.low.now c.args.high.now c.args.low.now c.split_high_around-2.new.high c.args.at c.args.from WORD_LEVELS = rw c.number-top.ensures.same at (c.split_high_around-2.ensures c.args.low.now c.requires.words) in
    rw (c.write-2.ensures, c.low_word-word.ensures) (towards_on c.args.low.now c.args.high.now _ _ c.args.at c.args.from c.args.to c.requires.words c.requires.inside (omega arith) (omega arith) a s)
