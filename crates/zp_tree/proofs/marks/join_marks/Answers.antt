use Rattle.std.proofs.Common.{◌/◌, ◌%◌, ◌≡◌, ◌<◌, ◌∙◌, ap, arith, slice_index}
use Rattle.zp_model.specs.Block.{head}
use Rattle.zp_tree.specs.declared.constants.TheConstants.{PLACES, WORD_LEVELS}
use Rattle.zp_tree.specs.Words.{IsMarked, IsUnpaired}
use Rattle.zp_tree.specs.Marks.{IsJoinedUp}
use Rattle.zp_tree.proofs.JoinMarks.{low_joined, low_head, join_on}
use Rattle.zp_tree.proofs.marks.join_marks.Goals as goal

pub returns-then-top-lt-WORD_LEVELS : goal.returns-then-top-lt-WORD_LEVELS
returns-then-top-lt-WORD_LEVELS c =
    let lt : c.args.to < WORD_LEVELS = omega arith in
    let read : c.read-old.result ≡ slice_index c.args.low.now (c.args.at / PLACES) =
    c.read-old.ensures.node 0 ∙ ap (slice_index c.args.low.now) c.low_word-word.ensures in
    let a : IsUnpaired (slice_index c.args.low.now (c.args.at / PLACES)) c.without_buddies-left.result (c.args.at % PLACES) c.args.from c.args.to = rw (read, c.low_place-place.ensures.place, c.number-least.ensures.same, c.number-top.ensures.same) at c.without_buddies-left.ensures in
    let m : IsMarked c.without_buddies-left.result c.with_around.result (head c.args.at c.args.to % PLACES) c.args.to 1 = rw (c.low_place-place.ensures.place, c.number-top.ensures.same, ← low_head c.args.at c.args.to (omega arith)) at c.with_around.ensures in
    rw (c.write.ensures, c.low_word-word.ensures) (low_joined c.args.low.now c.args.high.now _ _ c.args.at c.args.from c.args.to c.requires.words c.requires.inside lt a m)

pub returns : goal.returns
returns c =
    let read : c.read-old.result ≡ slice_index c.args.low.now (c.args.at / PLACES) =
    c.read-old.ensures.node 0 ∙ ap (slice_index c.args.low.now) c.low_word-word.ensures in
    let a : IsUnpaired (slice_index c.args.low.now (c.args.at / PLACES)) c.without_buddies.result (c.args.at % PLACES) c.args.from WORD_LEVELS = rw (read, c.low_place-place.ensures.place, c.number-least.ensures.same) at c.without_buddies.ensures in
    let s : IsJoinedUp c.args.low.now c.args.high.now c.args.low.now c.join_high-2.new.high c.args.at WORD_LEVELS c.args.to = rw c.number-top.ensures.same at (c.join_high-2.ensures c.args.low.now c.requires.words) in
    rw (c.write-2.ensures, c.low_word-word.ensures) (join_on c.args.low.now c.args.high.now _ _ c.args.at c.args.from c.args.to c.requires.words c.requires.inside (omega arith) (omega arith) a s)
