use Rattle.std.proofs.Common.{◌-◌, ◌/◌, ◌%◌, ◌≡◌, ◌≤◌, ◌<◌, ◌∙◌, ap, arith, cond, slice_index}
use Rattle.zp_tree.specs.declared.constants.TheConstants.{PLACES, WORD_LEVELS, GROUP_PAGES}
use Rattle.zp_tree.specs.Words.{IsMarked}
use Rattle.zp_tree.proofs.Places.{low_place, high_place}
use Rattle.zp_tree.proofs.Marking.{low_marked, high_marked}
use Rattle.zp_tree.proofs.marks.put_mark.Goals as goal

pub put-requires : goal.put-requires
put-requires c = rw (c.low_place.ensures.place, c.number-level.ensures.same) (low_place c.args.high.now c.args.at c.args.order c.requires.inside (omega arith)).place

pub put-requires-else-level-lt-WORD_LEVELS : goal.put-requires-else-level-lt-WORD_LEVELS
put-requires-else-level-lt-WORD_LEVELS c = rw (c.high_place.ensures.place, c.number-level.ensures.same) (high_place c.args.high.now c.args.at c.args.order c.requires.inside (omega arith)).place

pub returns-then-level-lt-WORD_LEVELS : goal.returns-then-level-lt-WORD_LEVELS
returns-then-level-lt-WORD_LEVELS c =
    let lt : c.args.order < WORD_LEVELS = omega arith in
    let room = (low_place c.args.high.now c.args.at c.args.order c.requires.inside lt).word in
    let read : c.read-old.result ≡ slice_index c.args.low.now (c.args.at / PLACES) =
    c.read-old.ensures.node 0 ∙ ap (slice_index c.args.low.now) c.low_word-word.ensures in
    let m : IsMarked (slice_index c.args.low.now (c.args.at / PLACES)) c.put.result (c.args.at % PLACES) c.args.order (cond c.args.is_set 1 0) = rw (read, c.low_place.ensures.place, c.number-level.ensures.same) at c.put.ensures in
    rw (c.write.ensures, c.low_word-word.ensures) (low_marked c.args.low.now c.args.high.now c.put.result c.args.at c.args.order (cond c.args.is_set 1 0) c.requires.words c.requires.inside lt m)

pub returns-else-level-lt-WORD_LEVELS : goal.returns-else-level-lt-WORD_LEVELS
returns-else-level-lt-WORD_LEVELS c =
    let le : WORD_LEVELS ≤ c.args.order = omega arith in
    let room = (high_place c.args.high.now c.args.at c.args.order c.requires.inside le).word in
    let read : c.read-old-else-level-lt-WORD_LEVELS.result ≡ slice_index c.args.high.now (c.args.at / GROUP_PAGES) =
    c.read-old-else-level-lt-WORD_LEVELS.ensures.node 0 ∙ ap (slice_index c.args.high.now) c.group_of-word.ensures in
    let m : IsMarked (slice_index c.args.high.now (c.args.at / GROUP_PAGES)) c.put-else-level-lt-WORD_LEVELS.result (c.args.at / PLACES % PLACES) (c.args.order - WORD_LEVELS) (cond c.args.is_set 1 0) = rw (read, c.high_place.ensures.place, c.number-level.ensures.same) at c.put-else-level-lt-WORD_LEVELS.ensures in
    rw (c.write-else-level-lt-WORD_LEVELS.ensures, c.group_of-word.ensures) (high_marked c.args.low.now c.args.high.now c.put-else-level-lt-WORD_LEVELS.result c.args.at c.args.order (cond c.args.is_set 1 0) c.requires.words c.requires.inside le m)
