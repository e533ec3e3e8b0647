use Rattle.std.proofs.Common.{◌-◌, ◌/◌, ◌%◌, ◌≡◌, ◌≤◌, ◌∙◌, ap, arith, slice_index}
use Rattle.zp_tree.specs.declared.constants.TheConstants.{PLACES, WORD_LEVELS, GROUP_PAGES}
use Rattle.zp_tree.specs.Words.{IsMarked, IsHalved}
use Rattle.zp_tree.proofs.Places.{high_place}
use Rattle.zp_tree.proofs.SplitMarks.{high_split}
use Rattle.zp_tree.proofs.marks.split_high.Goals as goal

pub without-requires : goal.without-requires
without-requires c = rw c.high_place-place.ensures.place (high_place c.args.high.now c.args.at c.args.from c.requires.inside (omega arith)).place

pub with_halves-new-requires-clause-block : goal.with_halves-new-requires-clause-block
with_halves-new-requires-clause-block c = rw c.high_place-place.ensures.place (high_place c.args.high.now c.args.at c.args.from c.requires.inside (omega arith)).place

pub returns : goal.returns
returns c = λ ls words.
    let le : WORD_LEVELS ≤ c.args.from = omega arith in
    let room = (high_place c.args.high.now c.args.at c.args.from c.requires.inside le).word in
    let read : c.read-old.result ≡ slice_index c.args.high.now (c.args.at / GROUP_PAGES) =
    c.read-old.ensures.node 0 ∙ ap (slice_index c.args.high.now) c.group_of-group.ensures in
    let m : IsMarked (slice_index c.args.high.now (c.args.at / GROUP_PAGES)) c.without.result (c.args.at / PLACES % PLACES) (c.args.from - WORD_LEVELS) 0 = rw (read, c.high_place-place.ensures.place) at c.without.ensures in
    let h : IsHalved c.without.result c.with_halves-new.result (c.args.at / PLACES % PLACES) (c.args.from - WORD_LEVELS) (c.args.to - WORD_LEVELS) = rw c.high_place-place.ensures.place at c.with_halves-new.ensures in
    rw (c.write.ensures, c.group_of-group.ensures) (high_split ls c.args.high.now _ _ c.args.at c.args.from c.args.to words c.requires.inside c.requires.high c.requires.down m h)
