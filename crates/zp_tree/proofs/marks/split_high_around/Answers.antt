use Rattle.std.proofs.Common.{◌+◌, ◌-◌, ◌/◌, ◌%◌, ◌≡◌, ◌≤◌, ◌∙◌, ap, arith, slice_index}
use Rattle.zp_model.specs.Block.{head}
use Rattle.zp_tree.specs.declared.constants.TheConstants.{PLACES, WORD_LEVELS, GROUP_PAGES}
use Rattle.zp_tree.specs.Words.{IsMarked, IsPaired}
use Rattle.zp_tree.proofs.Places.{high_place}
use Rattle.zp_tree.proofs.BuddyPlaces.{head_around}
use Rattle.zp_tree.proofs.JoinMarks.{high_head}
use Rattle.zp_tree.proofs.TowardsMarks.{high_towards}
use Rattle.zp_tree.proofs.marks.split_high_around.Goals as goal

pub returns : goal.returns
returns c = λ ls words.
    let le : WORD_LEVELS ≤ c.args.from = omega arith in
    let room = (high_place c.args.high.now (head c.args.at c.args.from) c.args.from c.requires.inside le).word in
    let around = head_around c.args.at c.args.from (WORD_LEVELS + WORD_LEVELS) (omega (arith, c.requires.inside.order)) in
    let read : c.read-old.result ≡ slice_index c.args.high.now (c.args.at / GROUP_PAGES) =
    c.read-old.ensures.node 0 ∙ ap (slice_index c.args.high.now) c.group_of-group.ensures in
    let m : IsMarked (slice_index c.args.high.now (c.args.at / GROUP_PAGES)) c.without_around-left.result (head c.args.at c.args.from / PLACES % PLACES) (c.args.from - WORD_LEVELS) 0 = rw (read, c.high_place-place.ensures.place, ← high_head c.args.at c.args.from le c.requires.inside.order) at c.without_around-left.ensures in
    let a : IsPaired c.without_around-left.result c.with_buddies.result (c.args.at / PLACES % PLACES) (c.args.to - WORD_LEVELS) (c.args.from - WORD_LEVELS) = rw c.high_place-place.ensures.place at c.with_buddies.ensures in
    rw (c.write.ensures, c.group_of-group.ensures) (high_towards ls c.args.high.now _ _ c.args.at c.args.from c.args.to words c.requires.inside c.requires.high c.requires.down m a)
