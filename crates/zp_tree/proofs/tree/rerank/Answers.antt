use Rattle.std.proofs.Common.{◌/◌, ◌≡◌, ◌<◌, arith, sym, slice_index}
use Rattle.std.proofs.lemmas.List.{set-get_or}
use Rattle.zp_tree.specs.declared.constants.TheConstants.{GROUP_PAGES}
use Rattle.zp_tree.specs.Marks.{HasMark}
use Rattle.zp_tree.proofs.GroupBlocks.{mark_low}
use Rattle.zp_tree.proofs.Mended.{within_bound}
use Rattle.zp_tree.proofs.tree.rerank.Goals as goal

pub put-requires-clause-down : goal.put-requires-clause-down
put-requires-clause-down c _ = rw c.group_of-group.ensures (within_bound _ _ _ _ _ (rw c.group_of-group.ensures at c.rank_of.ensures) c.requires.down)

-- a block of the order is left in the page's low word
pub returns-then-has_in_word : goal.returns-then-has_in_word
returns-then-has_in_word c =
    let w = c.has_in_word.ensures c.if-has_in_word.true in
    let mark : HasMark c.args.low.now c.args.high.now w.0 c.args.order = mark_low c.args.low.now c.args.high.now w.0 c.args.order c.requires.words w.1 in
    let group : w.0 / GROUP_PAGES ≡ c.args.at / GROUP_PAGES = omega (arith, w.2) in
    let there : c.args.order < slice_index c.args.ranks.now (c.args.at / GROUP_PAGES) = c.requires.down w.0 c.args.order mark group in
    record {
      rank = slice_index c.args.ranks.now (c.args.at / GROUP_PAGES);
      after = sym (set-get_or c.args.ranks.now (c.args.at / GROUP_PAGES) 0);
      is = record { most = c.requires.down; some = λ k same. let e : c.args.order ≡ k = omega (arith, c.requires.largest w.1.order) in (w.0, rw (← e) mark, group) };
    }

pub returns : goal.returns
returns c = rw (← c.group_of-group.ensures) (record { rank = c.rank_of.result; after = c.put.ensures; is = c.rank_of.ensures })
