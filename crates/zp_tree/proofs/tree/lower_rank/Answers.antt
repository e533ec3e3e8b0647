use Rattle.std.proofs.Common.{◌∙◌, inl, ap, arith, slice_index}
use Rattle.zp_tree.specs.Marks.{HasLarge}
use Rattle.zp_tree.proofs.Lowered.{larger, unchanged}
use Rattle.zp_tree.proofs.tree.lower_rank.Goals as goal

pub returns-else-is_at_least : goal.returns-else-is_at_least
returns-else-is_at_least c =
    let rank = c.rank.ensures ∙ ap (slice_index c.args.ranks.now) c.group_of-group.ensures in
    unchanged _ _ _ _ _ _ (inl (omega arith, omega (arith, rank, larger _ _ _ _ c.is_at_least.ensures.1 c.if-is_at_least.false c.of.ensures)))

-- a block is left in the high word
pub go_stale-requires-clause-large : goal.go_stale-requires-clause-large
go_stale-requires-clause-large c =
    let l : HasLarge c.args.high.now c.group_of-group.result = c.has_large.ensures.0 c.if-not-has_large.false in
    rw (← c.group_of-group.ensures) l
