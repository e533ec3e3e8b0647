use Rattle.std.proofs.Common.{◌∙◌, inl, inr, sym, ap, arith, slice_index}
use Rattle.zp_tree.proofs.Lowered.{evicted, larger, unchanged}
use Rattle.zp_tree.proofs.tree.go_stale.Goals as goal

pub returns-then-stale-group : goal.returns-then-stale-group
returns-then-stale-group c = unchanged _ _ _ _ _ _ (inr (c.requires.large, inr (c.if-stale-group.true ∙ c.group_of-group.ensures)))

pub evict-requires-clause-near : goal.evict-requires-clause-near
evict-requires-clause-near c = c.requires.near (λ e. c.if-stale-group.false (e ∙ sym c.group_of-group.ensures))

pub returns-then-is_at_least : goal.returns-then-is_at_least
returns-then-is_at_least c =
    evicted _ _ _ _ _ _ _ _ (omega (arith, c.requires.stale, c.requires.rows)) (λ e. c.if-stale-group.false (e ∙ sym c.group_of-group.ensures)) c.requires.large (c.evict.ensures.stale ∙ c.group_of-group.ensures) c.evict.ensures.mended

pub returns-else-is_at_least : goal.returns-else-is_at_least
returns-else-is_at_least c =
    let rank = c.rank.ensures ∙ ap (slice_index c.args.ranks.now) c.group_of-group.ensures in
    unchanged _ _ _ _ _ _ (inr (c.requires.large, inl (omega (arith, rank, larger _ _ _ _ c.is_at_least.ensures.1 c.if-is_at_least.false c.of.ensures))))
