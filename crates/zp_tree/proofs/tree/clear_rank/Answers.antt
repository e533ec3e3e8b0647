use Rattle.std.proofs.Common.{◌∙◌, ap, sym, arith, slice_set}
use Rattle.zp_tree.proofs.Lowered.{reranked}
use Rattle.zp_tree.proofs.tree.clear_rank.Goals as goal

pub returns-then-pages-eq-GROUP_PAGES : goal.returns-then-pages-eq-GROUP_PAGES
returns-then-pages-eq-GROUP_PAGES c =
    let after = c.put.ensures ∙ ap (λ g. slice_set c.args.ranks.now g c.none.result) c.group_of.ensures ∙ ap (slice_set c.args.ranks.now _) c.none.ensures in
    reranked _ _ _ _ _ _ _ (omega (arith, c.requires.group, c.requires.rows)) (record { rank = 0; after = after; is = c.requires.emptied (sym c.pages.ensures.pages ∙ c.if-pages-eq-GROUP_PAGES.true) })
