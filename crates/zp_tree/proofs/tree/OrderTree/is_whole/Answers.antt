use Rattle.std.proofs.Common.{◌∙◌, sym, arith}
use Rattle.std.proofs.lemmas.Bool.{eqb-true, eq-eqb}
use Rattle.zp_model.specs.declared.constants.TheConstants.{LARGEST_ORDER}
use Rattle.zp_tree.proofs.TreeReads.{whole_ranked}
use Rattle.zp_tree.proofs.tree.OrderTree.is_whole.Goals as goal

pub returns : goal.returns
returns c =
    let w = whole_ranked LARGEST_ORDER c.args.self.now c.args.group c.rank_of.result c.pages-pages.ensures.blocks (omega arith) c.rank_of.ensures in
    (λ e. w.0 (sym c.number.ensures.same ∙ eqb-true _ _ e), λ st. eq-eqb _ _ (c.number.ensures.same ∙ w.1 st))
