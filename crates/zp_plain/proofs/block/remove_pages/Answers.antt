use Rattle.std.proofs.Common.{◌&&◌, not, false, length, arith}
use Rattle.std.proofs.lemmas.List.FromFn.{fill_by_all}
use Rattle.zp_model.specs.Block.{has}
use Rattle.zp_model.specs.Runs.{is_within, without_pages}
use Rattle.zp_plain.proofs.block.remove_pages.Goals as goal

pub returns : goal.returns
unfolding without_pages
returns c =
    let u = c.args.set.now.items in
    fill_by_all (λ i. has u i && not (is_within c.args.first c.args.pages i)) c.pages.set.items (length u) false c.pages.invariant.pages
    (λ j lt. c.pages.invariant.done j (omega arith))
