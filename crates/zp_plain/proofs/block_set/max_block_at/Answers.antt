use Rattle.std.proofs.Common.{ℕ, arith, sym, ◌∙◌, ap, None, Option}
use Rattle.std.specs.List.{find}
use Rattle.std.proofs.lemmas.List.{get_or_past}
use Rattle.zp_model.specs.Block.{is_max}
use Rattle.zp_model.specs.BlockSet.{max_blocks, orders_from}
use Rattle.zp_model.proofs.MaximalBlocks.{length-max, max_block}
use Rattle.zp_plain.proofs.block_set.max_block_at.Goals as goal

pub returns-then-page-free : goal.returns-then-page-free
returns-then-page-free c =
    let looks : ℕ → Option ℕ = λ h. find (is_max c.args.largest c.args.free.now h) (orders_from c.args.largest 0) in
    c.block_at.ensures ∙ ap looks c.at.ensures ∙ sym (max_block c.args.largest c.args.free.now c.args.page (omega arith))

pub returns-else-page-free : goal.returns-else-page-free
returns-else-page-free c =
    sym (get_or_past (max_blocks c.args.largest c.args.free.now) c.args.page None (omega (arith, length-max c.args.largest c.args.free.now)))
