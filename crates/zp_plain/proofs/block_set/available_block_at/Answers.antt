use Rattle.std.proofs.Common.{refl, sym, ◌∙◌, true, false}
use Rattle.zp_plain.proofs.Looking.{block_open}
use Rattle.zp_plain.proofs.block_set.available_block_at.Goals as goal

pub returns-then-is_isolated : goal.returns-then-is_isolated
returns-then-is_isolated c = block_open _ _ _ _ true _ c.requires.head (sym c.if-is_isolated.true ∙ c.is_isolated.ensures) refl

pub returns-else-is_isolated : goal.returns-else-is_isolated
returns-else-is_isolated c = block_open _ _ _ _ false _ c.requires.head (sym c.if-is_isolated.false ∙ c.is_isolated.ensures) c.block_at.ensures
