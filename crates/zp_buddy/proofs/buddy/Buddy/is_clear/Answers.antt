use Rattle.std.proofs.lemmas.Bool.{both_ways}
use Rattle.zp_buddy.proofs.Framed.{clear_is}
use Rattle.zp_buddy.proofs.buddy.Buddy.is_clear.Goals as goal

pub returns-then-is_block : goal.returns-then-is_block
returns-then-is_block c =
    let w = rw c.self.view_is at (clear_is c.self.inside.area.largest c.self.inside.area c.args.at c.args.order) in
    (λ t. w.1 (c.is_block.ensures.0 c.if-is_block.true, c.is_clear_run.ensures.0 t), λ x. c.is_clear_run.ensures.1 (w.0 x).1)

pub returns-else-is_block : goal.returns-else-is_block
returns-else-is_block c =
    let w = rw c.self.view_is at (clear_is c.self.inside.area.largest c.self.inside.area c.args.at c.args.order) in
    (λ t. absurd (both_ways _ c.if-is_block.false t), λ x. c.is_block.ensures.1 (w.0 x).0)
