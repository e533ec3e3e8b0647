use Rattle.std.proofs.Common.{◌≡◌, ◌∙◌, sym, ap, cond}
use Rattle.std.specs.FinMap.{remove}
use Rattle.zp_kernel.specs.Frames.{can_split, frames_of, split}
use Rattle.zp_kernel.proofs.Frames.{removed, reordered}
use Rattle.zp_kernel.proofs.frame_table.FrameTable.split.Goals.{After-remove-before}
use Rattle.zp_kernel.proofs.frame_table.FrameTable.split.Goals as goal

-- the frames without the block
without : (c : After-remove-before) → frames_of c.remove-before.new.self.entries ≡ remove c.args.self.now c.args.frame
without c = removed _ _ _ c.args.frame (reordered _ _ _ c.self.view_is (λ q. c.reserve.ensures.entries.2 q)) c.remove-before.ensures.updates.0

pub returns-then-is_split-clause-split : goal.returns-then-is_split-clause-split
returns-then-is_split-clause-split c =
    c.can_split-is_split.ensures
    ∙ ap (λ fs. can_split fs c.args.frame c.args.held.now c.args.from c.args.pages) (without (goal.at.returns-then-is_split-clause-split c).After-remove-before)

pub returns-then-is_split-clause-after : goal.returns-then-is_split-clause-after
returns-then-is_split-clause-after c =
    let rest = remove c.args.self.now c.args.frame in
    c.put_left.ensures
    ∙ ap (λ fs. split fs c.args.frame c.args.held.now c.args.from c.args.pages) (without (goal.at.returns-then-is_split-clause-after c).After-remove-before)
    ∙ ap (λ b. cond b (split rest c.args.frame c.args.held.now c.args.from c.args.pages) rest) (sym c.if-is_split.true)

pub returns-else-is_split-clause-split : goal.returns-else-is_split-clause-split
returns-else-is_split-clause-split c =
    c.can_split-is_split.ensures
    ∙ ap (λ fs. can_split fs c.args.frame c.args.held.now c.args.from c.args.pages) (without (goal.at.returns-else-is_split-clause-split c).After-remove-before)

pub returns-else-is_split-clause-after : goal.returns-else-is_split-clause-after
returns-else-is_split-clause-after c =
    let rest = remove c.args.self.now c.args.frame in
    without (goal.at.returns-else-is_split-clause-after c).After-remove-before
    ∙ ap (λ b. cond b (split rest c.args.frame c.args.held.now c.args.from c.args.pages) rest) (sym c.if-is_split.false)
