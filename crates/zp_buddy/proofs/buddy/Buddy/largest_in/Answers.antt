use Rattle.std.proofs.Common.{◌*◌, ap, ◌∙◌}
use Rattle.zp_model.specs.Area.{pageblock_pages}
use Rattle.zp_model.specs.BlockSet.{largest_in}
use Rattle.zp_area.specs.Blocks.{block_set}
use Rattle.zp_buddy.proofs.Settled.{set_maximal}
use Rattle.zp_buddy.proofs.buddy.Buddy.largest_in.Goals as goal

pub returns : goal.returns
returns c =
    let a = c.self.inside.area in
    rw (← c.self.view_is) (c.largest_in.ensures.answer ∙ ap (λ s. largest_in s (c.args.pageblock * pageblock_pages a.largest) a.largest) (set_maximal a.largest (block_set a) c.self.invariant.sound.normal))
