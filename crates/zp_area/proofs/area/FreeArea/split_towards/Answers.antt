use Rattle.zp_area.proofs.Halving.{around_there}
use Rattle.zp_area.proofs.area.FreeArea.split_towards.Goals as goal

pub type_of-requires : goal.type_of-requires
type_of-requires c =
    rw (c.pageblock_of-pageblock.ensures, c.largest.ensures) (around_there c.args.self.now.largest c.args.self.now c.args.at c.args.from c.pages-pages.ensures.one c.requires.block)
