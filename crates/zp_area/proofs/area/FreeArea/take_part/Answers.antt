use Rattle.std.proofs.Common.{◌∙◌, refl}
use Rattle.zp_area.proofs.Halving.{around_typed}
use Rattle.zp_area.proofs.area.FreeArea.take_part.Goals as goal

pub take_whole-requires : goal.take_whole-requires
take_whole-requires c = record {
  starts = rw c.head.ensures c.requires.block;
  typed = rw c.head.ensures (c.requires.typed ∙ around_typed c.args.self.now.largest c.args.self.now c.args.at c.args.from c.pages-pages.ensures.one c.requires.block);
  list = rw (c.list_of.ensures.number, c.pageblock_type.ensures) refl;
  front = λ e. absurd cc;
}
