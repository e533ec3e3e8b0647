use Rattle.std.proofs.Common.{◌<◌, ◌∙◌, sym, ap, subst, ◌/◌}
use Rattle.std.proofs.lemmas.Bool.{false≢true}
use Rattle.zp_model.specs.Area.{pageblock_pages, pageblocks_of}
use Rattle.zp_model.specs.Zone.{pages_of}
use Rattle.zp_model.proofs.Heads.{number_lt}
use Rattle.zp_view.proofs.tables.is_in_kind.Goals as goal

pub unreachable-requires : goal.unreachable-requires
unreachable-requires c =
    let pages = c.pageblock_pages.ensures.pages ∙ ap pageblock_pages c.largest.ensures in
    let lt = number_lt (pages_of c.args.zone.now.plain) c.args.place c.args.zone.now.plain.area.largest c.requires in
    false≢true (c.in-None.ensures.when.1 (subst (λ p. c.args.place / p < pageblocks_of c.args.zone.now.plain.area.largest (pages_of c.args.zone.now.plain)) (sym pages) lt))
