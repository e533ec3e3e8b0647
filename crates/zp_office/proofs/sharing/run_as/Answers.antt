use Rattle.std.proofs.Common.{◌≡◌, ◌∙◌, ap, sym, length, arith}
use Rattle.std.proofs.lemmas.List.{length-map}
use Rattle.zp_shared.specs.Rows.{opened_key}
use Rattle.zp_shared.proofs.Places.{row_length}
use Rattle.zp_shared.proofs.Readers.{rows_fit}
use Rattle.zp_office.proofs.sharing.run_as.Goals as goal

pub close_zones-requires-clause-room : goal.close_zones-requires-clause-room
close_zones-requires-clause-room g c =
    let row = c.in_ok-row.row.items in
    let opened = c.args.opened.items in
    let many : length row ≡ length opened = row_length g.J.Naming.zones row c.in_ok-row.ensures.row ∙ ap length (sym c.requires.keys) ∙ length-map opened opened_key in
    (omega (arith, many, c.requires.room.0), omega (arith, many, c.requires.room.1))

pub close_zones-requires-clause-readers : goal.close_zones-requires-clause-readers
close_zones-requires-clause-readers g c = rows_fit g.J.Naming.zones g.J.Naming.boards _ _ c.run_workers.ensures.readers
