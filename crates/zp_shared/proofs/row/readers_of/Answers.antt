use Rattle.std.proofs.Common.{◌≡◌, map, subst, sym, arith}
use Rattle.std.proofs.lemmas.Grind.{common_steps}
use Rattle.zp_shared.specs.Rows.{AreReadersOf, opened_board, opened_key, opened_reader}
use Rattle.zp_shared.proofs.Opening.{readers_fit}
use Rattle.zp_shared.proofs.row.readers_of.Goals as goal

pub returns-clause-fit : goal.returns-clause-fit
returns-clause-fit g c =
    let os = c.args.opened.now in
    let all : c.loop-zone.readers.items ≡ map opened_reader os = grind (arith, common_steps) in
    subst (AreReadersOf (map opened_key os) (map opened_board os)) (sym all) (readers_fit os)
