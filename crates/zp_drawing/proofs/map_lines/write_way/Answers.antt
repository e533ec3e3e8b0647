use Rattle.std.proofs.Common.{◌≡◌, ◌+◌, ◌-◌, ◌^◌, min, arith}
use Rattle.zp_drawing.proofs.Written.{OnOk-then}
use Rattle.zp_drawing.proofs.map_lines.write_way.Goals as goal

-- the run that is told is the one that was found
pub returns-clause-way : goal.returns-clause-way
returns-clause-way g c = λ fits.
    let before = g.W.Write.contents c.args.writer.now in
    let after = g.W.Write.contents c.write_run.new.writer in
    let row = c.args.row.now in
    let place = c.in-Some.place in
    let pages : place + c.pages.result - place ≡ 2 ^ c.args.order = omega (arith, c.pages.ensures.pages) in
    let from : c.saturating_add-from.result ≡ min (c.args.first + place) (2 ^ 64 - 1) = omega (arith, c.saturating_add-from.ensures, c.from.ensures) in
    OnOk-then
    _
    _
    c.write_run.result
    (λ told. record {
      place = place;
      least = c.in-Some.ensures.least;
      told = rw (pages, from) at told;
    })
    c.write_run.ensures
