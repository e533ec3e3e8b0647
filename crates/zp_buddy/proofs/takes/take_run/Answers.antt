use Rattle.std.proofs.Common.{sym, ◌∙◌}
use Rattle.zp_buddy.proofs.Choosing.{own_fronts}
use Rattle.zp_buddy.proofs.FirstTaken.{first_run}
use Rattle.zp_buddy.proofs.Runs.{run_one}
use Rattle.zp_buddy.proofs.takes.take_run.Goals as goal

pub returns-in-Some : goal.returns-in-Some
returns-in-Some c =
    let f = c.in-Some.ensures.some in
    first_run c.args.area.now c.take_first_pages.new.self c.args.kind c.args.most c.in-Some.found.0 f.0 c.in-Some.found.1 c.requires.some c.requires.sound c.pages-pages.ensures.one f.1

pub take_foreign-requires-clause-own : goal.take_foreign-requires-clause-own
take_foreign-requires-clause-own c =
    let none = c.in_default.ensures.none in
    rw (none.1, c.zero.ensures) (sym (own_fronts c.args.area.now.largest c.args.area.now 0 c.args.kind) ∙ none.0)

pub returns : goal.returns
returns c =
    let none = c.in_default.ensures.none in
    run_one c.args.area.now c.take_foreign.new.area c.args.kind c.args.most c.in_ok-head.head c.requires.some (sym (own_fronts c.args.area.now.largest c.args.area.now 0 c.args.kind) ∙ none.0)
    (rw (none.1, c.zero.ensures) at c.in_ok-head.ensures)
