use Rattle.std.proofs.Common.{◌∙◌, ap, sym}
use Rattle.zp_model.specs.Books.{has_run}
use Rattle.zp_model.specs.Runs.{may_free_run}
use Rattle.zp_laws.proofs.RunsHeld.{run-lent}
use Rattle.zp_zone.specs.Seats.{ZoneState, books}
use Rattle.zp_zone.proofs.zone.Zone.run_held_by.Goals as goal

pub returns-clause-has : goal.returns-clause-has
returns-clause-has c = λ agrees.
    c.holds_run.ensures
    ∙ ap (λ w. may_free_run c.self.inside.untied.plain w c.args.page c.args.pages) c.worker.ensures
    ∙ ap (λ (z : ZoneState). may_free_run z.plain c.args.seat.now.worker c.args.page c.args.pages) c.self.view_is
    ∙ sym (run-lent c.args.seat.now.worker (books c.args.self.now) (rw (← c.self.view_is) c.lawful.ensures) c.args.page c.args.pages)
    ∙ ap (λ x. has_run c.args.seat.now.worker x c.args.page c.args.pages) (sym agrees)
