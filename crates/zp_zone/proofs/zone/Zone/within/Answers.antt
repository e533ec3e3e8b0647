use Rattle.std.proofs.Common.{sym, ap, ◌∙◌, refl, List, []}
use Rattle.std.proofs.lemmas.List.{length-replicate}
use Rattle.zp_model.specs.Books.{Books, opened}
use Rattle.zp_model.specs.Zone.{PostedBlock}
use Rattle.zp_laws.proofs.Histories.{opening_history}
use Rattle.zp_tie.specs.Ties.{Kept}
use Rattle.zp_zone.specs.NamedZone.{NamedZone}
use Rattle.zp_zone.proofs.NewSeats.{seats_fit, seats_unused}
use Rattle.zp_zone.proofs.zone.Zone.within.Goals as goal

pub returns-clause-fits : goal.returns-clause-fits
returns-clause-fits c =
    seats_fit c.begin.new.self.tie _ _ c.begin.new.self.whole c.args.workers (sym (ap (λ (k : Kept Books). k.tie) c.in-Ok-seats.ensures.dealt)) c.in-Ok-seats.ensures.seats

pub returns-clause-unused : goal.returns-clause-unused
returns-clause-unused c =
    seats_unused c.begin.new.self.tie _ c.args.config.largest c.args.config.base c.args.config.pages c.args.config.min c.args.workers c.args.workers c.begin.new.self.whole
    (ap (λ (k : Kept Books). k.whole) c.begin.ensures ∙ ap (λ (n : NamedZone). opened n.plain) c.in_ok-untied.ensures.zone) c.in-Ok-seats.ensures.seats

pub invariant_of-result : goal.invariant_of-result
invariant_of-result c =
    rw (c.in-Ok-seats.ensures.dealt, c.begin.ensures, c.in_ok-untied.ensures.zone)
    (refl, (sym (length-replicate {A = List PostedBlock} c.args.workers []), opening_history c.args.config.largest c.args.config.base c.args.config.pages c.args.config.min c.args.workers))
