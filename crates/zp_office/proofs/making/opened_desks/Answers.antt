use Rattle.std.proofs.Common.{List, [], ◌≡◌, All, map, ap, sym, subst, ◌∙◌}
use Rattle.zp_trace.proofs.HeaderLines.{header_is}
use Rattle.zp_office.specs.Desks.{DeskState, plain_desk}
use Rattle.zp_office.specs.Offices.{AreDesksOf}
use Rattle.zp_office.proofs.OpenedDesks.{desks_fit, desks_opened, desks_unworked}
use Rattle.zp_office.proofs.making.opened_desks.Goals as goal

pub opened-requires : goal.opened-requires
opened-requires c = header_is c.args.trace.now.header c.args.trace.now.commands c.requires

pub returns-clause-desks : goal.returns-clause-desks
returns-clause-desks c =
    ap (map plain_desk) c.in_ok-desks.ensures.desks
    ∙ desks_opened c.args.trace.now c.in_ok-zones.shares.items c.in_ok-zones.ensures.shares c.in_ok-zones.ensures.crew.workers

pub returns-clause-office : goal.returns-clause-office
returns-clause-office c =
    subst (AreDesksOf c.in_ok-zones.zones.items) (sym c.in_ok-desks.ensures.desks)
    (desks_fit c.args.trace.now c.in_ok-zones.zones.items c.in_ok-zones.shares.items c.requires c.in_ok-zones.ensures.few c.in_ok-zones.ensures.zones c.in_ok-zones.ensures.shares c.in_ok-zones.ensures.crew)

pub returns-clause-unworked : goal.returns-clause-unworked
returns-clause-unworked c =
    subst (λ (ds : List DeskState). All (λ (d : DeskState). d.replies ≡ []) ds) (sym c.in_ok-desks.ensures.desks)
    (desks_unworked c.args.trace.now c.in_ok-zones.shares.items)
