use Rattle.std.proofs.Common.{◌≡◌, ◌∙◌, sym, ap, subst, List, take, drop, ◌++◌, length}
use Rattle.std.specs.List.{AllZip}
use Rattle.zp_office.specs.Desks.{DeskState, IsWorked}
use Rattle.zp_office.specs.Offices.{AreDesksOf, OfficeState, office_of}
use Rattle.zp_replay.specs.Serving.{AreSections, IsHistoryOf, IsOfficeServed, entries_in}
use Rattle.zp_replay.proofs.Histories.{histories_of}
use Rattle.zp_replay.proofs.WorkedDesks.{desks_worked, office_served, sections_are, worked_length}
use Rattle.zp_model.proofs.RowLists.{written_back}
use Rattle.zp_replay.proofs.threads.serve.Goals as goal

pub new-requires : goal.new-requires
new-requires g c =
    let ds = c.args.desks.items in
    let es = c.run_zones.new.desks in
    let zip : AllZip IsWorked ds es = subst (λ (xs : List DeskState). AllZip IsWorked xs es) c.deref_mut.ensures.value c.in-Ok.ensures.worked in
    let back : take c.args.desks.len (es ++ drop (length es) ds) ≡ es = written_back es ds c.args.desks.len (worked_length ds es zip) c.args.desks.ok.0 in
    subst (λ (xs : List DeskState). AreDesksOf c.in-Ok.closed.zones.items xs) (sym back)
    (desks_worked c.args.zones.items c.in-Ok.closed.zones.items ds es c.requires.desks c.in-Ok.ensures.keys zip)

pub returns-in-Ok-clause-office : goal.returns-in-Ok-clause-office
returns-in-Ok-clause-office g c =
    let ds = c.args.desks.items in
    let es = c.run_zones.new.desks in
    let zip : AllZip IsWorked ds es = subst (λ (xs : List DeskState). AllZip IsWorked xs es) c.deref_mut.ensures.value c.in-Ok.ensures.worked in
    let back : take c.args.desks.len (es ++ drop (length es) ds) ≡ es = written_back es ds c.args.desks.len (worked_length ds es zip) c.args.desks.ok.0 in
    subst (λ (o : OfficeState). IsOfficeServed c.args.zones.items ds o)
    (sym (c.new.ensures ∙ ap (λ (xs : List DeskState). office_of c.in-Ok.closed.zones.items xs) back))
    (office_served c.args.zones.items c.in-Ok.closed.zones.items ds es c.in-Ok.ensures.keys zip)

pub returns-in-Ok-clause-journals : goal.returns-in-Ok-clause-journals
returns-in-Ok-clause-journals g c =
    subst (λ (o : OfficeState). AllZip IsHistoryOf o.zones (entries_in c.in-Ok.closed.journals.items)) (sym c.new.ensures)
    (histories_of c.in-Ok.closed.zones.items c.in-Ok.closed.journals.items c.in-Ok.ensures.journals)

pub returns-in-Ok-clause-sections : goal.returns-in-Ok-clause-sections
returns-in-Ok-clause-sections g c =
    let ds = c.args.desks.items in
    let es = c.run_zones.new.desks in
    let zip : AllZip IsWorked ds es = subst (λ (xs : List DeskState). AllZip IsWorked xs es) c.deref_mut.ensures.value c.in-Ok.ensures.worked in
    let back : take c.args.desks.len (es ++ drop (length es) ds) ≡ es = written_back es ds c.args.desks.len (worked_length ds es zip) c.args.desks.ok.0 in
    subst (λ (o : OfficeState). AreSections o (entries_in c.in-Ok.closed.journals.items))
    (sym (c.new.ensures ∙ ap (λ (xs : List DeskState). office_of c.in-Ok.closed.zones.items xs) back))
    (sections_are c.in-Ok.closed.zones.items c.in-Ok.closed.journals.items es c.in-Ok.ensures.journals c.in-Ok.ensures.agree)
