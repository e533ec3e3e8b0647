-- A journal run from where it began gives the zone that made it.
use Rattle.std.proofs.Common.{◌≡◌, refl, ◌∙◌, ap, List, [], ◌∷◌}
use Rattle.zp_model.specs.Entries.{Entry}
use Rattle.zp_model.specs.Zone.{PlainZone}
use Rattle.zp_model.specs.Step.{step}
use Rattle.zp_model.specs.Run.{run, IsLegal}
use Rattle.zp_laws.specs.Journals.{Asked, asked_all, MayAskAll, journal, asked_in, IsReplayed}

journal_runs : (z : PlainZone) (qs : List Asked) → run z (journal z qs) ≡ asked_all z qs
journal_runs z [] = refl
journal_runs z (q ∷ qs) = journal_runs (step z q.worker q.request).zone qs

journal_legal : (z : PlainZone) (qs : List Asked) → MayAskAll z qs → IsLegal z (journal z qs)
journal_legal z [] m = m
journal_legal z (q ∷ qs) m = ((m.0, refl), journal_legal (step z q.worker q.request).zone qs m.1)

pub journal_replays : (z : PlainZone) (qs : List Asked) → IsReplayed z qs
journal_replays z qs = record { same = journal_runs z qs; legal = journal_legal z qs }

pub history_journal : (z : PlainZone) (es : List Entry) → IsLegal z es → journal z (asked_in es) ≡ es
history_journal z [] l = refl
history_journal z (e ∷ es) l =
    let ih : journal (step z e.worker e.request).zone (asked_in es) ≡ es = history_journal (step z e.worker e.request).zone es l.1 in
    ap (λ r. (let x : Entry = record { worker = e.worker; request = e.request; reply = r } in x) ∷ journal (step z e.worker e.request).zone (asked_in es)) (l.0).1
    ∙ ap (λ js. e ∷ js) ih
