-- What workers ask of a zone one after the other, and the journal of it.
use Rattle.std.specs.Prelude.{ℕ, ◌≡◌, List, [], ◌∷◌, ◌++◌}
use Rattle.zp_model.specs.Entries.{Entry}
use Rattle.zp_model.specs.declared.request.Request.{Request}
use Rattle.zp_model.specs.Zone.{PlainZone, zone_opening}
use Rattle.zp_model.specs.Step.{step}
use Rattle.zp_model.specs.Run.{IsDefined, run, IsLegal, IsHistory}
use Rattle.zp_model.specs.Books.{entry_of}

-- a worker's request
pub record Asked : Type 0 where
  pub worker : ℕ
  pub request : Request

-- the zone after all of it
abbrev pub asked_all : PlainZone → List Asked → PlainZone
asked_all z [] = z
asked_all z (q ∷ qs) = asked_all (step z q.worker q.request).zone qs

-- each of them could be asked where it was
abbrev pub MayAskAll : PlainZone → List Asked → Type 0
MayAskAll z [] = Unit {0}
MayAskAll z (q ∷ qs) =
    IsDefined z q.worker q.request × MayAskAll (step z q.worker q.request).zone qs

-- an entry for each of them, with the reply that it had
abbrev pub journal : PlainZone → List Asked → List Entry
journal z [] = []
journal z (q ∷ qs) =
    record { worker = q.worker; request = q.request; reply = (step z q.worker q.request).reply } ∷ journal (step z q.worker q.request).zone qs

-- a journal that is run from where it began gives the zone that made it, and it is legal there
pub record IsReplayed (z : PlainZone) (qs : List Asked) : Type 0 where
  pub same : run z (journal z qs) ≡ asked_all z qs
  pub legal : MayAskAll z qs → IsLegal z (journal z qs)

abbrev pub JournalsReplay : Type 0
JournalsReplay = (z : PlainZone) (qs : List Asked) → IsReplayed z qs

-- and a legal history is the journal of its own requests: no other replies would be legal
abbrev pub asked_in : List Entry → List Asked
asked_in [] = []
asked_in (e ∷ es) = record { worker = e.worker; request = e.request } ∷ asked_in es

abbrev pub LegalHistoriesAreJournals : Type 0
LegalHistoriesAreJournals = (z : PlainZone) (es : List Entry) → IsLegal z es → journal z (asked_in es) ≡ es

-- a zone as it was made has the empty history
abbrev pub HistoriesBegin : Type 0
HistoriesBegin = (m base pages min workers : ℕ) → IsHistory (zone_opening m base pages min workers) []

-- and with the entry of each request that is defined, a zone's history is the history of what the request leaves
abbrev pub HistoriesGoOn : Type 0
HistoriesGoOn =
    (z : PlainZone) (es : List Entry) (w : ℕ) (r : Request) → IsHistory z es → IsDefined z w r →
    IsHistory (step z w r).zone (es ++ entry_of z w r ∷ [])
