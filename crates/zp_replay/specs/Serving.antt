-- What has become of the office of a trace when its commands were carried out, in order or by all workers at the same time.
use Rattle.std.specs.Prelude.{ℕ, ◌≡◌, ◌<◌, ◌⊎◌, ◌++◌, All, Bool, List, [], Some, length, map, slice_get, Option}
use Rattle.std.specs.List.{AllZip}
use Rattle.zp_trace.specs.declared.line.CommandLine.{CommandLine}
use Rattle.zp_trace.specs.declared.trace.Trace.{Trace}
use Rattle.zp_streams.specs.Streams.{IsWritten, IsBegun}
use Rattle.zp_model.specs.Entries.{Entry}
use Rattle.zp_model.specs.Books.{made_by}
use Rattle.zp_model.specs.Run.{IsHistory, opening_of}
use Rattle.zp_zone.specs.NamedZone.{NamedZone}
use Rattle.zp_zone.specs.Seats.{ZoneState}
use Rattle.zp_journal.specs.Journals.{JournalState}
use Rattle.zp_office.specs.Desks.{DeskState, PlainDesk, IsAnswerTo}
use Rattle.zp_office.specs.Scripts.{script_of}
use Rattle.zp_share.specs.PlainShares.{PlainShare, PlainZoneShare, own_at}
use Rattle.zp_share.specs.Shares.{named_zone}
use Rattle.zp_share.specs.ZoneShares.{last_of}
use Rattle.zp_office.specs.Offices.{OfficeState, desk_of, in_order, opened_office, workers_in}
use Rattle.zp_text.specs.declared.verdict.Verdict.TheVariants.{Legal}
use Rattle.zp_replay.specs.Replaying.{AddUp, IsBadLineCut, IsTraceRead}
use Rattle.zp_replay.specs.Judging.{JudgedJournal, IsJudged, ending}
use Rattle.zp_replay.specs.Output.{output, report}

-- the office of a trace whose commands were carried out one after another
abbrev pub IsServedInOrder : Trace → OfficeState → Type 0
IsServedInOrder t o = o ≡ in_order (opened_office t) (workers_in t.commands)

-- a zone as it was made
abbrev pub as_made : NamedZone → NamedZone
as_made z = record { name = z.name; plain = opening_of z.plain }

-- a share's lists have these settings
pub record HasLists (batch high : ℕ) (s : PlainShare) : Type 0 where
  pub batch_is : s.batch ≡ batch
  pub high_is : s.high_len ≡ high

-- an office of a trace whose workers have each carried out their commands, whoever came first: the zones were made as the trace declares
-- them, the shares have its settings, and each command has its reply
pub record IsServed (t : Trace) (o : OfficeState) : Type 0 where
  pub zones : map as_made o.zones ≡ (opened_office t).zones
  pub workers : length o.desks ≡ t.header.workers
  pub lists : (w : ℕ) → w < t.header.workers → HasLists t.header.batch t.header.high (desk_of o w).share
  pub scripts : (w : ℕ) → w < t.header.workers → (desk_of o w).script ≡ script_of t w
  pub answers : (w : ℕ) → w < t.header.workers → AllZip (IsAnswerTo (length o.zones)) (script_of t w) (desk_of o w).replies

-- no command of the desk was carried out
abbrev pub IsUnworked : DeskState → Type 0
IsUnworked d = d.replies ≡ []

-- the desk's script was carried out: each command has its reply
pub record IsDeskServed (d : DeskState) (e : PlainDesk) : Type 0 where
  pub lists : HasLists d.share.batch d.share.high_len e.share
  pub script : e.script ≡ d.script
  pub answers : AllZip (IsAnswerTo (length d.share.zones)) d.script e.replies

-- these zones and desks, when all scripts were carried out
pub record IsOfficeServed (zs : List ZoneState) (ds : List DeskState) (o : OfficeState) : Type 0 where
  pub zones : map as_made o.zones ≡ map (λ (z : ZoneState). as_made (named_zone z)) zs
  pub desks : AllZip IsDeskServed ds o.desks

-- the sections of a share with a zone are its worker's entries in the zone's journal: as many, and the last of them the last
pub record AreSectionsOf (es : List Entry) (s : PlainZoneShare) : Type 0 where
  pub made : s.sections.made ≡ length (made_by s.worker es)
  pub last : s.sections.last ≡ last_of (made_by s.worker es)

-- so it is of the share of each desk and the journal of each zone
abbrev pub AreSections : OfficeState → List (List Entry) → Type 0
AreSections o js = (i : ℕ) (es : List Entry) → slice_get js i ≡ Some es → All (λ (d : PlainDesk). AreSectionsOf es (own_at d.share i)) o.desks

-- the entries are all that was asked of the zone since its opening
abbrev pub IsHistoryOf : NamedZone → List Entry → Type 0
IsHistoryOf z es = IsHistory z.plain es

-- the entries of each journal, and of each that was replayed
abbrev pub entries_in : List JournalState → List (List Entry)
entries_in js = map (λ (j : JournalState). j.entries) js

abbrev pub entries_judged : List JudgedJournal → List (List Entry)
entries_judged js = map (λ (j : JudgedJournal). j.entries) js

-- the input was the text of a trace, and the trace's output was written
pub record IsReplayed (had left old new : Option (List ℕ)) : Type 0 where
  pub trace : Trace
  pub read : IsTraceRead had left trace
  pub written : IsWritten old new (output trace)

-- an office whose workers have each carried out their commands, the journal of each of its zones, which has the sections of their shares, and
-- what its replay found: each is legal
pub record IsJudgedOffice (t : Trace) (o : OfficeState) (js : List JudgedJournal) : Type 0 where
  pub served : IsServed t o
  pub histories : AllZip IsHistoryOf o.zones (entries_judged js)
  pub sections : AreSections o (entries_judged js)
  pub legal : All (λ (j : JudgedJournal). j.verdict ≡ Legal) js
  pub judged : AllZip (IsJudged t.header.workers) t.header.zones js

-- what is written of it: the report, what was found of the journals, and their entries, where they are asked for
abbrev pub journaled_report : Bool → List CommandLine → OfficeState → List JudgedJournal → List ℕ
journaled_report entries cs o js = report o (workers_in cs) ++ ending entries js

-- all workers of the trace carried out their commands, and what is written of zones, desks and journals was written
pub record IsTraceReported (entries : Bool) (t : Trace) (old new : Option (List ℕ)) : Type 0 where
  pub office : OfficeState
  pub journals : List JudgedJournal
  pub served : IsJudgedOffice t office journals
  pub sums : AddUp office
  pub written : IsWritten old new (journaled_report entries t.commands office journals)

-- of what is written of such zones, desks and journals, a beginning was
pub record IsTraceReportBegun (entries : Bool) (t : Trace) (old new : Option (List ℕ)) : Type 0 where
  pub office : OfficeState
  pub journals : List JudgedJournal
  pub served : IsJudgedOffice t office journals
  pub begun : IsBegun old new (journaled_report entries t.commands office journals)

-- the input was the text of a trace, and its report was written
pub record IsReported (entries : Bool) (had left old new : Option (List ℕ)) : Type 0 where
  pub trace : Trace
  pub read : IsTraceRead had left trace
  pub report : IsTraceReported entries trace old new

-- of what was to be written a beginning was: of the trace's output, or of the number of the bad line
abbrev pub IsCutShort : Option (List ℕ) → Option (List ℕ) → Option (List ℕ) → Option (List ℕ) → Type 0
IsCutShort had left old new = ((t : Trace) × IsTraceRead had left t × IsBegun old new (output t)) ⊎ IsBadLineCut had left old new

-- and in threads: of the trace's report, or of the number of the bad line
abbrev pub IsReportCut : Bool → Option (List ℕ) → Option (List ℕ) → Option (List ℕ) → Option (List ℕ) → Type 0
IsReportCut entries had left old new = ((t : Trace) × IsTraceRead had left t × IsTraceReportBegun entries t old new) ⊎ IsBadLineCut had left old new
