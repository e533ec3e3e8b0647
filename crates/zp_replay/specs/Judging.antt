-- What the replays of a trace's journals find, and what is written of it.
use Rattle.std.specs.Prelude.{ℕ, ◌≡◌, ◌++◌, Bool, List, [], length, cond}
use Rattle.std.specs.List.{flat_map}
use Rattle.zp_model.specs.Entries.{Entry}
use Rattle.zp_model.specs.Zone.{PlainZone}
use Rattle.zp_model.specs.Run.{IsLegal}
use Rattle.zp_trace.specs.declared.line.ZoneLine.{ZoneLine}
use Rattle.zp_journal.specs.declared.replay.JournalCheck.{JournalCheck}
use Rattle.zp_journal.specs.declared.replay.JournalCheck.TheVariants as check
use Rattle.zp_journal.specs.Journals.{IsFirstIllegal}
use Rattle.zp_text.specs.declared.verdict.Verdict.{Verdict}
use Rattle.zp_text.specs.declared.verdict.Verdict.TheVariants.{Legal, Differs}
use Rattle.zp_text.specs.JournalText.{journal_text, verdict_line}
use Rattle.zp_office.specs.Opening.{declared_zone}

-- a zone's journal, under the zone's name, with what its replay found
pub record JudgedJournal : Type 0 where
  pub name : List ℕ
  pub entries : List Entry
  pub verdict : Verdict

-- what a replay found, without the zone that it made
abbrev pub verdict_in : JournalCheck → Verdict
verdict_in (check.Legal y) = Legal
verdict_in (check.Differs n) = Differs n

-- all entries are legal from this zone on, or the first that is not has this number
abbrev pub IsVerdict : PlainZone → List Entry → Verdict → Type 0
IsVerdict z es Legal = IsLegal z es
IsVerdict z es (Differs n) = IsFirstIllegal z es n

-- the journal is that of the zone which this line declares, for so many workers, and was replayed from its opening
pub record IsJudged (workers : ℕ) (line : ZoneLine) (j : JudgedJournal) : Type 0 where
  pub name : j.name ≡ line.name
  pub verdict : IsVerdict (declared_zone workers line).plain j.entries j.verdict

-- the line of what was found, and the lines of the entries
abbrev pub judged_verdict : JudgedJournal → List ℕ
judged_verdict j = verdict_line j.name (length j.entries) j.verdict

abbrev pub judged_text : JudgedJournal → List ℕ
judged_text j = journal_text j.name j.entries

-- what is written of the journals: what was found of each, and then all entries, where they are asked for
abbrev pub ending : Bool → List JudgedJournal → List ℕ
ending entries js = flat_map judged_verdict js ++ cond entries (flat_map judged_text js) []
