-- Zones and their journals, before and after the journals were replayed.
use Rattle.std.proofs.Common.{ℕ, ◌≡◌, ◌<◌, ◌∙◌, All, List, [], ◌∷◌, ◌++◌, length, map, take, drop, get_or, refl, sym, ap, ap₂, subst, arith, length-append}
use Rattle.std.proofs.lemmas.List.Elements.{All-cons}
use Rattle.std.specs.List.{AllZip}
use Rattle.std.proofs.lemmas.List.{length-map, map-append, take_all, take_more}
use Rattle.zp_model.specs.Entries.{Entry}
use Rattle.zp_model.specs.Zone.{PlainZone}
use Rattle.zp_model.specs.Run.{IsHistory, IsLegal, opening_of}
use Rattle.zp_text.specs.declared.verdict.Verdict.{Verdict}
use Rattle.zp_text.specs.declared.verdict.Verdict.TheVariants.{Legal, Differs}
use Rattle.zp_journal.proofs.FirstEntries.{not_legal}
use Rattle.zp_trace.specs.declared.line.ZoneLine.{ZoneLine}
use Rattle.zp_trace.specs.declared.trace.Trace.{Trace}
use Rattle.zp_zone.specs.NamedZone.{NamedZone}
use Rattle.zp_zone.specs.Seats.{ZoneState}
use Rattle.zp_journal.specs.Journals.{IsJournalOf, JournalState}
use Rattle.zp_share.specs.Shares.{named_zone}
use Rattle.zp_shared.proofs.Places.{zip_length, zip_more}
use Rattle.zp_office.specs.Offices.{OfficeState}
use Rattle.zp_office.specs.Opening.{declared_zone}
use Rattle.zp_replay.specs.Judging.{JudgedJournal, IsJudged, IsVerdict}
use Rattle.zp_replay.specs.Serving.{AreSections, IsHistoryOf, IsJudgedOffice, IsServed, as_made, entries_in, entries_judged}

-- the journals of zones that came out of their locks have all that was asked of the zones
pub histories_of : (zs : List ZoneState) (js : List JournalState) → AllZip IsJournalOf zs js → AllZip IsHistoryOf (map named_zone zs) (entries_in js)
histories_of [] [] zip = zip
histories_of [] (j ∷ js) zip = absurd zip
histories_of (z ∷ zs) [] zip = absurd zip
histories_of (z ∷ zs) (j ∷ js) zip =
    (subst (λ (es : List Entry). IsHistory z.plain es) (sym zip.0.entries) zip.0.history, histories_of zs js zip.1)

-- the journals of the lines so far, and one more
pub judged_more : (n : ℕ) (lines : List ZoneLine) (js : List JudgedJournal) (line : ZoneLine) (j : JudgedJournal) → length js < length lines → line ≡ get_or lines (length js) line →
    AllZip (IsJudged n) (take (length js) lines) js → IsJudged n line j → AllZip (IsJudged n) (take (length (js ++ j ∷ [])) lines) (js ++ j ∷ [])
judged_more n lines js line j lt is zip one =
    let more : take (length (js ++ j ∷ [])) lines ≡ take (length js) lines ++ line ∷ [] =
    ap (λ m. take m lines) (length-append js (j ∷ [])) ∙ take_more lines (length js) line lt ∙ ap (λ y. take (length js) lines ++ y ∷ []) (sym is) in
    subst (λ (ls : List ZoneLine). AllZip (IsJudged n) ls (js ++ j ∷ [])) (sym more) (zip_more (IsJudged n) (take (length js) lines) js line j zip one)

pub entries_more : (js : List JudgedJournal) (ks : List JournalState) (j : JudgedJournal) (k : JournalState) → entries_judged js ≡ entries_in ks → j.entries ≡ k.entries →
    entries_judged (js ++ j ∷ []) ≡ entries_in (ks ++ k ∷ [])
entries_more js ks j k e one =
    map-append (λ (x : JudgedJournal). x.entries) js (j ∷ [])
    ∙ ap₂ (λ l (es : List Entry). l ++ es ∷ []) e one
    ∙ sym (map-append (λ (x : JournalState). x.entries) ks (k ∷ []))

-- there are as many journals as zone lines
pub journals_many : (t : Trace) (o : OfficeState) (js : List JournalState) → IsServed t o → AllZip IsHistoryOf o.zones (entries_in js) → length js ≡ length t.header.zones
journals_many t o js served zip =
    sym (length-map js (λ (j : JournalState). j.entries))
    ∙ zip_length IsHistoryOf o.zones (entries_in js) zip
    ∙ sym (length-map o.zones as_made)
    ∙ ap length served.zones
    ∙ length-map t.header.zones (declared_zone t.header.workers)

-- what is found of entries that are legal is that they are
found_legal : (z : PlainZone) (es : List Entry) (v : Verdict) → IsVerdict z es v → IsLegal z es → v ≡ Legal
found_legal z es Legal found legal = refl
found_legal z es (Differs n) found legal =
    let whole : take (length es) es ≡ es = take_all (length es) es (omega arith) in
    absurd (not_legal z es (length es) n found.within found (record { within = omega arith; legal = subst (IsLegal z) (sym whole) legal }))

-- the journals of zones that were made as these lines declare are found legal
legal_verdicts : (n : ℕ) (zs : List NamedZone) (lines : List ZoneLine) (js : List JudgedJournal) → map as_made zs ≡ map (declared_zone n) lines → AllZip IsHistoryOf zs (entries_judged js) →
    AllZip (IsJudged n) lines js → All (λ (j : JudgedJournal). j.verdict ≡ Legal) js
legal_verdicts n zs lines [] made histories judged = λ k d lt. absurd (omega (arith, lt))
legal_verdicts n [] lines (j ∷ js) made histories judged = absurd histories
legal_verdicts n (z ∷ zs) [] (j ∷ js) made histories judged = absurd judged
legal_verdicts n (z ∷ zs) (l ∷ lines) (j ∷ js) made histories judged =
    let same : opening_of z.plain ≡ (declared_zone n l).plain = ap (λ (xs : List NamedZone). (get_or xs 0 z).plain) made in
    let rest : map as_made zs ≡ map (declared_zone n) lines = ap (drop 1) made in
    All-cons (λ (x : JudgedJournal). x.verdict ≡ Legal) j js
    (found_legal (declared_zone n l).plain j.entries j.verdict judged.0.verdict (subst (λ o. IsLegal o j.entries) same histories.0.legal))
    (legal_verdicts n zs lines js rest histories.1 judged.1)

-- the office of a trace with what was found of its journals
pub judged_office : (t : Trace) (o : OfficeState) (js : List JournalState) (ks : List JudgedJournal) → IsServed t o → AllZip IsHistoryOf o.zones (entries_in js) → AreSections o (entries_in js) →
    AllZip (IsJudged t.header.workers) t.header.zones ks → entries_judged ks ≡ entries_in js → IsJudgedOffice t o ks
judged_office t o js ks served zip sections judged same =
    let histories = subst (AllZip IsHistoryOf o.zones) (sym same) zip in
    record {
      served = served;
      histories = histories;
      sections = subst (AreSections o) (sym same) sections;
      legal = legal_verdicts t.header.workers o.zones t.header.zones ks served.zones histories judged;
      judged = judged;
    }
