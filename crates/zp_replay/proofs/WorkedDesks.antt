-- The zones and desks of an office whose scripts were carried out.
use Rattle.std.proofs.Common.{ℕ, zero, suc, ◌≡◌, ◌<◌, ◌∙◌, refl, sym, ap, subst, arith, List, [], ◌∷◌, Some, length, map, get_or, All}
use Rattle.std.specs.List.{AllZip, range_with_len, slice_get}
use Rattle.std.proofs.lemmas.Option.{slice_get_within}
use Rattle.std.proofs.lemmas.List.Elements.{All-map}
use Rattle.zp_model.specs.Entries.{Entry}
use Rattle.zp_journal.specs.Journals.{IsJournalOf, JournalState}
use Rattle.zp_share.specs.PlainShares.{own_at}
use Rattle.zp_share.specs.ZoneShares.{plain_share}
use Rattle.zp_share.proofs.Carrying.{own-plain}
use Rattle.std.proofs.lemmas.Simd.{map-map}
use Rattle.zp_model.specs.Zone.{workers_of}
use Rattle.zp_zone.specs.NamedZone.{NamedZone}
use Rattle.zp_zone.specs.Seats.{ZoneState}
use Rattle.zp_share.specs.Shares.{ZoneKey, IsShareOf, key_of, named_zone, opening_by, plain, share_at}
use Rattle.zp_office.specs.Desks.{DeskState, IsScriptFor, IsWorked, PlainDesk, plain_desk}
use Rattle.zp_office.specs.Runs.{HaveShare, HaveShares}
use Rattle.zp_office.specs.Offices.{AreDesksOf, office_of}
use Rattle.zp_share.proofs.Crews.{keys-length, keys-workers}
use Rattle.zp_replay.specs.Serving.{AreSections, AreSectionsOf, IsDeskServed, IsOfficeServed, as_made, entries_in}

front : {X : Type 0} (P : X → Type 0) (x : X) (xs : List X) → All P (x ∷ xs) → P x
front P x xs all = all zero x (omega arith)

back : {X : Type 0} (P : X → Type 0) (x : X) (xs : List X) → All P (x ∷ xs) → All P xs
back P x xs all k d lt = all (suc k) d (omega (arith, lt))

each : {X : Type 0} (P : X → Type 0) (x : X) (xs : List X) → P x → All P xs → All P (x ∷ xs)
each P x xs one all zero d lt = one
each P x xs one all (suc k) d lt = all k d (omega (arith, lt))

-- what holds of each desk before its work, and of each worked desk then, holds of each after it
worked_all : (P : DeskState → Type 0) (ds es : List DeskState) → ((d e : DeskState) → IsWorked d e → P d → P e) → AllZip IsWorked ds es → All P ds → All P es
worked_all P [] [] step zip all = all
worked_all P [] (e ∷ es) step zip all = absurd zip
worked_all P (d ∷ ds) [] step zip all = absurd zip
worked_all P (d ∷ ds) (e ∷ es) step zip all = each P e es (step d e zip.0 (front P d ds all)) (worked_all P ds es step zip.1 (back P d ds all))

pub worked_length : (ds es : List DeskState) → AllZip IsWorked ds es → length es ≡ length ds
worked_length [] [] zip = refl
worked_length [] (e ∷ es) zip = absurd zip
worked_length (d ∷ ds) [] zip = absurd zip
worked_length (d ∷ ds) (e ∷ es) zip = ap suc (worked_length ds es zip.1)

workers_stay : (ds es : List DeskState) → AllZip IsWorked ds es → map (λ (d : DeskState). d.share.worker) es ≡ map (λ (d : DeskState). d.share.worker) ds
workers_stay [] [] zip = refl
workers_stay [] (e ∷ es) zip = absurd zip
workers_stay (d ∷ ds) [] zip = absurd zip
workers_stay (d ∷ ds) (e ∷ es) zip =
    ap (λ w. w ∷ map (λ (x : DeskState). x.share.worker) es) zip.0.same.worker ∙ ap (λ ws. d.share.worker ∷ ws) (workers_stay ds es zip.1)

-- they are the desks of the zones that have the same keys
pub desks_worked : (zones new : List ZoneState) (ds es : List DeskState) → AreDesksOf zones ds → map key_of new ≡ map key_of zones → AllZip IsWorked ds es → AreDesksOf new es
desks_worked zones new ds es are keys zip =
    let long = worked_length ds es zip in
    record {
      few = omega (arith, keys-length zones new keys, are.few);
      fit =
          subst (λ ks. All (λ (d : DeskState). IsShareOf ks d.share) es) (sym keys)
          (worked_all (λ (d : DeskState). IsShareOf (map key_of zones) d.share) ds es (λ d e w fit. w.ties ∙ fit) zip are.fit);
      scripts =
          subst (λ ks. All (λ (d : DeskState). IsScriptFor ks d.script) es) (sym keys)
          (worked_all (λ (d : DeskState). IsScriptFor (map key_of zones) d.script) ds es (λ d e w fit. subst (IsScriptFor (map key_of zones)) (sym w.script) fit) zip are.scripts);
      workers = workers_stay ds es zip ∙ are.workers ∙ ap (λ n. range_with_len 0 n) (sym long);
      crew = subst (λ n. All (λ (z : ZoneState). workers_of z.plain ≡ n) new) (sym long) (keys-workers zones new (length ds) keys are.crew);
    }

desks_served : (ds es : List DeskState) → AllZip IsWorked ds es → AllZip IsDeskServed ds (map plain_desk es)
desks_served [] [] zip = zip
desks_served [] (e ∷ es) zip = absurd zip
desks_served (d ∷ ds) [] zip = absurd zip
desks_served (d ∷ ds) (e ∷ es) zip =
    (record { lists = record { batch_is = zip.0.same.batch; high_is = zip.0.same.high_len }; script = zip.0.script; answers = zip.0.answers }, desks_served ds es zip.1)

-- the journal at a place is that of the zone there
journal_there : (zs : List ZoneState) (js : List JournalState) (i : ℕ) (es : List Entry) → AllZip IsJournalOf zs js → slice_get (entries_in js) i ≡ Some es →
    (z : ZoneState) × (slice_get zs i ≡ Some z) × (es ≡ z.entries)
journal_there [] [] i es zip at = absurd (let lt : i < 0 = slice_get_within {A = List Entry} [] i es at in omega (arith, lt))
journal_there [] (j ∷ js) i es zip at = absurd zip
journal_there (z ∷ zs) [] i es zip at = absurd zip
journal_there (z ∷ zs) (j ∷ js) zero es zip at = (z, refl, (let here : j.entries ≡ es = cc in sym here) ∙ zip.0.entries)
journal_there (z ∷ zs) (j ∷ js) (suc i) es zip at = journal_there zs js i es zip.1 at

-- zones with the same keys have the same of all that a key says
keys_say : {X : Type 0} (part : ZoneKey → X) (zones new : List ZoneState) → map key_of new ≡ map key_of zones →
    map (λ (z : ZoneState). part (key_of z)) new ≡ map (λ (z : ZoneState). part (key_of z)) zones
keys_say part zones new keys = sym (map-map part key_of new) ∙ ap (map part) keys ∙ map-map part key_of zones

-- as a zone was made, its key says
made_by_key : ZoneKey → NamedZone
made_by_key k = record { name = k.name; plain = opening_by k }

pub office_served : (zones new : List ZoneState) (ds es : List DeskState) → map key_of new ≡ map key_of zones → AllZip IsWorked ds es → IsOfficeServed zones ds (office_of new es)
unfolding made_by_key
office_served zones new ds es keys zip =
    record {
      zones = map-map as_made named_zone new ∙ keys_say made_by_key zones new keys;
      desks = desks_served ds es zip;
    }

-- the entries of each worker are the sections of its share
pub sections_are : (zs : List ZoneState) (js : List JournalState) (ds : List DeskState) → AllZip IsJournalOf zs js → HaveShares zs ds → AreSections (office_of zs ds) (entries_in js)
sections_are zs js ds zip agree i es at =
    All-map (λ (d : PlainDesk). AreSectionsOf es (own_at d.share i)) plain_desk ds (λ k d lt. one (get_or ds k d) (agree k d lt))
  where
    one : (d : DeskState) → HaveShare zs d → AreSectionsOf es (own_at (plain d.share) i)
    one d have =
        let there = journal_there zs js i es zip at in
        let z : ZoneState = there.0 in
        let s = have i z there.1 in
        subst (AreSectionsOf es) (sym (own-plain d.share i))
        (subst (λ l. AreSectionsOf l (plain_share (share_at d.share i))) (sym there.2) (record { made = s.sections; last = s.last }))
