use Rattle.std.proofs.Common.{◌≡◌, ◌∙◌, ◌++◌, All, List, ap, sym, subst, length, map, take, drop}
use Rattle.std.specs.Prelude.{replicate}
use Rattle.std.specs.List.{AllZip}
use Rattle.std.proofs.lemmas.List.{length-map}
use Rattle.zp_counts.specs.CountBoards.{BoardState}
use Rattle.zp_journal.specs.Journals.{IsJournalOf}
use Rattle.zp_share.specs.Shares.{IsShareOf, key_of}
use Rattle.zp_shared.specs.Rows.{HaveReadZones, IsLegalBy, OpenedState, opened_board}
use Rattle.zp_office.specs.Desks.{DeskState, IsReady}
use Rattle.zp_office.specs.Runs.{HaveShares}
use Rattle.zp_office.proofs.HandedBack.{rooms_same, worked_fit}
use Rattle.zp_office.proofs.sharing.run_zones.Given.{Over}
use Rattle.zp_model.proofs.RowLists.{written_back}
use Rattle.zp_shared.proofs.Opening.{keys_back}
use Rattle.zp_office.proofs.Running.{rows_lent}
use Rattle.zp_office.proofs.sharing.run_zones.Goals as goal

pub run_as-requires-clause-readers : goal.run_as-requires-clause-readers
run_as-requires-clause-readers g c κs within =
    let os = c.in_ok-opened.opened in
    let lent = c.reader_rows.new.opened in
    let here : c.deref_mut.result.now ≡ os.items = c.deref_mut.ensures.value in
    let back : take os.len (lent ++ drop (length lent) os.items) ≡ os.items =
    let same = c.reader_rows.ensures.same ∙ here in written_back lent os.items os.len (ap length same) os.ok.0 ∙ same in
    rows_lent c.deref_mut.result.now _ c.in_ok-readers.readers.items _ c.args.desks.now (back ∙ sym here) c.deref_mut-2.ensures.value c.in_ok-readers.ensures.fit c.in_ok-readers.ensures.many

pub run_as-requires-clause-ready : goal.run_as-requires-clause-ready
run_as-requires-clause-ready g c κs within =
    let os = c.in_ok-opened.opened in
    let same = c.reader_rows.ensures.same ∙ c.deref_mut.ensures.value in
    let keys = keys_back os.items c.reader_rows.new.opened os.len c.args.zones.items same os.ok.0 c.in_ok-opened.ensures.zones in
    subst (λ k. All (IsReady k) c.args.desks.now) (sym keys) c.requires.ready

pub check_desks-requires : goal.check_desks-requires
check_desks-requires g c =
    let os = c.in_ok-opened.opened in
    let same = c.reader_rows.ensures.same ∙ c.deref_mut.ensures.value in
    let keys = keys_back os.items c.reader_rows.new.opened os.len c.args.zones.items same os.ok.0 c.in_ok-opened.ensures.zones in
    let now : map key_of c.deref_mut-3.result.now ≡ map key_of c.args.zones.items = ap (map key_of) c.deref_mut-3.ensures.value ∙ c.in_ok-zones.ensures.keys ∙ keys in
    subst (λ ks. All (λ (d : DeskState). IsShareOf ks d.share) c.run_as.new.desks) (sym now) (worked_fit (map key_of c.args.zones.items) c.args.desks.now c.run_as.new.desks c.requires.ready c.in_ok-zones.ensures.worked)

-- the zones are as they came back
zones_back : (g : Over) (c : goal.After-desks-2-1 g) →
    take c.in_ok-zones.zones.len (c.check_desks.new.zones ++ drop (length c.check_desks.new.zones) c.in_ok-zones.zones.items) ≡ c.in_ok-zones.zones.items
zones_back g c =
    let same = c.check_desks.ensures.zones ∙ c.deref_mut-3.ensures.value in
    written_back c.check_desks.new.zones c.in_ok-zones.zones.items c.in_ok-zones.zones.len (ap length same) c.in_ok-zones.zones.ok.0 ∙ same

keys_were : (g : Over) (c : goal.After-desks-2-1 g) → map key_of c.in_ok-zones.zones.items ≡ map key_of c.args.zones.items
keys_were g c =
    let os = c.in_ok-opened.opened in
    let same = c.reader_rows.ensures.same ∙ c.deref_mut.ensures.value in
    c.in_ok-zones.ensures.keys ∙ keys_back os.items c.reader_rows.new.opened os.len c.args.zones.items same os.ok.0 c.in_ok-opened.ensures.zones

pub returns-clause-keys : goal.returns-clause-keys
returns-clause-keys g c = ap (map key_of) (zones_back g c) ∙ keys_were g c

pub returns-clause-legal : goal.returns-clause-legal
returns-clause-legal g c =
    let os = c.in_ok-opened.opened in
    let same = c.reader_rows.ensures.same ∙ c.deref_mut.ensures.value in
    subst (λ ks. AllZip IsLegalBy ks c.in_ok-zones.journals.items) (keys_back os.items c.reader_rows.new.opened os.len c.args.zones.items same os.ok.0 c.in_ok-opened.ensures.zones) c.in_ok-zones.ensures.legal

pub returns-clause-rooms : goal.returns-clause-rooms
returns-clause-rooms g c =
    let os = c.in_ok-opened.opened in
    let same = c.reader_rows.ensures.same ∙ c.deref_mut.ensures.value in
    let back = written_back c.reader_rows.new.opened os.items os.len (ap length same) os.ok.0 ∙ same in
    let many : length os.items ≡ length c.args.zones.items = sym (length-map os.items (λ (o : OpenedState). o.zone)) ∙ ap length c.in_ok-opened.ensures.zones in
    c.in_ok-zones.ensures.rooms
    ∙ ap (λ (l : List OpenedState). map (λ (b : BoardState). b.capacity) (map opened_board l)) back
    ∙ rooms_same os.items c.args.capacity c.in_ok-opened.ensures.capacity
    ∙ ap (λ n. replicate n c.args.capacity) many

pub returns-clause-journals : goal.returns-clause-journals
returns-clause-journals g c = subst (λ zs. AllZip IsJournalOf zs c.in_ok-zones.journals.items) (sym (zones_back g c)) c.in_ok-zones.ensures.journals

pub returns-clause-agree : goal.returns-clause-agree
returns-clause-agree g c =
    subst (λ zs. HaveShares zs c.check_desks.new.desks) (c.deref_mut-3.ensures.value ∙ sym (zones_back g c))
    (subst (HaveShares c.deref_mut-3.result.now) (sym c.check_desks.ensures.desks) c.check_desks.ensures.agree)

pub returns-clause-read : goal.returns-clause-read
returns-clause-read g c =
    let rs = c.in_ok-readers.readers in
    let many : length c.run_as.new.readers ≡ length rs.items = c.run_as.auto.readers ∙ ap length c.deref_mut-2.ensures.value in
    let back = written_back c.run_as.new.readers rs.items rs.len many rs.ok.0 in
    subst (λ zs. All (HaveReadZones zs) (take rs.len (c.run_as.new.readers ++ drop (length c.run_as.new.readers) rs.items))) (sym (zones_back g c))
    (subst (All (HaveReadZones c.in_ok-zones.zones.items)) (sym back) c.in_ok-zones.ensures.read)
