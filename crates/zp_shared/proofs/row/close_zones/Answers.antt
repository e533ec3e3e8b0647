use Rattle.std.proofs.Common.{ℕ, ◌≡◌, ◌+◌, ◌++◌, [], ◌∷◌, All, ap, ap₂, append-nil, append_assoc, arith, length, length-append, map, subst, sym, ◌∙◌}
use Rattle.std.specs.List.{AllZip}
use Rattle.std.proofs.lemmas.Grind.{common_steps}
use Rattle.std.proofs.lemmas.List.{map-append}
use Rattle.zp_counts.specs.CountBoards.{BoardState}
use Rattle.zp_journal.specs.Journals.{IsJournalOf, JournalState}
use Rattle.zp_share.specs.Shares.{key_of}
use Rattle.zp_shared.specs.Rows.{HaveReadZones, IsLegalBy, board_at, key_at}
use Rattle.zp_shared.proofs.Places.{boards_at_places, keys_at_places, legal_by_keys, place_next, zip_more}
use Rattle.zp_shared.proofs.Readers.{none_read, rows_fit, rows_read_more, rows_same, rows_trans}
use Rattle.zp_shared.proofs.row.close_zones.Goals as goal

pub loop-shared-init : goal.loop-shared-init
loop-shared-init g c =
    let zones = c.requires.empty.0 in
    let journals = c.requires.empty.1 in
    record {
      keys = ap (map key_of) zones;
      journals = subst (λ zs. AllZip IsJournalOf zs c.args.journals.items) (sym zones) (subst (AllZip IsJournalOf []) (sym journals) tt);
      rooms = ap (map (λ (j : JournalState). j.capacity)) journals;
      read = subst (λ zs. All (HaveReadZones zs) c.args.readers.now) (sym zones) (none_read c.args.readers.now);
      kept = rows_same g.J.Naming.zones g.J.Naming.boards c.args.readers.now c.requires.readers;
      zones_many = ap length zones;
      journals_many = ap length journals;
      whole = grind (arith, common_steps);
      zone_room = c.requires.room.0;
      journal_room = c.requires.room.1;
    }

pub close_with-requires-clause-readers : goal.close_with-requires-clause-readers
close_with-requires-clause-readers g c = rows_fit g.J.Naming.zones g.J.Naming.boards _ _ c.loop-shared.invariant.kept

pub returns-in_err-zone-clause-readers : goal.returns-in_err-zone-clause-readers
returns-in_err-zone-clause-readers g c = rows_trans g.J.Naming.zones g.J.Naming.boards _ _ _ c.loop-shared.invariant.kept c.close_with.ensures.readers

pub loop-shared-preserved : goal.loop-shared-preserved
loop-shared-preserved g c =
    let i = c.loop-shared.invariant in
    let ys = c.loop-shared.yielded in
    let y = c.in-Some.shared in
    let zone = c.in_ok-zone.zone in
    let journal = c.in_ok-zone.journal in
    let made = c.in_ok-zone.ensures in
    let p = c.push_reserved.ensures in
    let q = c.push_reserved-in-loop-shared.ensures in
    let one : length (ys ++ y ∷ []) ≡ length ys + 1 = length-append ys (y ∷ []) in
    let room : JournalState → ℕ = λ j. j.capacity in
    let capacity : BoardState → ℕ = λ b. b.capacity in
    let whole : (ys ++ y ∷ []) ++ c.next.new.self.rest.items ≡ c.args.row.items =
    append_assoc ys (y ∷ []) c.next.new.self.rest.items ∙ ap (λ r. ys ++ r) (sym c.in-Some.ensures.steps.0) ∙ i.whole in
    let next = place_next (length g.J.Naming.zones) y ys c.next.new.self.rest.items (sym (append_assoc ys (y ∷ []) c.next.new.self.rest.items) ∙ whole ∙ c.requires.row) in
    record {
      keys =
          ap (map key_of) p.items
          ∙ map-append key_of c.loop-shared.zones.items (zone ∷ [])
          ∙ ap₂ (λ l k. l ++ k ∷ []) i.keys made.key
          ∙ sym (map-append (key_at g.J.Naming.zones) ys (y ∷ []));
      journals =
          subst (λ zs. AllZip IsJournalOf zs c.push_reserved-in-loop-shared.new.self.items) (sym p.items)
          (subst (λ js. AllZip IsJournalOf (c.loop-shared.zones.items ++ zone ∷ []) js) (sym q.items)
          (zip_more IsJournalOf c.loop-shared.zones.items c.loop-shared.journals.items zone journal i.journals made.journal));
      rooms =
          ap (map room) q.items
          ∙ map-append room c.loop-shared.journals.items (journal ∷ [])
          ∙ ap₂ (λ l n. l ++ n ∷ []) i.rooms made.room
          ∙ sym (map-append capacity (map (board_at g.J.Naming.boards) ys) (board_at g.J.Naming.boards y ∷ []))
          ∙ sym (ap (map capacity) (map-append (board_at g.J.Naming.boards) ys (y ∷ [])));
      read =
          subst (λ zs. All (HaveReadZones zs) c.close_with.new.readers) (sym p.items)
          (rows_read_more c.loop-shared.zones.items zone y c.loop-shared.readers c.close_with.new.readers (next.0 ∙ sym i.zones_many) i.read made.read);
      kept = rows_trans g.J.Naming.zones g.J.Naming.boards _ _ _ i.kept made.readers;
      zones_many = ap length p.items ∙ length-append c.loop-shared.zones.items (zone ∷ []) ∙ ap (λ n. n + 1) i.zones_many ∙ sym one;
      journals_many = ap length q.items ∙ length-append c.loop-shared.journals.items (journal ∷ []) ∙ ap (λ n. n + 1) i.journals_many ∙ sym one;
      whole = whole;
      zone_room = omega (arith, i.zone_room, p.capacity);
      journal_room = omega (arith, i.journal_room, q.capacity);
    }

pub returns-clause-keys : goal.returns-clause-keys
returns-clause-keys g c =
    let none : c.loop-shared.shared-iterator.rest.items ≡ [] = grind (arith, common_steps) in
    let all : c.loop-shared.yielded ≡ c.args.row.items = sym (append-nil c.loop-shared.yielded) ∙ ap (λ r. c.loop-shared.yielded ++ r) (sym none) ∙ c.loop-shared.invariant.whole in
    c.loop-shared.invariant.keys ∙ ap (map (key_at g.J.Naming.zones)) all ∙ keys_at_places g.J.Naming.zones c.args.row.items c.requires.row

pub returns-clause-legal : goal.returns-clause-legal
returns-clause-legal g c =
    let none : c.loop-shared.shared-iterator.rest.items ≡ [] = grind (arith, common_steps) in
    let all : c.loop-shared.yielded ≡ c.args.row.items = sym (append-nil c.loop-shared.yielded) ∙ ap (λ r. c.loop-shared.yielded ++ r) (sym none) ∙ c.loop-shared.invariant.whole in
    let keys = c.loop-shared.invariant.keys ∙ ap (map (key_at g.J.Naming.zones)) all ∙ keys_at_places g.J.Naming.zones c.args.row.items c.requires.row in
    subst (λ ks. AllZip IsLegalBy ks c.loop-shared.journals.items) keys (legal_by_keys c.loop-shared.zones.items c.loop-shared.journals.items c.loop-shared.invariant.journals)

pub returns-clause-rooms : goal.returns-clause-rooms
returns-clause-rooms g c =
    let none : c.loop-shared.shared-iterator.rest.items ≡ [] = grind (arith, common_steps) in
    let all : c.loop-shared.yielded ≡ c.args.row.items = sym (append-nil c.loop-shared.yielded) ∙ ap (λ r. c.loop-shared.yielded ++ r) (sym none) ∙ c.loop-shared.invariant.whole in
    c.loop-shared.invariant.rooms
    ∙ ap (λ l. map (λ (b : BoardState). b.capacity) (map (board_at g.J.Naming.boards) l)) all
    ∙ ap (map (λ (b : BoardState). b.capacity)) (boards_at_places g.J.Naming.zones g.J.Naming.boards c.args.row.items c.requires.row c.requires.boards)
