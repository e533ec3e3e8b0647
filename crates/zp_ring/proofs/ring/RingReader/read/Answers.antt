use Rattle.std.proofs.Common.{◌≡◌, ℕ, ◌+◌, ◌-◌, ◌<◌, ◌≤◌, List, [], ◌∷◌, ◌++◌, length, take, true, subst, sym, ap, ◌∙◌, inl, inr, append_assoc, arith, rules}
use Rattle.std.proofs.lemmas.List.{length-take-le}
use mathlib.Core.List.{IsPrefix}
use Rattle.zp_ring.specs.declared.ring.TheConstants.{TRIES}
use Rattle.zp_board.specs.Boards.{entry_at}
use Rattle.zp_ring.proofs.Looking.{HaveTried, looked_again, met, met_looks, passed_looks}
use Rattle.zp_ring.proofs.Steps.{looks}
use Rattle.zp_board.proofs.Words.{prefix_length}
use Rattle.zp_ring.proofs.Words.{last_taken, prefix_takes, prefix_then, read_between, take_begun}
use Rattle.zp_ring.proofs.ring.RingReader.read.Goals as goal

pub load-place-requires : goal.load-place-requires
load-place-requires g c =
    let row = c.board.inside.row.shared in
    let some : 0 < row.table_id.words = omega (arith, c.board.invariant.0) in (
      ap (λ r. r.tie) c.self.view_is ∙ c.requires ∙ sym (ap (λ b. b.tie) c.board.view_is),
      some,
      looks g.row.W g.row.S row.table_id.slots c.self.inside.pin.id c.self.inside.pin.me c.self.invariant.2,
    )

pub load-again-requires : goal.load-again-requires
load-again-requires g c =
    let row = c.board.inside.row.shared in
    let i = c.loop.invariant in
    let some : 0 < row.table_id.words = omega (arith, c.board.invariant.0) in
    let mine = ap (λ r. r.tie) c.self.view_is ∙ c.requires ∙ sym (ap (λ b. b.tie) c.board.view_is) in
    let reads : c.fetch-words.new.pin.me.0.reads ≡ true = ap (λ m. m.0.reads) c.fetch-words.ensures.me ∙ i.reads in (
      c.fetch-words.ensures.tie ∙ i.tie ∙ c.load-place.ensures.0 ∙ mine,
      some,
      looks g.row.W g.row.S row.table_id.slots c.fetch-words.new.pin.id c.fetch-words.new.pin.me reads,
    )

pub invariant_of-self : goal.invariant_of-self
invariant_of-self g c =
    let i = c.loop.invariant in
    let f = c.fetch-words.ensures.me in
    let l = c.load-again.ensures.2 in
    let all : List (List ℕ) = c.load-again.new.seat.me.0.seen in
    let before : List (List ℕ) = c.fetch-words.new.pin.me.0.seen in
    let same : before ≡ c.loop.self-inside.pin.me.0.seen = ap (λ m. m.0.seen) f in
    let inside : c.loop.place < length all = omega (arith, prefix_length before all l.1, ap length same, i.many) in
    let long : length c.fetch-words.result ≡ g.row.W = search rules in (
      ap (λ m. m.1) l.0 ∙ ap (λ m. m.1) f ∙ i.none,
      ap (λ m. m.0.stores) l.0 ∙ ap (λ m. m.0.stores) f ∙ i.stores,
      ap (λ m. m.0.reads) l.0 ∙ ap (λ m. m.0.reads) f ∙ i.reads,
      inside,
      read_between g.row.S _ _ _ _ _ all (ap (λ m. m.0.got) f) (ap (λ m. m.0.from) f ∙ i.from) c.if-again-place.true l.4 (long ∙ sym (l.3 c.loop.place inside)),
    )

pub returns-then-again-place-clause-seen : goal.returns-then-again-place-clause-seen
returns-then-again-place-clause-seen g c =
    let i = c.loop.invariant in
    let f = c.fetch-words.ensures.me in
    let l = c.load-again.ensures.2 in
    let p = c.load-place.ensures.2 in
    let all : List (List ℕ) = c.load-again.new.seat.me.0.seen in
    let mine : List (List ℕ) = c.self.inside.pin.me.0.seen in
    let at_place : List (List ℕ) = c.loop.self-inside.pin.me.0.seen in
    let here : IsPrefix mine at_place = prefix_then mine c.load-place.new.seat.me.0.seen at_place p.1 i.seen in
    let later : IsPrefix at_place all = subst (λ s. IsPrefix s all) (ap (λ m. m.0.seen) f) l.1 in
    let inside : c.self.inside.last.place + 1 ≤ length mine = omega (arith, c.self.invariant.3) in
    let order : c.self.inside.last.place + 1 ≤ c.loop.place + 1 = omega (arith, inside, prefix_length mine at_place here, i.many) in
    subst (λ s. IsPrefix s (take (c.loop.place + 1) all)) (ap (λ r. r.seen) c.self.view_is)
    (prefix_takes (c.self.inside.last.place + 1) (c.loop.place + 1) mine all (prefix_then mine at_place all here later) inside order)

pub returns-then-again-place-clause-last : goal.returns-then-again-place-clause-last
returns-then-again-place-clause-last g c =
    let i = c.loop.invariant in
    let f = c.fetch-words.ensures.me in
    let l = c.load-again.ensures.2 in
    let all : List (List ℕ) = c.load-again.new.seat.me.0.seen in
    let before : List (List ℕ) = c.fetch-words.new.pin.me.0.seen in
    let same : before ≡ c.loop.self-inside.pin.me.0.seen = ap (λ m. m.0.seen) f in
    let inside : c.loop.place < length all = omega (arith, prefix_length before all l.1, ap length same, i.many) in
    let long : length c.fetch-words.result ≡ g.row.W = search rules in
    let whole : c.fetch-words.result ≡ entry_at all c.loop.place = read_between g.row.S _ _ _ _ _ all (ap (λ m. m.0.got) f) (ap (λ m. m.0.from) f ∙ i.from) c.if-again-place.true l.4 (long ∙ sym (l.3 c.loop.place inside)) in
    whole ∙ sym (last_taken c.loop.place all inside)

pub loop-preserved : goal.loop-preserved
loop-preserved g c =
    let i = c.loop.invariant in
    let f = c.fetch-words.ensures.me in
    let l = c.load-again.ensures.2 in
    let before : List (List ℕ) = c.fetch-words.new.pin.me.0.seen in
    let all : List (List ℕ) = c.load-again.new.seat.me.0.seen in
    let later : IsPrefix c.loop.self-inside.pin.me.0.seen all = subst (λ s. IsPrefix s all) (ap (λ m. m.0.seen) f) l.1 in
    record {
      within = omega (arith, c.loop-test.true);
      tie = search rules;
      last = i.last;
      none = ap (λ m. m.1) l.0 ∙ ap (λ m. m.1) f ∙ i.none;
      stores = ap (λ m. m.0.stores) l.0 ∙ ap (λ m. m.0.stores) f ∙ i.stores;
      reads = ap (λ m. m.0.reads) l.0 ∙ ap (λ m. m.0.reads) f ∙ i.reads;
      from = ap (λ m. m.0.from) l.0;
      got = ap (λ m. m.0.got) l.0;
      seen = prefix_then _ _ all i.seen later;
      many = l.2;
      tried = looked_again g.row.S _ _ _ _ _ _ _ i.tried (ap (λ m. m.0.looks) l.0 ∙ ap (λ m. m.0.looks ++ c.load-again.result ∷ []) f) (omega (arith, c.if-again-place.false, prefix_length _ all later, i.many, l.2));
    }

pub returns-then-again-place-clause-fresh : goal.returns-then-again-place-clause-fresh
returns-then-again-place-clause-fresh g c =
    let i = c.loop.invariant in
    let f = c.fetch-words.ensures.me in
    let l = c.load-again.ensures.2 in
    let p = c.load-place.ensures.2 in
    let all : List (List ℕ) = c.load-again.new.seat.me.0.seen in
    let at_place : List (List ℕ) = c.loop.self-inside.pin.me.0.seen in
    let mine : List (List ℕ) = c.self.inside.pin.me.0.seen in
    let known : length mine ≡ c.args.self.now.known = ap (λ r. r.known) c.self.view_is in
    let here : IsPrefix mine at_place = prefix_then mine c.load-place.new.seat.me.0.seen at_place p.1 i.seen in
    let later : IsPrefix at_place all = subst (λ s. IsPrefix s all) (ap (λ m. m.0.seen) f) l.1 in
    let order : c.loop.place ≤ c.load-again.result = omega (arith, prefix_length at_place all later, i.many, l.2) in
    let inside : length (take (c.loop.place + 1) all) ≡ c.loop.place + 1 = length-take-le (c.loop.place + 1) all (omega (arith, order, l.2)) in
    record {
      places = i.tried.places ++ c.load-again.result ∷ [];
      looked = ap (λ m. m.0.looks) l.0 ∙ ap (λ m. m.0.looks ++ c.load-again.result ∷ []) f ∙ ap (λ ps. ps ++ c.load-again.result ∷ []) i.tried.looked ∙ append_assoc _ i.tried.places (c.load-again.result ∷ []);
      order = met_looks g.row.S _ _ _ _ _ _ _ i.tried c.loop-test.true order l.2;
      fresh = inl (met g.row.S _ _ _ _ _ _ _ _ i.tried inside (omega (arith, inside, known, prefix_length mine at_place here, i.many)) l.2 (omega (arith, c.if-again-place.true)));
    }

pub returns-clause-seen : goal.returns-clause-seen
returns-clause-seen g c =
    let i = c.loop.invariant in
    let mine : List (List ℕ) = c.self.inside.pin.me.0.seen in
    let at_place : List (List ℕ) = c.loop.self-inside.pin.me.0.seen in
    let here : IsPrefix mine at_place = prefix_then mine c.load-place.new.seat.me.0.seen at_place c.load-place.ensures.2.1 i.seen in
    let inside : c.self.inside.last.place + 1 ≤ length mine = omega (arith, c.self.invariant.3) in
    subst (λ s. IsPrefix s (take (c.loop.self-inside.last.place + 1) at_place)) (ap (λ r. r.seen) c.self.view_is)
    (prefix_takes (c.self.inside.last.place + 1) (c.loop.self-inside.last.place + 1) mine at_place here inside (omega (arith, ap (λ r. r.place) i.last)))

pub returns-clause-fresh : goal.returns-clause-fresh
returns-clause-fresh g c =
    let i = c.loop.invariant in
    let mine : List (List ℕ) = c.self.inside.pin.me.0.seen in
    let at_place : List (List ℕ) = c.loop.self-inside.pin.me.0.seen in
    let here : IsPrefix mine at_place = prefix_then mine c.load-place.new.seat.me.0.seen at_place c.load-place.ensures.2.1 i.seen in
    let inside : c.self.inside.last.place + 1 ≤ length mine = omega (arith, c.self.invariant.3) in
    let all : c.loop.counter ≡ TRIES = omega (arith, i.within, c.loop-test.false) in
    let tried : HaveTried g.row.S c.args.self.now.known c.args.self.now.looks c.loop.self-inside.pin.me.0.looks TRIES c.loop.place = subst (λ n. HaveTried g.row.S c.args.self.now.known c.args.self.now.looks c.loop.self-inside.pin.me.0.looks n c.loop.place) all i.tried in
    record {
      places = tried.places;
      looked = tried.looked;
      order = passed_looks g.row.S _ _ _ _ _ tried i.many;
      fresh = inr (
        ap (λ r. take (r.place + 1) at_place) i.last ∙ take_begun _ mine at_place here inside ∙ ap (λ r. r.seen) c.self.view_is,
        record { tries = tried.long; passed = tried.passed },
      );
    }
