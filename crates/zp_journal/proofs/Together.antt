-- Entries after entries: they are legal together where each are from where they begin; and pieces of a journal, one more put to those before.
use Rattle.std.proofs.Common.{ℕ, zero, suc, ◌≡◌, ◌<◌, ◌≤◌, ◌+◌, ◌^◌, lit<, List, [], ◌∷◌, ◌++◌, length, take, drop, get_or, refl, sym, ◌∙◌, add-one, ap, drop-cons, subst, true, arith, append_assoc, append-nil, length-append, Some}
use Rattle.std.proofs.Math.ListN.{drop_of_length-le}
use Rattle.std.proofs.lemmas.List.{take_more, take_all}
use Rattle.zp_model.specs.Entries.{Entry}
use Rattle.zp_model.specs.Zone.{PlainZone}
use Rattle.zp_model.specs.Step.{step}
use Rattle.zp_model.specs.Run.{IsLegal, run}
use Rattle.zp_zone.specs.Seats.{ZoneState}
use Rattle.zp_journal.specs.declared.pieces.Piece.{Piece}
use Rattle.zp_journal.specs.Journals.{IsFirstIllegal, IsLegalUpTo, gone_on}
use Rattle.zp_journal.specs.Pieces.{AreAdjoining, IsOneFurther, IsReplayedWhole, entries_of}
use Rattle.zp_journal.proofs.Replayed.{IsGoneOn}
use Rattle.zp_journal.proofs.FirstEntries.{not_legal}

pub run-append : (z : PlainZone) (xs ys : List Entry) → run z (xs ++ ys) ≡ run (run z xs) ys
run-append z [] ys = refl
run-append z (x ∷ xs) ys = run-append (step z x.worker x.request).zone xs ys

legal_together : (z : PlainZone) (xs ys : List Entry) → IsLegal z xs → IsLegal (run z xs) ys → IsLegal z (xs ++ ys)
legal_together z [] ys l m = m
legal_together z (x ∷ xs) ys l m = (l.0, legal_together (step z x.worker x.request).zone xs ys l.1 m)

legal_first : (z : PlainZone) (xs ys : List Entry) → IsLegal z (xs ++ ys) → IsLegal z xs
legal_first z [] ys l = tt
legal_first z (x ∷ xs) ys l = (l.0, legal_first (step z x.worker x.request).zone xs ys l.1)

legal_after : (z : PlainZone) (xs ys : List Entry) → IsLegal z (xs ++ ys) → IsLegal (run z xs) ys
legal_after z [] ys l = l
legal_after z (x ∷ xs) ys l = legal_after (step z x.worker x.request).zone xs ys l.1

entries_of-append : (ps qs : List Piece) → entries_of (ps ++ qs) ≡ entries_of ps ++ entries_of qs
entries_of-append [] qs = refl
entries_of-append (p ∷ ps) qs = ap (λ es. p.journal.entries ++ es) (entries_of-append ps qs) ∙ sym (append_assoc p.journal.entries (entries_of ps) (entries_of qs))

-- the pieces up to the next one, and that one
entries_more : (ps : List Piece) (i : ℕ) (p : Piece) → i < length ps → p ≡ get_or ps i p → entries_of (take (i + 1) ps) ≡ entries_of (take i ps) ++ p.journal.entries
entries_more ps i p lt is =
    ap entries_of (take_more ps i p lt ∙ ap (λ (q : Piece). take i ps ++ q ∷ []) (sym is))
    ∙ entries_of-append (take i ps) (p ∷ [])
    ∙ ap (λ es. entries_of (take i ps) ++ es) (append-nil p.journal.entries)

-- the zone goes on by a piece more
pub gone_further : (o : ZoneState) (ps : List Piece) (i : ℕ) (p : Piece) (z y : ZoneState) → i < length ps → p ≡ get_or ps i p → IsGoneOn o (entries_of (take i ps)) z → IsLegal z.plain p.journal.entries →
    y ≡ gone_on p.journal.entries z → IsGoneOn o (entries_of (take (i + 1) ps)) y
gone_further o ps i p z y lt at was legal is =
    let es = entries_of (take i ps) in
    let on : IsLegal (run o.plain es) p.journal.entries = subst (λ (x : ZoneState). IsLegal x.plain p.journal.entries) was.is legal in
    let whole : gone_on p.journal.entries (gone_on es o) ≡ gone_on (es ++ p.journal.entries) o =
    λ j. let x : ZoneState = record {
      tie = o.tie;
      name = o.name;
      plain = sym (run-append o.plain es p.journal.entries) j;
      entries = append_assoc o.entries es p.journal.entries j;
    } in x in
    subst (λ xs. IsGoneOn o xs y) (sym (entries_more ps i p lt at))
    (record { legal = legal_together o.plain es p.journal.entries was.legal on; is = is ∙ ap (gone_on p.journal.entries) was.is ∙ whole })

-- all entries are those of the pieces before one, its own, and the rest
rest_after : (ps : List Piece) (i : ℕ) (p : Piece) → i < length ps → p ≡ get_or ps i p → (qs : List Entry) × (entries_of ps ≡ entries_of (take i ps) ++ (p.journal.entries ++ qs))
rest_after [] i p lt is = absurd (omega (arith, lt))
rest_after (q ∷ ps) zero p lt is = (entries_of ps, ap (λ (x : Piece). x.journal.entries ++ entries_of ps) (sym is))
rest_after (q ∷ ps) (suc i) p lt is =
    let rest = rest_after ps i p (omega (arith, lt)) is in
    (rest.0, ap (λ es. q.journal.entries ++ es) rest.1 ∙ sym (append_assoc q.journal.entries (entries_of (take i ps)) (p.journal.entries ++ rest.0)))

-- where a piece is not legal there, the pieces are not legal together
pub illegal_whole : (o z : ZoneState) (ps : List Piece) (i : ℕ) (p : Piece) → i < length ps → p ≡ get_or ps i p → IsGoneOn o (entries_of (take i ps)) z → (IsLegal z.plain p.journal.entries → ⊥) →
    IsLegal o.plain (entries_of ps) → ⊥
illegal_whole o z ps i p lt is was bad legal =
    let rest = rest_after ps i p lt is in
    let there : IsLegal (run o.plain (entries_of (take i ps))) (p.journal.entries ++ rest.0) = legal_after o.plain (entries_of (take i ps)) (p.journal.entries ++ rest.0) (subst (IsLegal o.plain) rest.1 legal) in
    bad (subst (λ (x : ZoneState). IsLegal x.plain p.journal.entries) (sym was.is) (legal_first (run o.plain (entries_of (take i ps))) p.journal.entries rest.0 there))

-- the first entry of a piece that is not legal makes it illegal
pub illegal_piece : (z : PlainZone) (es : List Entry) (n : ℕ) → IsFirstIllegal z es n → IsLegal z es → ⊥
illegal_piece z es n bad legal =
    let up_to : IsLegalUpTo z es (length es) = record { within = omega arith; legal = subst (IsLegal z) (sym (take_all (length es) es (omega arith))) legal } in
    not_legal z es (length es) n bad.within bad up_to

pub gone_whole : (o z : ZoneState) (ps : List Piece) (i : ℕ) → length ps ≤ i → IsGoneOn o (entries_of (take i ps)) z → IsGoneOn o (entries_of ps) z
gone_whole o z ps i le x = subst (λ qs. IsGoneOn o (entries_of qs) z) (take_all i ps le) x

-- so all together
pub further_whole : (o z : ZoneState) (ps : List Piece) (i : ℕ) → length ps ≤ i → IsGoneOn o (entries_of (take i ps)) z → IsOneFurther o (entries_of ps) true z
further_whole o z ps i le was = let x = gone_whole o z ps i le was in (x.legal, x.is)

pub replayed_whole : (name : List ℕ) (o z : ZoneState) (opening : PlainZone) (es : List Entry) → o ≡ record { tie = o.tie; name = name; plain = opening; entries = [] } → IsOneFurther o es true z →
    IsReplayedWhole name opening es (Some z)
replayed_whole name o z opening es made x =
    let plain : o.plain ≡ opening = ap (λ (v : ZoneState). v.plain) made in (
      subst (λ v. IsLegal v es) plain x.0,
      ap (λ (v : ZoneState). v.name) x.1 ∙ ap (λ (v : ZoneState). v.name) made,
      ap (λ (v : ZoneState). v.plain) x.1 ∙ ap (λ v. run v es) plain,
      ap (λ (v : ZoneState). v.entries) x.1 ∙ ap (λ (v : ZoneState). v.entries ++ es) made,
    )

-- the pieces up to place i adjoin where all of them do, and those from there on say whether they do
pub record IsAdjoiningTo (ps : List Piece) (i before : ℕ) : Type 0 where
  pub many : before ≡ length (entries_of (take i ps))
  pub small : before < 2 ^ 64
  pub rest : AreAdjoining 0 ps → AreAdjoining before (drop i ps)
  pub back : AreAdjoining before (drop i ps) → AreAdjoining 0 ps

pub adjoining_none : (ps : List Piece) → IsAdjoiningTo ps 0 0
adjoining_none ps = record { many = refl; small = lit< tt; rest = λ x. x; back = λ x. x }

drop_one : (ps : List Piece) (i : ℕ) (p : Piece) → i < length ps → p ≡ get_or ps i p → drop i ps ≡ p ∷ drop (i + 1) ps
drop_one ps i p lt is = let here : i < length ps = lt in rw (add-one, drop-cons ps i p) (ap (λ (x : Piece). x ∷ drop (suc i) ps) (sym is))

pub adjoining_more : (ps : List Piece) (i before more : ℕ) (p : Piece) → i < length ps → p ≡ get_or ps i p → p.before ≡ before → more ≡ before + length p.journal.entries → more < 2 ^ 64 → IsAdjoiningTo ps i before →
    IsAdjoiningTo ps (i + 1) more
adjoining_more ps i before more p lt is here sum small x =
    let at : drop i ps ≡ p ∷ drop (i + 1) ps = drop_one ps i p lt is in
    record {
      many =
          sum ∙ ap (λ n. n + length p.journal.entries) x.many ∙ sym (length-append (entries_of (take i ps)) p.journal.entries)
          ∙ ap length (sym (entries_more ps i p lt is));
      small = small;
      rest = λ all. subst (λ n. AreAdjoining n (drop (i + 1) ps)) (sym sum) (subst (AreAdjoining before) at (x.rest all)).1;
      back = λ rest. x.back (subst (AreAdjoining before) (sym at) (here, subst (λ n. AreAdjoining n (drop (i + 1) ps)) sum rest));
    }

pub not_adjoining : (ps : List Piece) (i before : ℕ) (p : Piece) → i < length ps → p ≡ get_or ps i p → (p.before ≡ before → ⊥) → IsAdjoiningTo ps i before → AreAdjoining 0 ps → ⊥
not_adjoining ps i before p lt is ne x all = ne (subst (AreAdjoining before) (drop_one ps i p lt is) (x.rest all)).0

pub too_many : (ps : List Piece) (i before n : ℕ) (p : Piece) → i < length ps → p ≡ get_or ps i p → n ≤ before + length p.journal.entries → IsAdjoiningTo ps i before → n ≤ length (entries_of ps)
too_many ps i before n p lt is le x =
    let rest = rest_after ps i p lt is in
    let all : length (entries_of ps) ≡ length (entries_of (take i ps)) + length (p.journal.entries ++ rest.0) = ap length rest.1 ∙ length-append (entries_of (take i ps)) (p.journal.entries ++ rest.0) in
    omega (arith, all, length-append p.journal.entries rest.0, x.many, le)

pub adjoining_all : (ps : List Piece) (i before : ℕ) → length ps ≤ i → IsAdjoiningTo ps i before → AreAdjoining 0 ps × (length (entries_of ps) < 2 ^ 64)
adjoining_all ps i before le x =
    let many : length (entries_of ps) ≡ before = sym (x.many ∙ ap (λ qs. length (entries_of qs)) (take_all i ps le)) in
    (x.back (subst (AreAdjoining before) (sym (drop_all ps i le)) tt), subst (λ n. n < 2 ^ 64) (sym many) x.small)
  where
    drop_all : (ps : List Piece) (i : ℕ) → length ps ≤ i → drop i ps ≡ []
    drop_all ps i le = drop_of_length-le ps le
