-- The entries that are repeated so far, and one more.
use Rattle.std.proofs.Common.{ℕ, ◌≡◌, ◌<◌, ◌+◌, ◌-◌, List, [], ◌∷◌, ◌++◌, Some, length, take, append_assoc, append-nil, sym, ◌∙◌, ap, subst, arith}
use Rattle.std.specs.List.{slice_get}
use Rattle.std.proofs.lemmas.List.{take_more}
use Rattle.std.proofs.lemmas.Option.{get_or_from_slice_get}
use Rattle.zp_model.specs.Entries.{Entry}
use Rattle.zp_model.specs.Zone.{PlainZone}
use Rattle.zp_model.specs.Run.{run, IsLegal, IsLegalEntry}
use Rattle.zp_model.specs.Books.{entry_of}
use Rattle.zp_laws.proofs.Histories.{legal_more, run_more}
use Rattle.zp_zone.specs.Seats.{ZoneState, asked}
use Rattle.zp_journal.specs.Asking.{IsTried}
use Rattle.zp_journal.specs.Journals.{IsFirstIllegal, IsLeftAt, gone_on}

-- the entries are legal from the zone o on, and z is the zone after them
pub record IsGoneOn (o : ZoneState) (es : List Entry) (z : ZoneState) : Type 0 where
  pub legal : IsLegal o.plain es
  pub is : z ≡ gone_on es o

-- a legal entry is the one that its request makes
entry_is : (z : PlainZone) (e : Entry) → IsLegalEntry z e → entry_of z e.worker e.request ≡ e
entry_is z e l = ap (λ q. let x : Entry = record { worker = e.worker; request = e.request; reply = q } in x) l.1

-- the zone after an entry more
one_after : (o : ZoneState) (es : List Entry) (e : Entry) → IsLegalEntry (run o.plain es) e → asked e.worker e.request (gone_on es o) ≡ gone_on (es ++ e ∷ []) o
one_after o es e l =
    let plain = sym (run_more o.plain es e) in
    let entries = ap (λ x. (o.entries ++ es) ++ x ∷ []) (entry_is (run o.plain es) e l) ∙ append_assoc o.entries es (e ∷ []) in
    λ i. let z : ZoneState = record { tie = o.tie; name = o.name; plain = plain i; entries = entries i } in z

one_more : (o : ZoneState) (es : List Entry) (e : Entry) (z y : ZoneState) → IsGoneOn o es z → IsLegalEntry z.plain e → y ≡ asked e.worker e.request z →
    IsGoneOn o (es ++ e ∷ []) y
one_more o es e z y was l is =
    let legal : IsLegalEntry (run o.plain es) e = subst (λ (x : ZoneState). IsLegalEntry x.plain e) was.is l in
    record {
      legal = legal_more o.plain es e was.legal legal;
      is = is ∙ ap (asked e.worker e.request) was.is ∙ one_after o es e legal;
    }

-- the zone is that of one entry more, when this entry was repeated and is legal
pub replayed_more : (o : ZoneState) (es : List Entry) (i j : ℕ) (e : Entry) (z y : ZoneState) → i < length es → j ≡ i → slice_get es j ≡ Some e →
    IsGoneOn o (take i es) z → IsLegalEntry z.plain e → y ≡ asked e.worker e.request z → IsGoneOn o (take (i + 1) es) y
replayed_more o es i j e z y lt f is was l after =
    let here : slice_get es i ≡ Some e = ap (slice_get es) (sym f) ∙ is in
    let more : take (i + 1) es ≡ take i es ++ e ∷ [] = take_more es i e lt ∙ ap (λ x. take i es ++ x ∷ []) (get_or_from_slice_get es i e e here) in
    subst (λ xs. IsGoneOn o xs y) (sym more) (one_more o (take i es) e z y was l after)

-- one entry stands at a place
one_there : (es : List Entry) (i : ℕ) (e x : Entry) → slice_get es i ≡ Some e → slice_get es i ≡ Some x → e ≡ x
one_there es i e x there found = sym (get_or_from_slice_get es i e e there) ∙ get_or_from_slice_get es i x e found

-- none of the entries before this one differs, and this one is not legal
pub first_illegal : (o : ZoneState) (es : List Entry) (i n j : ℕ) (e : Entry) (z : ZoneState) → n ≡ i + 1 → j ≡ i → i < length es → slice_get es j ≡ Some e →
    IsGoneOn o (take i es) z → (IsLegalEntry z.plain e → ⊥) → IsFirstIllegal o.plain es n
first_illegal o es i n j e z f g lt is was bad =
    let at : i ≡ n - 1 = omega arith in
    let here : z.plain ≡ run o.plain (take (n - 1) es) = ap (λ (x : ZoneState). x.plain) was.is ∙ ap (λ k. run o.plain (take k es)) at in
    let there : slice_get es (n - 1) ≡ Some e = ap (slice_get es) (sym at ∙ sym g) ∙ is in
    record {
      some = omega arith;
      within = omega arith;
      before = subst (λ k. IsLegal o.plain (take k es)) at was.legal;
      illegal = λ x found l. bad (subst (λ v. IsLegalEntry z.plain v) (sym (one_there es (n - 1) e x there found)) (subst (λ v. IsLegalEntry v x) (sym here) l));
    }

-- the zone is left where this one was tried
pub left_at : (o : ZoneState) (es : List Entry) (i n j : ℕ) (e : Entry) (z y : ZoneState) → n ≡ i + 1 → j ≡ i → slice_get es j ≡ Some e → IsGoneOn o (take i es) z →
    IsTried z e y → IsLeftAt o es n y
left_at o es i n j e z y f g is was tried =
    let at : i ≡ n - 1 = omega arith in
    let here : z ≡ gone_on (take (n - 1) es) o = was.is ∙ ap (λ k. gone_on (take k es) o) at in
    let there : slice_get es (n - 1) ≡ Some e = ap (slice_get es) (sym at ∙ sym g) ∙ is in
    λ x found. subst (λ v. IsTried v x y) here (subst (λ v. IsTried z v y) (one_there es (n - 1) e x there found) tried)

-- of no entry, the zone is as it was
pub gone_none : (o : ZoneState) (es : List Entry) → IsGoneOn o (take 0 es) o
gone_none o es = record { legal = tt; is = let entries = sym (append-nil o.entries) in λ i. let z : ZoneState = record { tie = o.tie; name = o.name; plain = o.plain; entries = entries i } in z }
