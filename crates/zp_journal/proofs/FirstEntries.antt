-- No counts are told where one of the entries so far is not legal.
use Rattle.std.proofs.Common.{ℕ, ◌≡◌, ◌<◌, ◌≤◌, ◌-◌, List, [], ◌∷◌, None, Some, length, take, zero, suc, refl, subst, arith}
use Rattle.std.specs.List.{slice_get}
use Rattle.zp_model.specs.Entries.{Entry}
use Rattle.zp_model.specs.Zone.{PlainZone}
use Rattle.zp_model.specs.Step.{step}
use Rattle.zp_model.specs.Run.{run, IsLegal, IsLegalEntry}
use Rattle.zp_journal.specs.Journals.{IsFirstIllegal, IsLegalUpTo, IsCountedAfter}

-- of entries that are legal, none is illegal after those before it
none_illegal : (z : PlainZone) (es : List Entry) (n m : ℕ) → m < n → m < length es → IsLegal z (take n es) →
    ((e : Entry) → slice_get es m ≡ Some e → IsLegalEntry (run z (take m es)) e → ⊥) → ⊥
none_illegal z [] n m lt within l bad = omega arith
none_illegal z (x ∷ es) zero m lt within l bad = omega arith
none_illegal z (x ∷ es) (suc n) zero lt within l bad = bad x refl l.0
none_illegal z (x ∷ es) (suc n) (suc m) lt within l bad = none_illegal (step z x.worker x.request).zone es n m (omega arith) (omega arith) l.1 bad

-- entries are not legal as far as the first of them that is not
pub not_legal : (z : PlainZone) (es : List Entry) (n first : ℕ) → first ≤ n → IsFirstIllegal z es first → IsLegalUpTo z es n → ⊥
not_legal z es n first le f l =
    let some : 1 ≤ first = f.some in
    let within : first ≤ length es = f.within in
    none_illegal z es n (first - 1) (omega arith) (omega arith) l.legal f.illegal

-- no counts, where one of the first n entries differs
pub not_counted : (o z : PlainZone) (es : List Entry) (n first : ℕ) → z ≡ o → first ≤ n → IsFirstIllegal z es first → IsCountedAfter o es n None
not_counted o z es n first opened le f = not_legal o es n first le (subst (λ x. IsFirstIllegal x es first) opened f)
