-- What a view has seen goes on to cover the sections that it covered.
use Rattle.std.proofs.Common.{ℕ, ◌+◌, ◌≡◌, ◌<◌, ◌∙◌, ap, arith, List, length, length-append, inl, inr, subst, sym}
use Rattle.std.proofs.lemmas.Bool.{cases_eq}
use mathlib.Core.List.{IsPrefix}
use Rattle.zp_model.specs.declared.counts.Counts.{Counts}
use Rattle.zp_shared.specs.Rows.{HasCovered, IsReadAt, ViewState, seen_at, seen_by}

pub covered_still : (v w : ViewState) (i n : ℕ) → IsPrefix (seen_at (seen_by v.readers) i) (seen_at (seen_by w.readers) i) → HasCovered v i n → HasCovered w i n
covered_still v w i n more covered =
    let longer : length (seen_at (seen_by w.readers) i) ≡ length (seen_at (seen_by v.readers) i) + length more.0 = ap length (sym more.1) ∙ length-append (seen_at (seen_by v.readers) i) more.0 in
    omega (arith, longer, covered)

pub covered_counted : (v w : ViewState) (i j n : ℕ) → IsReadAt i v w → HasCovered v j n → HasCovered w j n
covered_counted v w i j n read covered =
    elim (cases_eq j i) [
      | inl same ↦ covered_still v w j n (subst (λ k. IsPrefix (seen_at (seen_by v.readers) k) (seen_at (seen_by w.readers) k)) (sym same) read.seen) covered
      | inr other ↦ subst (λ (cs : List Counts). n < length cs) (sym (read.unseen j other)) covered
    ]
