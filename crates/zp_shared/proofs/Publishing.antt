-- Counts after the entries of a zone, as they are published: one entry more, the last of them, and what a reader took of them.
use Rattle.std.proofs.Common.{ℕ, ◌≡◌, ◌<◌, ◌≤◌, ◌+◌, ◌-◌, ◌++◌, ◌⊎◌, inl, inr, List, [], ◌∷◌, Some, length, length-append, get_or, sym, ◌∙◌, ap, arith}
use Rattle.std.specs.List.{slice_get}
use Rattle.std.proofs.Math.Seq.{get_or-append_seam}
use Rattle.std.proofs.lemmas.Bool.{cases_lt}
use Rattle.std.proofs.lemmas.List.{get_or_append_left, take-append-le, take_all}
use Rattle.std.proofs.lemmas.Option.{get_or_from_slice_get, slice_get-get_or, slice_get_within}
use mathlib.Core.List.{IsPrefix}
use Rattle.zp_model.specs.declared.counts.Counts.{Counts}
use Rattle.zp_model.specs.Entries.{Entry}
use Rattle.zp_model.specs.Info.{counts_of}
use Rattle.zp_model.specs.Zone.{PlainZone}
use Rattle.zp_model.specs.Run.{IsHistory, opening_of, run}
use Rattle.zp_counts.specs.declared.reading.Reading.{Reading}
use Rattle.zp_counts.specs.CountBoards.{IsReadingOf, counts_in, last_counts}
use Rattle.zp_counts.proofs.CountLists.{reading_kept}
use Rattle.zp_journal.specs.Journals.{counts_after}
use Rattle.zp_zone.specs.Seats.{ZoneState}
use Rattle.zp_shared.specs.Rows.{AreCountsAfter, IsCountsOf, IsPublished, zone_counts}

-- what is at the front of a list is at the front of it with one more at its end
front_of : (cs : List Counts) (c d : Counts) (i : ℕ) → i < length cs → slice_get (cs ++ d ∷ []) i ≡ Some c → slice_get cs i ≡ Some c
front_of cs c d i lt e =
    slice_get-get_or cs i c lt ∙ ap Some (sym (get_or_append_left cs (d ∷ []) c i lt) ∙ get_or_from_slice_get (cs ++ d ∷ []) i c c e)

-- counts after each entry, with those after one entry more
pub counts_more : (o : PlainZone) (es : List Entry) (e : Entry) (cs : List Counts) (d : Counts) → length cs ≡ length es + 1 → AreCountsAfter o es cs → d ≡ counts_after o (es ++ e ∷ []) (length es + 1) →
    AreCountsAfter o (es ++ e ∷ []) (cs ++ d ∷ [])
counts_more o es e cs d many was own i c at = go (cases_lt i (length cs))
  where
    go : (i < length cs) ⊎ (length cs ≤ i) → c ≡ counts_after o (es ++ e ∷ []) i
    go (inl lt) =
        let le : i ≤ length es = omega (arith, lt, many) in
        was i c (front_of cs c d i lt at) ∙ ap (λ l. let y : PlainZone = run o l in counts_of y.area.largest y.area.free) (sym (take-append-le i es (e ∷ []) le))
    go (inr le) =
        let inside : i < length (cs ++ d ∷ []) = slice_get_within (cs ++ d ∷ []) i c at in
        let here : i ≡ length cs = omega (arith, inside, le, length-append cs (d ∷ [])) in
        let last : c ≡ d = sym (get_or_from_slice_get (cs ++ d ∷ []) i c c at) ∙ ap (λ k. get_or (cs ++ d ∷ []) k c) here ∙ get_or-append_seam cs d [] c in
        let there : length es + 1 ≡ i = omega (arith, here, many) in
        last ∙ own ∙ ap (counts_after o (es ++ e ∷ [])) there

-- the zone's counts are the last that are published
pub last_published : (z : ZoneState) (cs : List Counts) → IsHistory z.plain z.entries → IsPublished z cs → last_counts cs ≡ zone_counts z
last_published z cs h p =
    let n = length z.entries in
    let at : length cs - 1 ≡ n = omega (arith, p.many) in
    let lt : n < length cs = omega (arith, p.many) in
    let last : slice_get cs n ≡ Some (last_counts cs) = slice_get-get_or cs n (counts_in []) lt ∙ ap (λ k. Some (get_or cs k (counts_in []))) (sym at) in
    p.each n (last_counts cs) last
    ∙ ap (λ l. let y : PlainZone = run (opening_of z.plain) l in counts_of y.area.largest y.area.free) (take_all n z.entries (omega arith))
    ∙ ap (λ (y : PlainZone). counts_of y.area.largest y.area.free) h.run

-- what a reader took of the first of them is counts after so many entries
pub taken_published : (z : ZoneState) (seen cs : List Counts) (r : Reading) → IsPublished z cs → IsPrefix seen cs → IsReadingOf seen r → IsCountsOf z r
taken_published z seen cs r p before taken = p.each r.place r.counts (reading_kept seen cs r before taken)

-- of a zone of which nothing was asked its counts are published
pub published_opening : (z : ZoneState) (cs : List Counts) → IsHistory z.plain z.entries → z.entries ≡ [] → cs ≡ zone_counts z ∷ [] → IsPublished z cs
published_opening z cs h none one =
    let many : length cs ≡ length z.entries + 1 = omega (arith, ap length none, ap length one) in
    record {
      many = many;
      each = λ i c at.
          let inside : i < length cs = slice_get_within cs i c at in
          let here : i ≡ 0 = omega (arith, inside, ap length one) in
          let own : c ≡ zone_counts z = sym (get_or_from_slice_get cs i c c at) ∙ ap (λ k. get_or cs k c) here ∙ ap (λ l. get_or l 0 c) one in
          own
          ∙ sym
          (ap (λ l. let y : PlainZone = run (opening_of z.plain) l in counts_of y.area.largest y.area.free) (take_all i z.entries (omega (arith, ap length none)))
          ∙ ap (λ (y : PlainZone). counts_of y.area.largest y.area.free) h.run);
    }
