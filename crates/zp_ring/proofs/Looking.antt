-- The places of the looks of one reading, one after another.
use Rattle.std.proofs.Common.{◌≡◌, ℕ, ◌+◌, ◌-◌, ◌<◌, ◌≤◌, List, [], ◌∷◌, ◌++◌, length, get_or, sym, ap, ◌∙◌, arith, append_assoc, length-append}
use Rattle.std.proofs.Math.ListN.{get_or-append}
use Rattle.std.proofs.Math.Seq.{get_or-append_seam}
use mathlib.Core.Logic.{dite}
use native.Mathlib.Decide.{ℕ_discrete}
use Rattle.zp_ring.specs.declared.ring.TheConstants.{TRIES}
use Rattle.zp_ring.specs.Rings.{AreApart, AreLooks, WasMet}

-- after so many tries, each of which was passed by: the places that were found since then, the last of them this one
pub record HaveTried (slots : ℕ) (known : ℕ) (before looks : List ℕ) (tries place : ℕ) : Type 0 where
  pub places : List ℕ
  pub looked : looks ≡ before ++ places
  pub long : length places ≡ tries + 1
  pub passed : AreApart (slots - 1) places
  pub first : known ≤ get_or places 0 0 + 1
  pub last : get_or places tries 0 ≡ place

-- one place more that is so far beyond the last one
apart_more : (far : ℕ) (places : List ℕ) (tries place found : ℕ) → length places ≡ tries + 1 → get_or places tries 0 ≡ place → place + far ≤ found → AreApart far places → AreApart far (places ++ found ∷ [])
apart_more far places tries place found long is le apart k lt =
    let longer : length (places ++ found ∷ []) ≡ length places + 1 = length-append places (found ∷ []) in
    let here : get_or (places ++ found ∷ []) k 0 ≡ get_or places k 0 = get_or-append places (found ∷ []) 0 k (omega (arith, lt, longer)) in
    dite (ℕ_discrete (k + 1) (length places))
    (λ (e : k + 1 ≡ length places).
    let end : get_or (places ++ found ∷ []) (k + 1) 0 ≡ found = ap (λ n. get_or (places ++ found ∷ []) n 0) e ∙ get_or-append_seam places found [] 0 in
    let same : get_or places k 0 ≡ place = ap (λ n. get_or places n 0) (omega (arith, e, long)) ∙ is in
    omega (arith, here, end, same, le))
    (λ (ne : ¬ (k + 1 ≡ length places)).
    let next : get_or (places ++ found ∷ []) (k + 1) 0 ≡ get_or places (k + 1) 0 = get_or-append places (found ∷ []) 0 (k + 1) (omega (arith, lt, longer, ne)) in
    omega (arith, here, next, apart k (omega (arith, lt, longer, ne))))

-- one try more that was passed by
pub looked_again : (slots known : ℕ) (before looks new : List ℕ) (tries place found : ℕ) → HaveTried slots known before looks tries place → new ≡ looks ++ found ∷ [] → place + (slots - 1) ≤ found
    → HaveTried slots known before new (tries + 1) found
looked_again slots known before looks new tries place found w is le = record {
  places = w.places ++ found ∷ [];
  looked = is ∙ ap (λ l. l ++ found ∷ []) w.looked ∙ append_assoc before w.places (found ∷ []);
  long = length-append w.places (found ∷ []) ∙ ap (λ n. n + 1) w.long;
  passed = apart_more (slots - 1) w.places tries place found w.long w.last le w.passed;
  first = rw (get_or-append w.places (found ∷ []) 0 0 (omega (arith, w.long))) w.first;
  last = ap (λ n. get_or (w.places ++ found ∷ []) n 0) (sym w.long) ∙ get_or-append_seam w.places found [] 0;
}

apart_less : (far : ℕ) (places : List ℕ) → AreApart far places → AreApart 0 places
apart_less far places apart k lt = omega (arith, apart k lt)

-- the looks of a reading, where each of its tries was passed by
pub passed_looks : (slots known : ℕ) (before looks : List ℕ) (place now_known : ℕ) (w : HaveTried slots known before looks TRIES place) → now_known ≡ place + 1 → AreLooks w.places known now_known
passed_looks slots known before looks place now_known w is = record {
  some = omega (arith, w.long);
  few = omega (arith, w.long);
  order = apart_less (slots - 1) w.places w.passed;
  first = w.first;
  last = is ∙ ap (λ n. n + 1) (sym (ap (λ n. get_or w.places n 0) (omega (arith, w.long)) ∙ w.last));
}

-- the looks of one whose last try was not passed by
pub met_looks : (slots known : ℕ) (before looks : List ℕ) (tries place found now_known : ℕ) (w : HaveTried slots known before looks tries place) → tries < TRIES → place ≤ found → now_known ≡ found + 1
    → AreLooks (w.places ++ found ∷ []) known now_known
met_looks slots known before looks tries place found now_known w lt le is =
    let longer : length (w.places ++ found ∷ []) ≡ length w.places + 1 = length-append w.places (found ∷ []) in
    record {
      some = omega (arith, longer);
      few = omega (arith, longer, w.long, lt);
      order = apart_more 0 w.places tries place found w.long w.last (omega (arith, le)) (apart_less (slots - 1) w.places w.passed);
      first = rw (get_or-append w.places (found ∷ []) 0 0 (omega (arith, w.long))) w.first;
      last = is ∙ ap (λ n. n + 1) (sym (ap (λ n. get_or (w.places ++ found ∷ []) n 0) (omega (arith, longer)) ∙ get_or-append_seam w.places found [] 0));
    }

-- and the last try was met
pub met : (slots known : ℕ) (before looks : List ℕ) (tries place found seen now_known : ℕ) (w : HaveTried slots known before looks tries place) → seen ≡ place + 1 → known ≤ seen → now_known ≡ found + 1 → found + 1 < place + slots
    → WasMet slots (w.places ++ found ∷ []) known seen now_known
met slots known before looks tries place found seen now_known w is newer known_is near =
    let longer : length (w.places ++ found ∷ []) ≡ length w.places + 1 = length-append w.places (found ∷ []) in
    let two : length (w.places ++ found ∷ []) - 2 ≡ tries = omega (arith, longer, w.long) in
    let here : get_or (w.places ++ found ∷ []) (length (w.places ++ found ∷ []) - 2) 0 ≡ place =
    ap (λ n. get_or (w.places ++ found ∷ []) n 0) two ∙ get_or-append w.places (found ∷ []) 0 tries (omega (arith, w.long)) ∙ w.last in
    record {
      tried = omega (arith, longer, w.long);
      found = is ∙ ap (λ n. n + 1) (sym here);
      newer = newer;
      near = omega (arith, known_is, is, near);
    }
