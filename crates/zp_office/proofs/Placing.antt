-- The places of zones' names.
use Rattle.std.proofs.Common.{ℕ, ◌≡◌, ◌<◌, ◌≤◌, Bool, true, false, List, [], None, sym, ap, ◌∙◌, arith, length, get_or}
use Rattle.std.specs.List.{position_or_len}
use Rattle.std.specs.Str.{bytes_eq}
use Rattle.std.proofs.lemmas.List.{length-map, get_or-map}
use Rattle.std.proofs.lemmas.List.Sums.{position_or_len_is}
use Rattle.zp_trace.specs.declared.line.ZoneLine.{ZoneLine}
use Rattle.zp_office.specs.Scripts.{number_of, names_of}

-- the first that passes, and the length where none does
first_is : {X : Type 0} (p : X → Bool) (xs : List X) (i : ℕ) (d : X) → i < length xs → ((k : ℕ) → k < i → p (get_or xs k d) ≡ false) → p (get_or xs i d) ≡ true →
    i ≡ position_or_len p xs
first_is p xs i d lt before here = sym (position_or_len_is p xs i d (omega arith) before (λ _. here))

none_is : {X : Type 0} (p : X → Bool) (xs : List X) (d : X) → ((k : ℕ) → k < length xs → p (get_or xs k d) ≡ false) → length xs ≡ position_or_len p xs
none_is p xs d fails = sym (position_or_len_is p xs (length xs) d (omega arith) fails (λ lt. absurd (omega arith)))

-- the zone of a name
name_at : (zones : List ZoneLine) (name : List ℕ) (k : ℕ) (d : ZoneLine) → k < length zones →
    bytes_eq (get_or (names_of zones) k d.name) name ≡ bytes_eq (get_or zones k d).name name
name_at zones name k d lt = ap (λ n. bytes_eq n name) (get_or-map (λ (z : ZoneLine). z.name) zones k d d.name lt)

pub number_here : (zones : List ZoneLine) (name : List ℕ) (i : ℕ) (z : ZoneLine) (b : Bool) → i < length zones → z ≡ get_or zones i z →
    ((k : ℕ) (d : ZoneLine) → k < i → bytes_eq (get_or zones k d).name name ≡ false) → b ≡ bytes_eq z.name name → b ≡ true → i ≡ number_of (names_of zones) name
number_here zones name i z b lt is before e t =
    first_is (λ n. bytes_eq n name) (names_of zones) i z.name (omega (arith, lt, length-map zones (λ (y : ZoneLine). y.name)))
    (λ k below. name_at zones name k z (omega arith) ∙ before k z below)
    (name_at zones name i z lt ∙ ap (λ (y : ZoneLine). bytes_eq y.name name) (sym is) ∙ sym e ∙ t)

pub number_nowhere : (zones : List ZoneLine) (name : List ℕ) (i : ℕ) → length zones ≤ i → ((k : ℕ) (d : ZoneLine) → k < i → bytes_eq (get_or zones k d).name name ≡ false) →
    length zones ≡ number_of (names_of zones) name
number_nowhere zones name i ge before =
    let d : ZoneLine = record { name = []; base = 0; pages = 0; min = 0; largest = None } in
    let same : length (names_of zones) ≡ length zones = length-map zones (λ (z : ZoneLine). z.name) in
    sym same ∙ none_is (λ n. bytes_eq n name) (names_of zones) [] (λ k below. name_at zones name k d (omega (arith, below, same)) ∙ before k d (omega (arith, below, same)))
