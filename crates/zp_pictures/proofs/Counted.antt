-- What the tables say of the zones, zone by zone.
use Rattle.std.proofs.Common.{ℕ, ◌≡◌, ◌<◌, ◌+◌, List, [], ◌∷◌, ◌++◌, length, map, max, take, get_or, set, sym, subst, ap, ◌∙◌, arith, refl, true, cond, Result, Ok, Err, MatchResult}
use Rattle.std.specs.Result.{IsErrAnd, is_ok}
use Rattle.std.proofs.lemmas.List.{get_or-map, length-map, take_more, map-append}
use Rattle.std.proofs.lemmas.List.Edits.{fill_by_more}
use Rattle.std.proofs.lemmas.List.Sums.{fold_more}
use Rattle.zp_zone.specs.NamedZone.{NamedZone}
use Rattle.zp_zone.specs.Seats.{ZoneState}
use Rattle.zp_share.specs.Commands.{no_zone, zone_at}
use Rattle.zp_share.specs.Shares.{named_zone}
use Rattle.zp_drawing.specs.declared.type_tables.TypeCounts.{TypeCounts}
use Rattle.zp_drawing.specs.TypeTables.{type_tables}
use Rattle.zp_pictures.specs.Tables.{largest_of, tables_of, type_counts}

-- one order more
pub count_more : (f : ℕ → ℕ) (xs : List ℕ) (i m : ℕ) → i < length xs → m ≡ f i → ((k : ℕ) → k < i → get_or xs k 0 ≡ f k) → (k : ℕ) → k < i + 1 →
    get_or (set xs i m) k 0 ≡ f k
count_more f xs i m lt is so_far k below =
    let P : ℕ → Type 0 = λ v. get_or (set xs i v) k 0 ≡ f k in
    subst P (sym is) (fill_by_more f xs i 0 lt so_far k below)

-- one zone more
pub largest_more : (zs : List ZoneState) (i : ℕ) (z : ZoneState) (m n x : ℕ) → i < length zs → z ≡ get_or zs i z →
    m ≡ largest_of (take i (map named_zone zs)) →
    x ≡ z.plain.area.largest → n ≡ max m x → n ≡ largest_of (take (i + 1) (map named_zone zs))
largest_more zs i z m n x lt is so_far here larger =
    let there : x ≡ (get_or (map named_zone zs) i (named_zone z)).plain.area.largest =
    here ∙ ap (λ (y : ZoneState). y.plain.area.largest) is ∙ ap (λ (y : NamedZone). y.plain.area.largest) (sym (get_or-map named_zone zs i z (named_zone z) lt)) in
    larger ∙ ap (λ k. max k x) so_far ∙ ap (λ k. max (largest_of (take i (map named_zone zs))) k) there
    ∙ sym (fold_more (λ k (y : NamedZone). max k y.plain.area.largest) 0 (map named_zone zs) i (named_zone z) (omega (arith, length-map zs named_zone)))

-- an error that goes on as another one was one before
was_ok : {U E F : Type 0} (r : Result U E) (s : Result U F) (u : U) (Q : E → F → Type 0) →
    MatchResult r (λ x. s ≡ Ok x) (λ e. IsErrAnd s (Q e)) → s ≡ Ok u → is_ok r ≡ true
was_ok (Ok x) s u Q h is = refl
was_ok (Err e) s u Q h is = absurd (subst (λ t. IsErrAnd t (Q e)) is h)

pub pushed : {U E F X : Type 0} (r : Result U E) (s : Result U F) (u : U) (Q : E → F → Type 0) (a b : List X) (x : X) →
    MatchResult r (λ y. s ≡ Ok y) (λ e. IsErrAnd s (Q e)) →
    s ≡ Ok u → b ≡ cond (is_ok r) (a ++ x ∷ []) a → b ≡ a ++ x ∷ []
pushed r s u Q a b x h is e = e ∙ ap (λ t. cond t (a ++ x ∷ []) a) (was_ok r s u Q h is)

pub counts_more : (zones : List NamedZone) (i : ℕ) (a b : List TypeCounts) (x : TypeCounts) → i < length zones →
    a ≡ map type_counts (take i zones) → x ≡ type_counts (zone_at zones i) → b ≡ a ++ x ∷ [] →
    b ≡ map type_counts (take (i + 1) zones)
counts_more zones i a b x lt so_far here more =
    more ∙ ap (λ (l : List TypeCounts). l ++ x ∷ []) so_far ∙ ap (λ y. map type_counts (take i zones) ++ y ∷ []) here
    ∙ sym (ap (map type_counts) (take_more zones i no_zone lt) ∙ map-append type_counts (take i zones) (zone_at zones i ∷ []))

-- the text that is written into an empty one
pub tables_made : (zones : List NamedZone) (largest : ℕ) (counts : List TypeCounts) (a b : List ℕ) → a ≡ [] → b ≡ a ++ type_tables largest counts →
    largest ≡ largest_of zones → counts ≡ map type_counts zones → b ≡ tables_of zones
unfolding tables_of
tables_made zones largest counts a b none is most told =
    is ∙ ap (λ (l : List ℕ). l ++ type_tables largest counts) none ∙ ap (λ m. type_tables m counts) most ∙ ap (λ (l : List TypeCounts). type_tables (largest_of zones) l) told
