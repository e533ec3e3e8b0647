-- The first page of a row that none outweighs is that of the largest weight that comes first.
use Rattle.std.proofs.Common.{ℕ, ◌≡◌, ◌<◌, suc, zero, arith, Bool, true, false, cond, ap, ◌∙◌, List, [], ◌∷◌, length, get_or, Some, find}
use Rattle.std.specs.List.{IsFirstMaxByKey}
use Rattle.std.specs.Option.{option_map_or}
use Rattle.std.proofs.lemmas.Bool.{le-leb, lt-leb}
use Rattle.std.proofs.lemmas.List.{get_or_default}
use Rattle.std.proofs.lemmas.List.Folds.{list_all_at}
use Rattle.std.proofs.lemmas.List.Sums.{list_all-from_AllPass}
use Rattle.zp_view.specs.declared.page_state.PageState.{PageState}
use Rattle.zp_drawing.specs.declared.cells.Kind.TheVariants.{Posted}
use Rattle.zp_drawing.specs.Kinds.{kind_of}
use Rattle.zp_drawing.specs.Glyphs.{weight_of, is_not_outweighed, shown_kind}

-- the first element that passes is found
pub find_first : {X : Type 0} (p : X → Bool) (xs : List X) (b : ℕ) (d : X) → b < length xs → p (get_or xs b d) ≡ true
    → ((k : ℕ) → k < b → p (get_or xs k d) ≡ false) → find p xs ≡ Some (get_or xs b d)
find_first p [] b d within passes fails = absurd (omega arith)
find_first p (x ∷ xs) zero d within passes fails = ap (λ t. cond t (Some x) (find p xs)) passes
find_first p (x ∷ xs) (suc b) d within passes fails =
    ap (λ t. cond t (Some x) (find p xs)) (fails 0 (omega arith)) ∙ find_first p xs b d (omega arith) passes (λ k below. fails (suc k) (omega arith))

-- a page that counts most is not outweighed
pub is_not_outweighed-most : (row : List PageState) (b : ℕ) (d : PageState) → b < length row → IsFirstMaxByKey (weight_of row) row (length row) b
    → is_not_outweighed row (get_or row b d) ≡ true
is_not_outweighed-most row b d within most =
    list_all-from_AllPass
    _
    row
    (λ k e below. let same = get_or_default row b d e within in rw same (le-leb _ _ (most.1 k e below)))

-- a cell is shown by the kind of the first of those
pub shown_kind-first_most : (row : List PageState) (b : ℕ) (d : PageState) → b < length row → IsFirstMaxByKey (weight_of row) row (length row) b
    → shown_kind row ≡ kind_of (get_or row b d)
shown_kind-first_most row b d within most =
    ap
    (λ found. option_map_or kind_of found Posted)
    (find_first
    (is_not_outweighed row)
    row
    b
    d
    within
    (is_not_outweighed-most row b d within most)
    (λ k below. list_all_at _ row b d within (lt-leb _ _ (most.2 k d below))))
