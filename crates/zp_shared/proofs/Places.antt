-- The places of a row, and what stands at them.
use Rattle.std.proofs.Common.{ℕ, suc, ◌≡◌, ◌<◌, ◌+◌, All, List, [], ◌∷◌, ◌++◌, length, map, get_or, refl, sym, ap, ap₂, subst, ◌∙◌, arith, append_assoc, length-append}
use Rattle.std.specs.List.{AllZip, range_with_len}
use Rattle.std.proofs.lemmas.List.FromFn.{get_or-range_with_len, length-range_with_len}
use Rattle.std.proofs.lemmas.List.Elements.{AllZip-get_or}
use Rattle.std.proofs.Math.Seq.{get_or-append_seam}
use Rattle.zp_model.proofs.FirstFound.{range-snoc}
use Rattle.zp_model.specs.Run.{IsLegal, opening_of}
use Rattle.zp_zone.specs.Seats.{ZoneState}
use Rattle.zp_counts.specs.CountBoards.{BoardState}
use Rattle.zp_journal.specs.Journals.{IsJournalOf, JournalState}
use Rattle.zp_share.specs.Shares.{ZoneKey, key_of, no_key}
use Rattle.zp_shared.specs.Rows.{board_at, key_at, no_board, IsLegalBy, IsRowOf}

-- one place more
pub places_more : (n : ℕ) → range_with_len 0 n ++ n ∷ [] ≡ range_with_len 0 (n + 1)
places_more n =
    let e : n + 1 ≡ suc n = omega arith in
    let z : 0 + n ≡ n = omega arith in
    sym (ap (range_with_len 0) e ∙ range-snoc 0 n ∙ ap (λ k. range_with_len 0 n ++ k ∷ []) z)

-- one more of the row, at the next place
pub row_more : {B : Type 0} (row new : List ℕ) (place : ℕ) (ys : List B) (y : B) → row ≡ range_with_len 0 (length ys) → place ≡ length ys →
    new ≡ row ++ place ∷ [] → new ≡ range_with_len 0 (length (ys ++ y ∷ []))
row_more row new place ys y places at pushed =
    pushed
    ∙ ap₂ (λ l i. l ++ i ∷ []) places at
    ∙ places_more (length ys)
    ∙ ap (range_with_len 0) (sym (length-append ys (y ∷ [])))

-- the places of a row are as many as its keys
pub row_length : (keys : List ZoneKey) (places : List ℕ) → IsRowOf keys places → length places ≡ length keys
row_length keys places row = ap length row ∙ length-range_with_len 0 (length keys)

-- the place of a row of one
pub row_of_one : (keys : List ZoneKey) (places : List ℕ) → IsRowOf keys places → length keys ≡ 1 → places ≡ 0 ∷ []
row_of_one keys places row one = row ∙ ap (range_with_len 0) one

read_on : {X : Type 0} (d : X) (ps xs : List X) → map (λ i. get_or (ps ++ xs) i d) (range_with_len (length ps) (length xs)) ≡ xs
read_on d ps [] = refl
read_on d ps (x ∷ xs) =
    let on : map (λ i. get_or ((ps ++ x ∷ []) ++ xs) i d) (range_with_len (length (ps ++ x ∷ [])) (length xs)) ≡ xs = read_on d (ps ++ x ∷ []) xs in
    let tail : map (λ i. get_or (ps ++ x ∷ xs) i d) (range_with_len (length ps + 1) (length xs)) ≡ xs =
    ap (λ n. map (λ i. get_or (ps ++ x ∷ xs) i d) (range_with_len n (length xs))) (sym (length-append ps (x ∷ [])))
    ∙ ap (λ l. map (λ i. get_or l i d) (range_with_len (length (ps ++ x ∷ [])) (length xs))) (sym (append_assoc ps (x ∷ []) xs))
    ∙ on in
    ap₂ (λ y l. y ∷ l) (get_or-append_seam ps x xs d) tail

-- at the places of the row stand its keys
pub keys_at_places : (keys : List ZoneKey) (places : List ℕ) → IsRowOf keys places → map (key_at keys) places ≡ keys
keys_at_places keys places row = ap (map (key_at keys)) row ∙ read_on no_key [] keys

-- the next place of the row is the number of those before it
pub place_next : (n y : ℕ) (ys rest : List ℕ) → ys ++ y ∷ rest ≡ range_with_len 0 n → (y ≡ length ys) × (y < n)
place_next n y ys rest e =
    let many : length ys + length (y ∷ rest) ≡ n = sym (length-append ys (y ∷ rest)) ∙ ap length e ∙ length-range_with_len 0 n in
    let lt : length ys < n = omega (arith, many) in
    let at : y ≡ 0 + length ys = sym (get_or-append_seam ys y rest 0) ∙ ap (λ l. get_or l (length ys) 0) e ∙ get_or-range_with_len 0 n (length ys) 0 lt in
    (omega arith, omega arith)

-- two lists that go together are as long
pub zip_length : {X Y : Type 0} (R : X → Y → Type 0) (xs : List X) (ys : List Y) → AllZip R xs ys → length ys ≡ length xs
zip_length R [] [] zip = refl
zip_length R [] (y ∷ ys) zip = absurd zip
zip_length R (x ∷ xs) [] zip = absurd zip
zip_length R (x ∷ xs) (y ∷ ys) zip = omega (arith, zip_length R xs ys zip.1)

-- what follows of each of the second list from what holds of each of the first
pub zip_all : {X : Type 0} (P Q : X → Type 0) (R : X → X → Type 0) → ((x y : X) → P x → R x y → Q y) → (xs ys : List X) → All P xs → AllZip R xs ys → All Q ys
zip_all P Q R h xs ys all zip = λ k d lt.
    let there : k < length xs = omega (arith, zip_length R xs ys zip, lt) in
    h (get_or xs k d) (get_or ys k d) (all k d there) (AllZip-get_or R xs ys k d d zip there)

-- two lists that go together, with one more of each
pub zip_more : {A B : Type 0} (R : A → B → Type 0) (xs : List A) (ys : List B) (x : A) (y : B) → AllZip R xs ys → R x y → AllZip R (xs ++ x ∷ []) (ys ++ y ∷ [])
zip_more R [] [] x y zip r = (r, zip)
zip_more R [] (b ∷ ys) x y zip r = absurd zip
zip_more R (a ∷ xs) [] x y zip r = absurd zip
zip_more R (a ∷ xs) (b ∷ ys) x y zip r = (zip.0, zip_more R xs ys x y zip.1 r)

-- journals of zones with these keys are legal from the zones' openings
pub legal_by_keys : (zs : List ZoneState) (js : List JournalState) → AllZip IsJournalOf zs js → AllZip IsLegalBy (map key_of zs) js
legal_by_keys [] [] zip = tt
legal_by_keys [] (j ∷ js) zip = absurd zip
legal_by_keys (z ∷ zs) [] zip = absurd zip
legal_by_keys (z ∷ zs) (j ∷ js) zip =
    (subst (IsLegal (opening_of z.plain)) (sym zip.0.entries) zip.0.history.legal, legal_by_keys zs js zip.1)

-- at the places of the row stand its boards
pub boards_at_places : (keys : List ZoneKey) (boards : List BoardState) (places : List ℕ) → IsRowOf keys places → length boards ≡ length keys → map (board_at boards) places ≡ boards
boards_at_places keys boards places row many =
    ap (map (board_at boards)) (row ∙ ap (range_with_len 0) (sym many)) ∙ read_on no_board [] boards
