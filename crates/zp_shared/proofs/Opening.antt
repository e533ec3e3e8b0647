-- Zones that are opened for threads, and the readers of their boards.
use Rattle.std.proofs.Common.{ℕ, ◌≡◌, List, [], ◌∷◌, ◌++◌, All, length, map, take, drop, refl, sym, ap, subst, ◌∙◌, arith, append_assoc, length-append, slice_index_or}
use Rattle.std.specs.List.{AllZip}
use Rattle.std.proofs.Math.Seq.{get_or-append_seam}
use Rattle.std.proofs.lemmas.List.{length-map, map-append}
use Rattle.std.proofs.lemmas.Simd.{map-map}
use Rattle.std.proofs.lemmas.List.Elements.{All-push, All-head, All-tail}
use Rattle.zp_model.proofs.RowLists.{written_back}
use Rattle.zp_zone.specs.Seats.{ZoneState}
use Rattle.zp_share.specs.Shares.{key_of}
use Rattle.zp_shared.specs.Rows.{OpenedState, AreReadersOf, opened_board, opened_key, opened_reader}

-- one more goes over to those before it
pub one_over : {X : Type 0} (before rest all after : List X) (x : X) → before ++ rest ≡ all → rest ≡ x ∷ after → (before ++ x ∷ []) ++ after ≡ all
one_over before rest all after x whole next = append_assoc before (x ∷ []) after ∙ ap (λ l. before ++ l) (sym next) ∙ whole

-- what stands at the place of the next one in another list, where that is made of these in turn
pub at_next : {X Y : Type 0} (f : X → Y) (all before rest after : List X) (x : X) (ys : List Y) (n : ℕ) (d : Y) → map f all ≡ ys → before ++ rest ≡ all → rest ≡ x ∷ after → n ≡ length before →
    f x ≡ slice_index_or ys n d
at_next f all before rest after x ys n d made whole next at =
    let same : map f before ++ f x ∷ map f after ≡ ys = sym (map-append f before (x ∷ after)) ∙ ap (map f) (ap (λ l. before ++ l) (sym next) ∙ whole) ∙ made in
    let place : length (map f before) ≡ n = length-map before f ∙ sym at in
    sym (get_or-append_seam (map f before) (f x) (map f after) d) ∙ ap (λ l. slice_index_or l (length (map f before)) d) same ∙ ap (λ k. slice_index_or ys k d) place

-- two lists that are as long, each with one more
pub many_more : {A B : Type 0} (xs new : List A) (x : A) (ys : List B) (y : B) → length xs ≡ length ys → new ≡ xs ++ x ∷ [] → length new ≡ length (ys ++ y ∷ [])
many_more xs new x ys y many pushed = omega (arith, many, ap length pushed, length-append xs (x ∷ []), length-append ys (y ∷ []))

-- a list that has one more, of which the same holds
pub all_more : {X : Type 0} (P : X → Type 0) (xs ys : List X) (x : X) → All P xs → ys ≡ xs ++ x ∷ [] → P x → All P ys
all_more P xs ys x all pushed here = subst (All P) (sym pushed) (All-push P xs x all here)

-- what holds of each of a list holds of it beside any other list that is as long
pub zip_from_all : {A B : Type 0} (P : A → Type 0) (xs : List A) (ys : List B) → All P xs → length xs ≡ length ys → AllZip (λ a b. P a) xs ys
zip_from_all P [] [] all many = tt
zip_from_all P [] (y ∷ ys) all many = absurd (omega (arith, many))
zip_from_all P (x ∷ xs) [] all many = absurd (omega (arith, many))
zip_from_all P (x ∷ xs) (y ∷ ys) all many = (All-head P x xs all, zip_from_all P xs ys (All-tail P x xs all) (omega (arith, many)))

-- the new readers of opened zones are readers of their row
pub readers_fit : (os : List OpenedState) → AreReadersOf (map opened_key os) (map opened_board os) (map opened_reader os)
readers_fit [] = (refl, refl)
readers_fit (o ∷ os) = let rest = readers_fit os in (omega (arith, rest.0), ap (λ l. o.board.tie ∷ l) rest.1)

-- opened zones that were lent, and came back as they were, have the keys that the zones had
pub keys_back : (os lent : List OpenedState) (n : ℕ) (zs : List ZoneState) → lent ≡ os → n ≡ length os → map (λ (o : OpenedState). o.zone) os ≡ zs →
    map opened_key (take n (lent ++ drop (length lent) os)) ≡ map key_of zs
keys_back os lent n zs same many zones =
    ap (map opened_key) (written_back lent os n (ap length same) many ∙ same)
    ∙ sym (map-map key_of (λ (o : OpenedState). o.zone) os)
    ∙ ap (map key_of) zones
