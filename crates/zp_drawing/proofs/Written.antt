-- What a writer got piece by piece, and the pieces of a row.
use Rattle.std.proofs.Common.{◌≡◌, ◌+◌, ◌-◌, ◌∙◌, ap, sym, min, arith, List, [], ◌∷◌, ◌++◌, ℕ, Option, Some, None}
use Rattle.std.proofs.Common.{Result, Ok, Err, OnOk, append_assoc, length, take, drop, flat_map, zero-add, add-one}
use Rattle.std.specs.List.{range_with_len}
use Rattle.std.specs.Io.KnownBytes.{Appends}
use Rattle.std.proofs.lemmas.List.{flat_map_more, length-drop, take_all, take_min}
use Rattle.zp_model.proofs.FirstFound.{range-snoc}

pub Appends-then : (a b c : Option (List ℕ)) (bs cs : List ℕ) → Appends a b bs → Appends b c cs → Appends a c (bs ++ cs)
Appends-then None b c bs cs p q = tt
Appends-then (Some x) None c bs cs p q = absurd p
Appends-then (Some x) (Some y) None bs cs p q = absurd q
Appends-then (Some x) (Some y) (Some z) bs cs p q = q ∙ ap (λ l. l ++ cs) p ∙ append_assoc x bs cs

-- the text of one piece more
pub flat_map-range_more : (f : ℕ → List ℕ) (n : ℕ) → flat_map f (range_with_len 0 (n + 1)) ≡ flat_map f (range_with_len 0 n) ++ f n
flat_map-range_more f n =
    ap (λ k. flat_map f (range_with_len 0 k)) (add-one n)
    ∙ ap (flat_map f) (range-snoc 0 n ∙ ap (λ k. range_with_len 0 n ++ k ∷ []) (zero-add n)) ∙ sym (flat_map_more f [] (range_with_len 0 n) n)

-- a piece of a row, or what is left of the row where that is less
pub chunk_cut : {X : Type 0} (xs : List X) (from size m : ℕ) → m ≡ min (length xs - from) size
    → take m (take (length xs - from) (drop from xs)) ≡ take size (drop from xs)
chunk_cut xs from size m is =
    let whole : take (length xs - from) (drop from xs) ≡ drop from xs = take_all (length xs - from) (drop from xs) (simp length-drop (omega arith)) in
    let left : m ≡ min size (length (drop from xs)) = simp length-drop (omega arith) in
    ap (take m) whole ∙ ap (λ n. take n (drop from xs)) left ∙ take_min size (drop from xs)

-- what follows where a call ended well
pub OnOk-then : {T E : Type 0} (P Q : Type 0) (r : Result T E) → (P → Q) → OnOk r P → OnOk r Q
OnOk-then P Q (Ok x) then h = then h
OnOk-then P Q (Err e) then h = h
