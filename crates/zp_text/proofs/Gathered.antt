-- Texts that are gathered, one after another, before they are written.
use Rattle.std.proofs.Common.{ℕ, ◌+◌, ◌-◌, ◌≡◌, ◌<◌, ◌≤◌, List, [], ◌++◌, length, take, drop, get_or, Option, None, Some, sym, ap, subst, ◌∙◌, append_assoc, arith, length-drop}
use Rattle.std.proofs.Math.Seq.{take-add}
use Rattle.std.specs.List.{flat_map}
use Rattle.std.proofs.lemmas.List.{append-nil, length-take, length-take-le, take-append-drop, take-take}
use Rattle.std.proofs.lemmas.List.Concat.{flat_map-append}
use Rattle.zp_streams.specs.Streams.{IsWritten, IsBegun}
use Rattle.zp_text.specs.Gathering.{IsGathered}
use Rattle.zp_streams.proofs.Written.{written-same, written-then, begun-then, begun-longer, begun-same, item_more}

-- at first nothing is held, and nothing was written
pub none_gathered : (a : Option (List ℕ)) (h : List ℕ) → h ≡ [] → IsGathered a a [] h []
none_gathered a h e = record { taken = []; written = nothing a; held = e }
  where
    nothing : (a : Option (List ℕ)) → IsWritten a a []
    nothing None = tt
    nothing (Some z) = sym (append-nil z)

-- room was made, and a text was appended
pub gathered-then : (a b c : Option (List ℕ)) (g h i x y : List ℕ) → IsGathered a b [] g x → IsGathered b c g h [] → i ≡ h ++ y → IsGathered a c [] i (x ++ y)
gathered-then a b c g h i x y before room is = record {
  taken = before.taken ++ room.taken;
  written = written-then a b c before.taken room.taken before.written room.written;
  held = append_assoc before.taken room.taken i
      ∙ ap (λ q. before.taken ++ (room.taken ++ q)) is
      ∙ ap (λ q. before.taken ++ q) (sym (append_assoc room.taken h y) ∙ ap (λ q. q ++ y) (room.held ∙ append-nil g))
      ∙ sym (append_assoc before.taken g y)
      ∙ ap (λ q. q ++ y) before.held;
}

-- all that was held was written, or a beginning of it
pub gathered_written : (a b c : Option (List ℕ)) (g x : List ℕ) → IsGathered a b [] g x → IsWritten b c g → IsWritten a c x
gathered_written a b c g x before is = written-same a c _ _ before.held (written-then a b c before.taken g before.written is)

pub gathered_begun : (a b c : Option (List ℕ)) (g x : List ℕ) → IsGathered a b [] g x → IsBegun b c g → IsBegun a c x
gathered_begun a b c g x before is = begun-same a c _ _ before.held (begun-then a b c before.taken g before.written is)

pub gathered-same : (a b : Option (List ℕ)) (g x y : List ℕ) → x ≡ y → IsGathered a b [] g x → IsGathered a b [] g y
gathered-same a b g x y e is = subst (λ (q : List ℕ). IsGathered a b [] g q) e is

-- one item more
pub gathered_item : {X : Type 0} (f : X → List ℕ) (xs : List X) (i : ℕ) (x : X) (a b c : Option (List ℕ)) (g h k : List ℕ) → i < length xs → x ≡ get_or xs i x →
    IsGathered a b [] g (flat_map f (take i xs)) → IsGathered b c g h [] → k ≡ h ++ f x → IsGathered a c [] k (flat_map f (take (i + 1) xs))
gathered_item f xs i x a b c g h k lt is before room more = gathered-same a c k _ _ (item_more f xs i x lt is) (gathered-then a b c g h k (flat_map f (take i xs)) (f x) before room more)

-- of the items so far a beginning was written
pub begun_items : {X : Type 0} (f : X → List ℕ) (xs : List X) (i : ℕ) (a b c : Option (List ℕ)) (g : List ℕ) →
    IsGathered a b [] g (flat_map f (take i xs)) → IsBegun b c g → IsBegun a c (flat_map f xs)
begun_items f xs i a b c g before is =
    begun-same a c _ _ (sym (flat_map-append f (take i xs) (drop i xs)) ∙ ap (λ ys. flat_map f ys) (take-append-drop i xs))
    (begun-longer a c (flat_map f (take i xs)) (flat_map f (drop i xs)) (gathered_begun a b c g _ before is))

-- the part of a text behind its first `at` bytes and up to `end` was lent, and its first n bytes were taken
pub part_taken : (text : List ℕ) (at end n : ℕ) (a b c : Option (List ℕ)) → at ≤ end → end ≤ length text → n ≤ length (take (end - at) (drop at text)) →
    IsWritten a b (take at text) → IsWritten b c (take n (take (end - at) (drop at text))) → (at + n ≤ end) × IsWritten a c (take (at + n) text)
part_taken text at end n a b c le inside within before is =
    let short : n ≤ end - at = omega (arith, within, length-take (end - at) (drop at text)) in
    (omega arith, written-same a c _ _ (sym (take-add at n text)) (written-then a b c _ _ before (written-same b c _ _ (take-take n (end - at) (drop at text) short) is)))

pub part_length : (text : List ℕ) (at end : ℕ) → at ≤ end → end ≤ length text → length (take (end - at) (drop at text)) ≡ end - at
part_length text at end le inside = length-take-le (end - at) (drop at text) (omega (arith, length-drop at text))

-- where no byte of the part is left, all of it was taken
pub whole_part : (text : List ℕ) (at end n : ℕ) → at ≤ end → end ≤ length text → n ≤ length (take (end - at) (drop at text)) → end ≤ at + n → n ≡ length (take (end - at) (drop at text))
whole_part text at end n le inside within all = omega (arith, within, all, part_length text at end le inside)
