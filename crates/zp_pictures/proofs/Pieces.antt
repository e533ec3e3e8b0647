-- A text that is written piece by piece.
use Rattle.std.proofs.Common.{ℕ, ◌≤◌, ◌+◌, ◌-◌, List, length, take, drop, sym, arith, length-drop, Option, subst, ap}
use Rattle.std.specs.Io.KnownBytes.{Appends}
use Rattle.std.proofs.KnownBytes.{Appends-trans}
use Rattle.std.proofs.Math.Seq.{take-add}
use Rattle.std.proofs.lemmas.List.{take_rest}
use Rattle.zp_streams.specs.Streams.{IsBegun}

-- the piece that the code lends is the rest of the text
pub piece_more : (text : List ℕ) (at n : ℕ) (a b c : Option (List ℕ)) → Appends a b (take at text) →
    Appends b c (take n (take (length text - at) (drop at text))) → Appends a c (take (at + n) text)
piece_more text at n a b c so_far h =
    let P : List ℕ → Type 0 = λ bytes. Appends a c bytes in
    let Q : List ℕ → Type 0 = λ bytes. Appends b c (take n bytes) in
    subst P (sym (take-add at n text)) (Appends-trans a b c _ _ so_far (subst Q (take_rest text at) h))

pub piece_within : (text : List ℕ) (at n : ℕ) → at ≤ length text → n ≤ length (take (length text - at) (drop at text)) → at + n ≤ length text
piece_within text at n le within = omega (arith, length-drop at text, ap length (take_rest text at))

-- and a beginning of the rest
pub piece_begun : (text : List ℕ) (at : ℕ) (a b c : Option (List ℕ)) → Appends a b (take at text) →
    IsBegun b c (take (length text - at) (drop at text)) → IsBegun a c text
piece_begun text at a b c so_far h = (at + h.0, piece_more text at h.0 a b c so_far h.1)
