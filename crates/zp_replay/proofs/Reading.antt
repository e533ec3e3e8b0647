-- One read after another, and what a full buffer says.
use Rattle.std.proofs.Common.{ℕ, ◌+◌, ◌≡◌, ◌≤◌, List, ◌++◌, length, take, Option, None, Some, sym, ap, subst, ◌∙◌, append_assoc, arith, length-append, length-take-le}
use Rattle.std.specs.Io.KnownBytes.{Consumes}
use Rattle.std.proofs.Math.Seq.{take-append-add, take-append_seam}
use Rattle.std.proofs.lemmas.List.{take-append-le}
use borrow.Rule.Slice.PartMut.{put_mid, post_of}
use Rattle.zp_replay.specs.declared.input.TheConstants.{INPUT_LIMIT}
use Rattle.zp_replay.specs.Inputs.{IsFilled, IsRead}

pub read-then : (a b c : Option (List ℕ)) (x y z : List ℕ) → Consumes a b x → Consumes b c y → z ≡ x ++ y → Consumes a c z
read-then None b c x y z e f g = tt
read-then (Some u) None c x y z e f g = absurd e
read-then (Some u) (Some v) None x y z e f g = absurd f
read-then (Some u) (Some v) (Some w) x y z e f g =
    e ∙ ap (λ q. x ++ q) f ∙ sym (append_assoc x y w) ∙ ap (λ q. q ++ w) (sym g)

-- the front of a buffer, where n bytes were read into the part from `at` on
pub take-part : (at n k : ℕ) (buffer piece : List ℕ) → at ≤ length buffer → n ≤ length piece → take (at + n) (put_mid at k buffer piece) ≡ take at buffer ++ take n piece
take-part at n k buffer piece h le =
    let front : length (take at buffer) ≡ at = length-take-le at buffer h in
    ap (λ m. take (m + n) (put_mid at k buffer piece)) (sym front)
    ∙ take-append-add (take at buffer) (piece ++ post_of at k buffer) n
    ∙ ap (λ q. take at buffer ++ q) (take-append-le n piece (post_of at k buffer) le)

pub length-part : (at n k : ℕ) (buffer piece : List ℕ) → at ≤ length buffer → n ≤ length piece → at + n ≤ length (put_mid at k buffer piece)
length-part at n k buffer piece h le =
    let front : length (take at buffer) ≡ at = length-take-le at buffer h in
    omega (arith, length-append (take at buffer) (piece ++ post_of at k buffer), length-append piece (post_of at k buffer))

-- what was read into a buffer of the limit's length
pub read-filled : (old new : Option (List ℕ)) (buffer text : List ℕ) (n : ℕ) → IsFilled old new buffer n → length buffer ≡ INPUT_LIMIT → text ≡ take n buffer → IsRead old new text
read-filled old new buffer text n f size e =
    let count : length text ≡ n = ap length e ∙ length-take-le n buffer f.within in
    let within : n ≤ length buffer = f.within in
    record {
      within = omega arith;
      front = subst (λ (q : List ℕ). Consumes old new q) (sym e) f.front;
      end = λ less. f.end (omega arith);
    }

-- a buffer as a vector has it, cut off
pub take-front : (n len : ℕ) (buffer spare text : List ℕ) → length buffer ≡ len → text ≡ take n (take len (buffer ++ spare)) → text ≡ take n buffer
take-front n len buffer spare text size e =
    e ∙ ap (λ m. take n (take m (buffer ++ spare))) (sym size) ∙ ap (λ q. take n q) (take-append_seam buffer spare)
