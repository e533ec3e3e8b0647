-- The bytes between two places of a buffer, behind which more are read.
use Rattle.std.proofs.Common.{ℕ, ◌≡◌, ◌+◌, ◌-◌, ◌≤◌, ◌<◌, List, ◌++◌, length, take, drop, min, refl, sym, ap, ◌∙◌, arith, length-append, length-drop}
use Rattle.std.proofs.Math.Seq.{take-append-add}
use Rattle.std.specs.Prelude.{Vec}
use Rattle.std.specs.Vec.{with_items}
use Rattle.std.proofs.lemmas.List.{with_items_is}
use borrow.Rule.Slice.PartMut.{put_mid, post_of}
use Rattle.std.proofs.lemmas.List.{drop-append-le, take-append-le, take_all, take-append-drop, length-take, length-take-le, drop-drop, drop-take}

-- between two places of a buffer whose front is this stand these bytes
front_between : (s e : ℕ) (front more : List ℕ) → s ≤ e → e ≡ length front → take (e - s) (drop s (front ++ more)) ≡ drop s front
front_between s e front more le is =
    let cut : drop s (front ++ more) ≡ drop s front ++ more = drop-append-le s front more (omega arith) in
    let size : length (drop s front) ≡ e - s = length-drop s front ∙ ap (λ (n : ℕ). n - s) (sym is) in
    ap (take (e - s)) cut ∙ take-append-le (e - s) (drop s front) more (omega arith) ∙ take_all (e - s) (drop s front) (omega arith)

-- of what is written there the first n bytes come behind them
grown : (s e n : ℕ) (buffer written rest : List ℕ) → s ≤ e → e ≤ length buffer → n ≤ length written →
    take ((e + n) - s) (drop s (take e buffer ++ (written ++ rest))) ≡ take (e - s) (drop s buffer) ++ take n written
grown s e n buffer written rest le within some =
    let size : length (take e buffer) ≡ e = length-take-le e buffer within in
    let cut : drop s (take e buffer ++ (written ++ rest)) ≡ drop s (take e buffer) ++ (written ++ rest) = drop-append-le s (take e buffer) (written ++ rest) (omega arith) in
    let long : length (drop s (take e buffer)) ≡ e - s = length-drop s (take e buffer) ∙ ap (λ (m : ℕ). m - s) size in
    let sum : (e + n) - s ≡ length (drop s (take e buffer)) + n = omega arith in
    let kept : drop s (take e buffer) ≡ take (e - s) (drop s buffer) =
    sym (ap (λ (b : List ℕ). take (e - s) (drop s b)) (sym (take-append-drop e buffer)) ∙ front_between s e (take e buffer) (drop e buffer) le (sym size)) in
    ap (λ (m : ℕ). take m (drop s (take e buffer ++ (written ++ rest)))) sum
    ∙ ap (take (length (drop s (take e buffer)) + n)) cut
    ∙ take-append-add (drop s (take e buffer)) (written ++ rest) n
    ∙ ap (λ (b : List ℕ). b ++ take n (written ++ rest)) kept
    ∙ ap (λ (b : List ℕ). take (e - s) (drop s buffer) ++ b) (take-append-le n written rest some)

-- and those behind a place between them
pub later_between : (s e n : ℕ) (buffer : List ℕ) → s ≤ e → n ≤ length (take (e - s) (drop s buffer)) → take (e - (s + n)) (drop (s + n) buffer) ≡ drop n (take (e - s) (drop s buffer))
later_between s e n buffer le within =
    let size : length (take (e - s) (drop s buffer)) ≡ min (e - s) (length (drop s buffer)) = length-take (e - s) (drop s buffer) in
    let rest : e - s ≡ n + (e - (s + n)) = omega arith in
    ap (take (e - (s + n))) (sym (drop-drop n s buffer)) ∙ sym (drop-take n (e - (s + n)) (drop s buffer)) ∙ ap (λ (m : ℕ). drop n (take m (drop s buffer))) (sym rest)

-- a vector whose part from a place on was lent keeps its length
lent_size : (e k : ℕ) (buffer piece : List ℕ) → e ≤ length buffer → k ≡ length buffer - e → length piece ≡ k → length (put_mid e k buffer piece) ≡ length buffer
lent_size e k buffer piece within rest size =
    let front : length (take e buffer) ≡ e = length-take-le e buffer within in
    let behind : length (post_of e k buffer) ≡ length (drop e buffer) - k = length-drop k (drop e buffer) in
    let part : length (drop e buffer) ≡ length buffer - e = length-drop e buffer in
    omega (arith, length-append (take e buffer) (piece ++ post_of e k buffer), length-append piece (post_of e k buffer))

-- a vector whose part behind the second place was lent
pub record IsLent {Z : Type 0} (v : Vec ℕ Z) (s e : ℕ) (buffer piece : List ℕ) : Type 0 where
  pub same : buffer ≡ v.items
  pub size : length buffer ≡ v.len
  pub ordered : s ≤ e
  pub within : e ≤ length buffer
  pub piece_size : length piece ≡ length buffer - e

lent_items : {Z : Type 0} (v : Vec ℕ Z) (s e : ℕ) (buffer piece : List ℕ) → IsLent v s e buffer piece →
    (with_items v (put_mid e (length buffer - e) buffer piece)).items ≡ put_mid e (length buffer - e) buffer piece
lent_items v s e buffer piece l =
    with_items_is v (put_mid e (length buffer - e) buffer piece) (lent_size e (length buffer - e) buffer piece l.within refl l.piece_size ∙ l.size)

pub more_between : {Z : Type 0} (v : Vec ℕ Z) (s e n : ℕ) (buffer piece kept : List ℕ) → IsLent v s e buffer piece → n ≤ length piece → take (e - s) (drop s v.items) ≡ kept →
    take ((e + n) - s) (drop s (with_items v (put_mid e (length buffer - e) buffer piece)).items) ≡ kept ++ take n piece
more_between v s e n buffer piece kept l some is =
    ap (λ (b : List ℕ). take ((e + n) - s) (drop s b)) (lent_items v s e buffer piece l)
    ∙ grown s e n buffer piece (post_of e (length buffer - e) buffer) l.ordered l.within some ∙ ap (λ (b : List ℕ). b ++ take n piece) (ap (λ (b : List ℕ). take (e - s) (drop s b)) l.same ∙ is)

-- the part that is lent has the bytes behind the second place
pub piece_size : (e : ℕ) (buffer : List ℕ) → length (take (length buffer - e) (drop e buffer)) ≡ length buffer - e
piece_size e buffer = length-take-le (length buffer - e) (drop e buffer) (omega (arith, length-drop e buffer))

pub front_kept : (n : ℕ) (front items kept : List ℕ) → items ≡ front → take n front ≡ kept → take (n - 0) (drop 0 items) ≡ kept
front_kept n front items kept e f =
    let same : n - 0 ≡ n = omega arith in
    ap (λ (m : ℕ). take m (drop 0 items)) same ∙ ap (take n) e ∙ f

-- how many bytes stand between two places
pub size_between : (s e : ℕ) (buffer kept : List ℕ) → e ≤ length buffer → take (e - s) (drop s buffer) ≡ kept → length kept ≡ e - s
size_between s e buffer kept within is =
    sym (ap length is) ∙ length-take-le (e - s) (drop s buffer) (omega (arith, length-drop s buffer))

-- there is room behind the second place
pub room_behind : (e : ℕ) (buffer : List ℕ) → e < length buffer → 0 < length (take (length buffer - e) (drop e buffer))
room_behind e buffer less = omega (arith, piece_size e buffer)
