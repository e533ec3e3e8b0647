-- One writing after another, and the texts of a list's items, written one after another.
use Rattle.std.proofs.Common.{ℕ, ◌+◌, ◌≡◌, List, ◌++◌, length, take, Option, None, Some, sym, ap, subst, ◌∙◌, append_assoc, ◌<◌, [], ◌∷◌, drop, get_or, Result, Ok, Err, OnErr, inl, inr, arith}
use Rattle.std.proofs.Math.Seq.{take-append-add, take-append_seam}
use Rattle.zp_streams.specs.Streams.{IsWritten, IsBegun}
use Rattle.std.specs.List.{flat_map}
use Rattle.std.proofs.lemmas.Bool.{cases_lt}
use Rattle.std.proofs.lemmas.List.{append-nil, take_all, take_more, take-append-drop, take-append-le}
use Rattle.std.proofs.lemmas.List.Concat.{flat_map-append}

pub written-same : (a b : Option (List ℕ)) (x y : List ℕ) → x ≡ y → IsWritten a b x → IsWritten a b y
written-same a b x y e f = subst (λ (q : List ℕ). IsWritten a b q) e f

pub written-then : (a b c : Option (List ℕ)) (x y : List ℕ) → IsWritten a b x → IsWritten b c y → IsWritten a c (x ++ y)
written-then None b c x y e f = tt
written-then (Some z) None c x y e f = absurd e
written-then (Some z) (Some w) None x y e f = absurd f
written-then (Some z) (Some w) (Some v) x y e f = f ∙ ap (λ q. q ++ y) e ∙ append_assoc z x y

pub begun-then : (a b c : Option (List ℕ)) (x y : List ℕ) → IsWritten a b x → IsBegun b c y → IsBegun a c (x ++ y)
begun-then a b c x y e f =
    (length x + f.0, written-same a c (x ++ take f.0 y) (take (length x + f.0) (x ++ y)) (sym (take-append-add x y f.0)) (written-then a b c x (take f.0 y) e f.1))

-- a beginning of a text is one of a longer text, and of an equal one
pub begun-longer : (x y : Option (List ℕ)) (a b : List ℕ) → IsBegun x y a → IsBegun x y (a ++ b)
begun-longer x y a b f =
    elim (cases_lt (length a) f.0) [
      | inl less ↦ (length a, written-same x y _ _ (take_all f.0 a (omega arith) ∙ sym (take-append_seam a b)) f.1)
      | inr most ↦ (f.0, written-same x y _ _ (sym (take-append-le f.0 a b most)) f.1)
    ]

pub begun-same : (x y : Option (List ℕ)) (a b : List ℕ) → a ≡ b → IsBegun x y a → IsBegun x y b
begun-same x y a b e f = (f.0, written-same x y _ _ (ap (λ (q : List ℕ). take f.0 q) e) f.1)

pub on_err : {T E P : Type 0} (r : Result T E) → P → OnErr r P
on_err (Ok x) p = tt
on_err (Err e) p = p

-- one item more
pub item_more : {X : Type 0} (f : X → List ℕ) (xs : List X) (i : ℕ) (x : X) → i < length xs → x ≡ get_or xs i x → flat_map f (take i xs) ++ f x ≡ flat_map f (take (i + 1) xs)
item_more f xs i x lt is =
    sym (ap (λ ys. flat_map f ys) (take_more xs i x lt ∙ ap (λ y. take i xs ++ y ∷ []) (sym is)) ∙ flat_map-append f (take i xs) (x ∷ []) ∙ ap (λ q. flat_map f (take i xs) ++ q) (append-nil (f x)))

-- what is written for one item more
pub written_item : {X : Type 0} (f : X → List ℕ) (xs : List X) (i : ℕ) (x : X) (a b c : Option (List ℕ)) → i < length xs → x ≡ get_or xs i x →
    IsWritten a b (flat_map f (take i xs)) → IsWritten b c (f x) → IsWritten a c (flat_map f (take (i + 1) xs))
written_item f xs i x a b c lt is e g = written-same a c _ _ (item_more f xs i x lt is) (written-then a b c (flat_map f (take i xs)) (f x) e g)

pub begun_item : {X : Type 0} (f : X → List ℕ) (xs : List X) (i : ℕ) (x : X) (a b c : Option (List ℕ)) → i < length xs → x ≡ get_or xs i x →
    IsWritten a b (flat_map f (take i xs)) → IsBegun b c (f x) → IsBegun a c (flat_map f xs)
begun_item f xs i x a b c lt is e g =
    begun-same a c _ _ (sym (flat_map-append f (take (i + 1) xs) (drop (i + 1) xs)) ∙ ap (λ ys. flat_map f ys) (take-append-drop (i + 1) xs))
    (begun-longer a c _ (flat_map f (drop (i + 1) xs))
    (begun-same a c _ _ (item_more f xs i x lt is) (begun-then a b c (flat_map f (take i xs)) (f x) e g)))
