-- The next line of what is kept, and of what is read behind it.
use Rattle.std.proofs.Common.{ℕ, zero, suc, ◌≡◌, ◌≢◌, ◌<◌, ◌≤◌, ◌+◌, ◌-◌, inl, inr, List, [], ◌∷◌, ◌++◌, length, take, drop, Option, None, Some, refl, sym, ap, subst, ◌∙◌, arith, append_assoc, length-append, length-take-le, length-drop}
use Rattle.std.specs.List.{AllByRecursion}
use Rattle.std.specs.Io.KnownBytes.{Consumes, IsAtEnd}
use Rattle.std.proofs.Math.Seq.{take-append_seam}
use Rattle.std.proofs.lemmas.List.{take-append-drop, take-append-le, take_all, append-nil}
use Rattle.zp_events.specs.declared.reading.TheConstants.{LONGEST_LINE}
use Rattle.zp_events.specs.Words.{IsFirstPlace}
use Rattle.zp_events.specs.Windows.{IsFilled}
use Rattle.zp_events.specs.Reading.{HasNoLineFeed, Spot, spot, IsReadOn, IsAhead, IsTooLong}

-- ---- bytes without a line feed

none_append : (a b : List ℕ) → HasNoLineFeed a → HasNoLineFeed b → HasNoLineFeed (a ++ b)
none_append [] b p q = q
none_append (x ∷ a) b p q = (p.0, none_append a b p.1 q)

pub none_take : (n : ℕ) (a : List ℕ) → HasNoLineFeed a → HasNoLineFeed (take n a)
none_take zero a p = tt
none_take (suc n) [] p = tt
none_take (suc n) (x ∷ a) p = (p.0, none_take n a p.1)

-- ---- one reading after another

pub read_then : (a b c : Option (List ℕ)) (x y : List ℕ) → Consumes a b x → Consumes b c y → Consumes a c (x ++ y)
read_then None b c x y e f = tt
read_then (Some u) None c x y e f = absurd e
read_then (Some u) (Some v) None x y e f = absurd f
read_then (Some u) (Some v) (Some w) x y e f = e ∙ ap (λ (q : List ℕ). x ++ q) f ∙ sym (append_assoc x y w)

pub read_nothing : (a : Option (List ℕ)) → Consumes a a []
read_nothing None = tt
read_nothing (Some x) = refl

pub nothing_read : (at : Spot) → IsReadOn at at
nothing_read at = record { read = []; front = read_nothing at.left; behind = sym (append-nil at.kept); none = refl }

pub more_read : (from mid to : Spot) → IsReadOn from mid → IsReadOn mid to → IsReadOn from to
more_read from mid to a b = record {
  read = a.read ++ b.read;
  front = read_then from.left mid.left to.left a.read b.read a.front b.front;
  behind = b.behind ∙ ap (λ (t : List ℕ). t ++ b.read) a.behind ∙ append_assoc from.kept a.read b.read;
  none = b.none ∙ a.none;
}

pub filled_read : (old new : List ℕ) (n : ℕ) (had left : Option (List ℕ)) (passed : ℕ) → IsFilled old new n had left → IsReadOn (spot old had passed) (spot new left passed)
filled_read old new n had left passed f = record { read = f.read; front = f.front; behind = f.behind; none = refl }

-- ---- what is found

whole_line : (kept : List ℕ) (searched : ℕ) (front rest : List ℕ) → take (length kept - searched) (drop searched kept) ≡ front ++ 10 ∷ rest → kept ≡ (take searched kept ++ front) ++ 10 ∷ rest
whole_line kept searched front rest e =
    let behind : take (length kept - searched) (drop searched kept) ≡ drop searched kept = take_all (length kept - searched) (drop searched kept) (omega (arith, length-drop searched kept)) in
    sym (take-append-drop searched kept) ∙ ap (λ (t : List ℕ). take searched kept ++ t) (sym behind ∙ e) ∙ sym (append_assoc (take searched kept) front (10 ∷ rest))

-- a line feed behind what was searched
pub found_line : (kept : List ℕ) (left : Option (List ℕ)) (passed searched end : ℕ) → searched ≤ length kept → HasNoLineFeed (take searched kept) →
    IsFirstPlace (take (length kept - searched) (drop searched kept)) 10 end → searched + end ≤ LONGEST_LINE → IsAhead (spot kept left passed) (Some (searched + end))
found_line kept left passed searched end within none p short =
    let size : length (take searched kept ++ p.front) ≡ searched + end = omega (arith, length-append (take searched kept) p.front, length-take-le searched kept within, p.place_is) in
    let whole : kept ≡ (take searched kept ++ p.front) ++ 10 ∷ p.rest = whole_line kept searched p.front p.rest p.written in
    record {
      line = take searched kept ++ p.front;
      next = record {
        no_line_feed = none_append (take searched kept) p.front none p.none;
        within = omega arith;
        ended = inl (p.rest, whole);
      };
      found = ap Some (sym size);
    }

-- one that stands too far
pub found_far : (kept : List ℕ) (searched end : ℕ) → searched ≤ length kept → HasNoLineFeed (take searched kept) →
    IsFirstPlace (take (length kept - searched) (drop searched kept)) 10 end → LONGEST_LINE < searched + end → IsTooLong kept
found_far kept searched end within none p far =
    let line = take searched kept ++ p.front in
    let size : length line ≡ searched + end = omega (arith, length-append (take searched kept) p.front, length-take-le searched kept within, p.place_is) in
    let whole : kept ≡ line ++ 10 ∷ p.rest = whole_line kept searched p.front p.rest p.written in
    let front : take (LONGEST_LINE + 1) kept ≡ take (LONGEST_LINE + 1) line = ap (take (LONGEST_LINE + 1)) whole ∙ take-append-le (LONGEST_LINE + 1) line (10 ∷ p.rest) (omega arith) in
    record {
      long = omega (arith, ap length whole, length-append line (10 ∷ p.rest));
      no_line_feed = subst HasNoLineFeed (sym front) (none_take (LONGEST_LINE + 1) line (none_append (take searched kept) p.front none p.none));
    }

-- no line feed in all that is kept
pub none_kept : (kept : List ℕ) (searched : ℕ) → HasNoLineFeed (take searched kept) → AllByRecursion (λ b. b ≢ 10) (take (length kept - searched) (drop searched kept)) → HasNoLineFeed kept
none_kept kept searched none rest =
    let behind : take (length kept - searched) (drop searched kept) ≡ drop searched kept = take_all (length kept - searched) (drop searched kept) (omega (arith, length-drop searched kept)) in
    subst HasNoLineFeed (take-append-drop searched kept) (none_append (take searched kept) (drop searched kept) none (subst HasNoLineFeed behind rest))

pub long_kept : (kept : List ℕ) → HasNoLineFeed kept → LONGEST_LINE < length kept → IsTooLong kept
long_kept kept none long = record { long = long; no_line_feed = none_take (LONGEST_LINE + 1) kept none }

-- what was searched stands before what was read behind it
pub searched_kept : (old new read : List ℕ) (searched : ℕ) → new ≡ old ++ read → searched ≡ length old → HasNoLineFeed old → (searched ≤ length new) × HasNoLineFeed (take searched new)
searched_kept old new read searched e is none =
    let front : take searched new ≡ old = ap (take searched) e ∙ ap (λ (n : ℕ). take n (old ++ read)) is ∙ take-append_seam old read in
    (omega (arith, ap length e, length-append old read), subst HasNoLineFeed (sym front) none)

-- where nothing was read, nothing is left
pub same_kept : (old new : List ℕ) (n : ℕ) (had left : Option (List ℕ)) → IsFilled old new n had left → n ≡ 0 → new ≡ old
same_kept old new n had left f none = f.behind ∙ ap (λ (t : List ℕ). old ++ t) (empty f.read (sym f.count ∙ none)) ∙ append-nil old
  where
    empty : (t : List ℕ) → length t ≡ 0 → t ≡ []
    empty [] g = refl
    empty (x ∷ t) g = absurd (omega arith)

pub rest_ahead : (kept : List ℕ) (left : Option (List ℕ)) (passed n : ℕ) → HasNoLineFeed kept → n ≡ length kept → n ≤ LONGEST_LINE → 0 < n → IsAtEnd left → IsAhead (spot kept left passed) (Some n)
rest_ahead kept left passed n none is short some end = record {
  line = kept;
  next = record { no_line_feed = none; within = omega arith; ended = inr (refl, omega arith, end) };
  found = ap Some is;
}
