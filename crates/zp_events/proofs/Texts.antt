-- The lines of a text, one after another.
use Rattle.std.proofs.Common.{ℕ, ◌≡◌, ◌+◌, ◌-◌, ◌^◌, ◌<◌, ◌≤◌, ◌++◌, inl, inr, List, [], ◌∷◌, length, take, drop, min, Option, Some, Result, Ok, Err, OnOk, Bool, true, false, not, MatchBool, ne_eqb, refl, sym, ap, subst, ◌∙◌, arith, append_assoc, length-append}
use Rattle.std.specs.List.{AllByRecursion}
use Rattle.std.specs.Io.KnownBytes.{IsAtEnd}
use Rattle.std.proofs.Math.Seq.{take-append_seam, drop-append-add}
use Rattle.std.proofs.lemmas.List.{append-nil, drop_all, take_all}
use Rattle.std.proofs.lemmas.Bool.{cond-false}
use Rattle.std.proofs.lemmas.Bool.Decides.{nat_tests}
use Rattle.zp_events.specs.declared.event.PageEvent.{PageEvent}
use Rattle.zp_events.specs.declared.text.AtBroken.{AtBroken}
use Rattle.zp_events.specs.declared.text.Untaken.{Untaken}
use Rattle.zp_events.specs.declared.text.Untaken.TheVariants as untaken
use Rattle.zp_events.specs.declared.text.TextFault.{TextFault}
use Rattle.zp_events.specs.declared.text.TextFault.TheVariants as fault
use Rattle.zp_events.specs.Lines.{IsBroken}
use Rattle.zp_events.specs.Reading.{HasNoLineFeed, joined, Spot, spot, IsReadOn, ArePassed, IsEnded, IsAhead, IsOver, IsTooLong, line_ahead, is_unended, behind_line, passed_with}
use Rattle.zp_events.specs.Texts.{with_front, lines_of, IsToldBy, IsTaken, IsUntaken, AreTaken, AreTakenTo, AreAllTaken, IsNextTaken, AreLastTaken, IsStoppedAtBroken, IsStoppedAtTooLong, IsStoppedInReading, IsStoppedBySink, IsStoppedBy}
use Rattle.zp_events.proofs.Options.{where_true, where_false}
use Rattle.zp_events.proofs.Looking.{read_then, read_nothing, nothing_read}

-- ---- the lines of a text

-- one that ends in a line feed, and those behind it
pub line_first : (line rest : List ℕ) → HasNoLineFeed line → lines_of (line ++ 10 ∷ rest) ≡ line ∷ lines_of rest
unfolding lines_of
line_first [] rest h = refl
line_first (b ∷ line) rest h =
    cond-false _ _ _ (ne_eqb b 10 h.0) ∙ ap (with_front b) (line_first line rest h.1)

-- one that does not
pub line_last : (line : List ℕ) → HasNoLineFeed line → 0 < length line → lines_of line ≡ line ∷ []
unfolding lines_of
line_last [] h some = absurd (omega arith)
line_last (b ∷ []) h some = cond-false _ _ _ (ne_eqb b 10 h.0)
line_last (b ∷ c ∷ line) h some =
    cond-false _ _ _ (ne_eqb b 10 h.0) ∙ ap (with_front b) (line_last (c ∷ line) h.1 (omega arith))

pub no_lines : lines_of [] ≡ []
unfolding lines_of
no_lines = refl

-- so many with their line feeds, and those behind them
pub lines_first : (lines : List (List ℕ)) (rest : List ℕ) → AllByRecursion HasNoLineFeed lines → lines_of (joined lines ++ rest) ≡ lines ++ lines_of rest
unfolding joined
lines_first [] rest h = refl
lines_first (line ∷ lines) rest h =
    ap lines_of (append_assoc line (10 ∷ joined lines) rest) ∙ line_first line (joined lines ++ rest) h.0 ∙ ap (λ (ls : List (List ℕ)). line ∷ ls) (lines_first lines rest h.1)

joined_append : (a b : List (List ℕ)) → joined (a ++ b) ≡ joined a ++ joined b
unfolding joined
joined_append [] b = refl
joined_append (line ∷ a) b = ap (λ (t : List ℕ). line ++ 10 ∷ t) (joined_append a b) ∙ sym (append_assoc line (10 ∷ joined a) (joined b))

joined_none : joined [] ≡ []
unfolding joined
joined_none = refl

joined_one : (line rest : List ℕ) → joined (line ∷ []) ++ rest ≡ line ++ 10 ∷ rest
unfolding joined
joined_one line rest = append_assoc line (10 ∷ []) rest

whole_append : (a b : List (List ℕ)) → AllByRecursion HasNoLineFeed a → AllByRecursion HasNoLineFeed b → AllByRecursion HasNoLineFeed (a ++ b)
whole_append [] b p q = q
whole_append (x ∷ a) b p q = (p.0, whole_append a b p.1 q)

-- ---- lines that are passed

pub none_passed : (from to : Spot) → IsReadOn from to → ArePassed from [] to
none_passed from to r = record {
  read = r.read;
  front = r.front;
  whole = tt;
  written = sym r.behind ∙ ap (λ (t : List ℕ). t ++ to.kept) (sym joined_none);
  number = omega (arith, r.none);
}

pub passed_then : (a b c : Spot) (ls ms : List (List ℕ)) → ArePassed a ls b → ArePassed b ms c → ArePassed a (ls ++ ms) c
passed_then a b c ls ms p q = record {
  read = p.read ++ q.read;
  front = read_then a.left b.left c.left p.read q.read p.front q.front;
  whole = whole_append ls ms p.whole q.whole;
  written =
      sym (append_assoc a.kept p.read q.read)
      ∙ ap (λ (t : List ℕ). t ++ q.read) p.written
      ∙ append_assoc (joined ls) b.kept q.read
      ∙ ap (λ (t : List ℕ). joined ls ++ t) q.written
      ∙ sym (append_assoc (joined ls) (joined ms) c.kept)
      ∙ ap (λ (t : List ℕ). t ++ c.kept) (sym (joined_append ls ms));
  number = omega (arith, p.number, q.number, length-append ls ms);
}

-- ---- the line ahead

pub ahead_line : (at : Spot) (ahead : Option ℕ) (h : IsAhead at ahead) → line_ahead ahead at.kept ≡ h.line
ahead_line at ahead h = ap (λ (o : Option ℕ). line_ahead o at.kept) h.found ∙ front h.next.ended
  where
    front : IsEnded h.line at → take (length h.line) at.kept ≡ h.line
    front (inl (more, e)) = ap (take (length h.line)) e ∙ take-append_seam h.line (10 ∷ more)
    front (inr e) = ap (take (length h.line)) e.0 ∙ take_all (length h.line) h.line (omega arith)

pub ended_behind : (at : Spot) (ahead : Option ℕ) (h : IsAhead at ahead) → false ≡ is_unended ahead at.kept → at.kept ≡ h.line ++ 10 ∷ behind_line ahead at.kept
ended_behind at ahead h e = behind h.next.ended
  where
    more_than : length h.line < length at.kept
    more_than = let test = e ∙ ap (λ (o : Option ℕ). is_unended o at.kept) h.found in grind (arith, nat_tests)

    behind : IsEnded h.line at → at.kept ≡ h.line ++ 10 ∷ behind_line ahead at.kept
    behind (inl (more, f)) =
        let cut : behind_line ahead at.kept ≡ more =
        ap (λ (o : Option ℕ). behind_line o at.kept) h.found ∙ ap (drop (length h.line + 1)) f ∙ drop-append-add h.line (10 ∷ more) 1 in
        f ∙ ap (λ (t : List ℕ). h.line ++ 10 ∷ t) (sym cut)
    behind (inr f) = absurd (omega (arith, more_than, ap length f.0))

pub unended_is_last : (at : Spot) (ahead : Option ℕ) (h : IsAhead at ahead) → true ≡ is_unended ahead at.kept → (at.kept ≡ h.line) × (0 < length h.line) × IsAtEnd at.left
unended_is_last at ahead h e = last h.next.ended
  where
    no_more : length at.kept ≤ length h.line
    no_more = let test = e ∙ ap (λ (o : Option ℕ). is_unended o at.kept) h.found in grind (arith, nat_tests)

    last : IsEnded h.line at → (at.kept ≡ h.line) × (0 < length h.line) × IsAtEnd at.left
    last (inl (more, f)) = absurd (omega (arith, no_more, ap length f, length-append h.line (10 ∷ more)))
    last (inr f) = f

nothing_behind : (at : Spot) (ahead : Option ℕ) (h : IsAhead at ahead) → at.kept ≡ h.line → behind_line ahead at.kept ≡ []
nothing_behind at ahead h e =
    ap (λ (o : Option ℕ). behind_line o at.kept) h.found ∙ ap (drop (length h.line + 1)) e ∙ drop_all (length h.line + 1) h.line (omega arith)

counted : (ahead : Option ℕ) (n passed : ℕ) → ahead ≡ Some n → passed < 2 ^ 64 - 1 → passed_with ahead passed ≡ passed + 1
counted ahead n passed e less = ap (λ (o : Option ℕ). passed_with o passed) e ∙ least
  where
    least : min (passed + 1) (2 ^ 64 - 1) ≡ passed + 1
    least = omega arith

-- what was found, as the test came out
pub ahead_of : (at : Spot) (ahead : Option ℕ) (more : Bool) → MatchBool more (IsAhead at ahead) (IsOver at) → more ≡ true → IsAhead at ahead
ahead_of at ahead more m e = where_true more (IsAhead at ahead) (IsOver at) m e

pub over_of : (at : Spot) (ahead : Option ℕ) (more : Bool) → MatchBool more (IsAhead at ahead) (IsOver at) → more ≡ false → IsOver at
over_of at ahead more m e = where_false more (IsAhead at ahead) (IsOver at) m e

-- where a reading stands behind the line ahead
abbrev pub behind : Spot → Option ℕ → Spot
behind at ahead = spot (behind_line ahead at.kept) at.left (passed_with ahead at.passed)

pub line_passed : (at : Spot) (ahead : Option ℕ) (h : IsAhead at ahead) → at.passed < 2 ^ 64 - 1 → false ≡ is_unended ahead at.kept → ArePassed at (h.line ∷ []) (behind at ahead)
line_passed at ahead h less e = record {
  read = [];
  front = read_nothing at.left;
  whole = (h.next.no_line_feed, tt);
  written = append-nil at.kept ∙ ended_behind at ahead h e ∙ sym (joined_one h.line (behind_line ahead at.kept));
  number = counted ahead (length h.line) at.passed h.found less;
}

pub same_spot : (k l : List ℕ) (a b : Option (List ℕ)) (m n : ℕ) → k ≡ l → a ≡ b → m ≡ n → spot k a m ≡ spot l b n
same_spot k l a b m n e f g =
    ap (λ (x : List ℕ). spot x a m) e ∙ ap (λ (x : Option (List ℕ)). spot l x m) f ∙ ap (λ (x : ℕ). spot l b x) g

module _ {S : Type 0} (carries : S → PageEvent → S → Type 0) (passes : S → List ℕ → S → Type 0) (drops : S → S → Type 0) (mode : AtBroken) where
  none_taken : (s : S) → AreTaken carries passes drops mode s [] s
  unfolding AreTaken
  none_taken s = refl

  one_taken : (s t : S) (line : List ℕ) → IsTaken carries passes drops mode s line t → AreTaken carries passes drops mode s (line ∷ []) t
  unfolding AreTaken
  one_taken s t line taken = (t, taken, refl)

  taken_append : (s u t : S) (a b : List (List ℕ)) → AreTaken carries passes drops mode s a u → AreTaken carries passes drops mode u b t → AreTaken carries passes drops mode s (a ++ b) t
  unfolding AreTaken
  taken_append s u t [] b e taken = subst (λ (x : S). AreTaken carries passes drops mode x b t) (sym e) taken
  taken_append s u t (line ∷ a) b h taken = (h.0, h.1, taken_append h.0 u t a b h.2 taken)

  pub none_taken_to : (s : S) (from to : Spot) → IsReadOn from to → AreTakenTo carries passes drops mode s from [] to s
  none_taken_to s from to r = record { passed = none_passed from to r; taken = none_taken s }

  pub taken_then : (s u t : S) (a b c : Spot) (ls ms : List (List ℕ)) → AreTakenTo carries passes drops mode s a ls b u → AreTakenTo carries passes drops mode u b ms c t →
      AreTakenTo carries passes drops mode s a (ls ++ ms) c t
  taken_then s u t a b c ls ms p q = record { passed = passed_then a b c ls ms p.passed q.passed; taken = taken_append s u t ls ms p.taken q.taken }

  -- all lines behind those that were taken
  pub all_then : (s u t : S) (a b c : Spot) (ls : List (List ℕ)) (n : ℕ) → AreTakenTo carries passes drops mode s a ls b u → AreAllTaken carries passes drops mode u b c n t →
      AreAllTaken carries passes drops mode s a c (length ls + n) t
  all_then s u t a b c ls n p q =
      let whole : a.kept ++ (p.passed.read ++ q.read) ≡ joined ls ++ (b.kept ++ q.read) =
      sym (append_assoc a.kept p.passed.read q.read) ∙ ap (λ (t : List ℕ). t ++ q.read) p.passed.written ∙ append_assoc (joined ls) b.kept q.read in
      let lines : lines_of (a.kept ++ (p.passed.read ++ q.read)) ≡ ls ++ lines_of (b.kept ++ q.read) = ap lines_of whole ∙ lines_first ls (b.kept ++ q.read) p.passed.whole in
      record {
        read = p.passed.read ++ q.read;
        front = read_then a.left b.left c.left p.passed.read q.read p.passed.front q.front;
        end = q.end;
        none = q.none;
        count = omega (arith, q.count, ap length lines, length-append ls (lines_of (b.kept ++ q.read)));
        number = omega (arith, p.passed.number, q.number);
        taken = subst (λ (x : List (List ℕ)). AreTaken carries passes drops mode s x t) (sym lines) (taken_append s u t ls (lines_of (b.kept ++ q.read)) p.taken q.taken);
      }

  -- a fault behind lines that were taken
  pub stopped_then : (fails : S → S → Type 0) (s u t : S) (a b c : Spot) (ls : List (List ℕ)) (e : TextFault) → AreTakenTo carries passes drops mode s a ls b u →
      IsStoppedBy carries passes drops mode fails u b c e t → IsStoppedBy carries passes drops mode fails s a c e t
  stopped_then fails s u t a b c ls (fault.Broken n) p q =
      record { before = ls ++ q.before; taken = taken_then s u t a b c ls q.before p q.taken; line = q.line; next = q.next; broken = q.broken; number = q.number; asked = q.asked }
  stopped_then fails s u t a b c ls (fault.TooLong n) p q =
      record { before = ls ++ q.before; taken = taken_then s u t a b c ls q.before p q.taken; too_long = q.too_long; number = q.number }
  stopped_then fails s u t a b c ls fault.TooMany p q = record { before = ls ++ q.before; taken = taken_then s u t a b c ls q.before p q.taken; last = q.last }
  stopped_then fails s u t a b c ls fault.Read p q = record { before = ls ++ q.before; taken = taken_then s u t a b c ls q.before p q.taken; no_more = q.no_more }
  stopped_then fails s u t a b c ls (fault.Sink error) p q =
      record { before = ls ++ q.before; until = q.until; taken = taken_then s u q.until a b c ls q.before p q.taken; line = q.line; next = q.next; failed = q.failed }

  -- ---- the next line

  pub nothing_left : (s : S) (from to : Spot) → IsReadOn from to → IsOver to → AreLastTaken carries passes drops mode s from to s
  nothing_left s from to r o =
      let lines : lines_of (from.kept ++ r.read) ≡ [] = ap lines_of (sym r.behind ∙ o.none) ∙ no_lines in
      record {
        count = 0;
        taken = record {
          read = r.read;
          front = r.front;
          end = o.end;
          none = o.none;
          count = sym (ap length lines);
          number = omega (arith, r.none);
          taken = subst (λ (x : List (List ℕ)). AreTaken carries passes drops mode s x s) (sym lines) (none_taken s);
        };
      }

  pub next_taken : (s t : S) (from at : Spot) (ahead : Option ℕ) → IsReadOn from at → (h : IsAhead at ahead) → at.passed < 2 ^ 64 - 1 → false ≡ is_unended ahead at.kept →
      IsTaken carries passes drops mode s h.line t → IsNextTaken carries passes drops mode s from (behind at ahead) t
  next_taken s t from at ahead r h less e taken =
      record {
        line = h.line;
        taken = record { passed = passed_then from at (behind at ahead) [] (h.line ∷ []) (none_passed from at r) (line_passed at ahead h less e); taken = one_taken s t h.line taken };
      }

  pub last_taken : (s t : S) (from at : Spot) (ahead : Option ℕ) → IsReadOn from at → (h : IsAhead at ahead) → at.passed < 2 ^ 64 - 1 → true ≡ is_unended ahead at.kept →
      IsTaken carries passes drops mode s h.line t → AreLastTaken carries passes drops mode s from (behind at ahead) t
  last_taken s t from at ahead r h less e taken =
      let last = unended_is_last at ahead h e in
      let lines : lines_of (from.kept ++ r.read) ≡ h.line ∷ [] = ap lines_of (sym r.behind ∙ last.0) ∙ line_last h.line h.next.no_line_feed last.1 in
      record {
        count = 1;
        taken = record {
          read = r.read;
          front = r.front;
          end = last.2;
          none = nothing_behind at ahead h last.0;
          count = sym (ap length lines);
          number = counted ahead (length h.line) at.passed h.found less ∙ ap (λ (n : ℕ). n + 1) r.none;
          taken = subst (λ (x : List (List ℕ)). AreTaken carries passes drops mode s x t) (sym lines) (one_taken s t h.line taken);
        };
      }

  -- the line ahead was taken
  pub line_taken : (s t : S) (from at to : Spot) (ahead : Option ℕ) (told : List ℕ) (unended : Bool) → IsReadOn from at → (h : IsAhead at ahead) → at.passed < 2 ^ 64 - 1 →
      told ≡ line_ahead ahead at.kept → IsTaken carries passes drops mode s told t → unended ≡ is_unended ahead at.kept → to ≡ behind at ahead →
      MatchBool (not unended) (IsNextTaken carries passes drops mode s from to t) (AreLastTaken carries passes drops mode s from to t)
  line_taken s t from at to ahead told true r h less is taken e there =
      subst (λ (x : Spot). AreLastTaken carries passes drops mode s from x t) (sym there)
      (last_taken s t from at ahead r h less e (subst (λ (l : List ℕ). IsTaken carries passes drops mode s l t) (is ∙ ahead_line at ahead h) taken))
  line_taken s t from at to ahead told false r h less is taken e there =
      subst (λ (x : Spot). IsNextTaken carries passes drops mode s from x t) (sym there)
      (next_taken s t from at ahead r h less e (subst (λ (l : List ℕ). IsTaken carries passes drops mode s l t) (is ∙ ahead_line at ahead h) taken))

  -- it was not, as it is broken
  pub line_broken : (fails : S → S → Type 0) (s t : S) (from at : Spot) (ahead : Option ℕ) (told : List ℕ) (n : ℕ) (why : Untaken) → IsReadOn from at → (h : IsAhead at ahead) → told ≡ line_ahead ahead at.kept →
      IsUntaken carries passes drops mode fails s told why t → why ≡ untaken.Broken → n ≡ at.passed + 1 → IsStoppedAtBroken carries passes drops mode s from at n t
  line_broken fails s t from at ahead told n why r h is not_taken e number =
      let u : IsUntaken carries passes drops mode fails s told untaken.Broken t = subst (λ (w : Untaken). IsUntaken carries passes drops mode fails s told w t) e not_taken in
      record {
        before = [];
        taken = subst (λ (x : S). AreTakenTo carries passes drops mode s from [] at x) (sym u.2) (none_taken_to s from at r);
        line = h.line;
        next = h.next;
        broken = subst IsBroken (is ∙ ahead_line at ahead h) u.1;
        number = number;
        asked = u.0;
      }

  -- or as the sink failed
  pub line_refused : (fails : S → S → Type 0) (s t : S) (from at : Spot) (ahead : Option ℕ) → IsReadOn from at → (h : IsAhead at ahead) → fails s t → IsStoppedBySink carries passes drops mode fails s from at t
  line_refused fails s t from at ahead r h failed = record { before = []; until = s; taken = none_taken_to s from at r; line = h.line; next = h.next; failed = failed }

  pub reader_failed : (s : S) (from at : Spot) → IsReadOn from at → HasNoLineFeed at.kept → IsStoppedInReading carries passes drops mode s from at s
  reader_failed s from at r none = record { before = []; taken = none_taken_to s from at r; no_more = none }

  pub line_too_long : (s : S) (from at : Spot) (n : ℕ) → IsReadOn from at → IsTooLong at.kept → n ≡ at.passed + 1 → IsStoppedAtTooLong carries passes drops mode s from at n s
  line_too_long s from at n r long number = record { before = []; taken = none_taken_to s from at r; too_long = long; number = number }

  -- ---- the lines so far

  pub record IsTakenSoFar (s : S) (from to : Spot) (t : S) : Type 0 where
    pub lines : List (List ℕ)
    pub taken : AreTakenTo carries passes drops mode s from lines to t

  pub none_so_far : (s : S) (at : Spot) → IsTakenSoFar s at at s
  none_so_far s at = record { lines = []; taken = none_taken_to s at at (nothing_read at) }

  pub more_so_far : (s u t : S) (a b c : Spot) → IsTakenSoFar s a b u → IsNextTaken carries passes drops mode u b c t → IsTakenSoFar s a c t
  more_so_far s u t a b c p q = record { lines = p.lines ++ (q.line ∷ []); taken = taken_then s u t a b c p.lines (q.line ∷ []) p.taken q.taken }

  pub all_so_far : (s u t : S) (a b c : Spot) (n : ℕ) → IsTakenSoFar s a b u → AreLastTaken carries passes drops mode u b c t → n ≡ c.passed - a.passed → AreAllTaken carries passes drops mode s a c n t
  all_so_far s u t a b c n p q e =
      let all = all_then s u t a b c p.lines q.count p.taken q.taken in
      let sum : length p.lines + q.count ≡ n = omega (arith, all.number) in
      subst (λ (m : ℕ). AreAllTaken carries passes drops mode s a c m t) sum all

  pub stopped_so_far : (fails : S → S → Type 0) (s u t : S) (a b c : Spot) (e : TextFault) → IsTakenSoFar s a b u → IsStoppedBy carries passes drops mode fails u b c e t →
      IsStoppedBy carries passes drops mode fails s a c e t
  stopped_so_far fails s u t a b c e p q = stopped_then fails s u t a b c p.lines e p.taken q

not_ok : false ≡ true → ⊥
not_ok e = cc

pub told_ok : {E P Q : Type 0} (answer : Result (Unit {0}) E) (result : Result (Unit {0}) Untaken) → IsToldBy answer result → (P → Q) → OnOk answer P → OnOk result Q
told_ok (Ok u) (Ok v) h f p = f p
told_ok (Ok u) (Err e) h f p = tt
told_ok (Err x) (Ok v) h f p = absurd (not_ok h)
told_ok (Err x) (Err e) h f p = tt
