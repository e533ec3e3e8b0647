-- A line, colon by colon.
use Rattle.std.proofs.Common.{ℕ, zero, suc, ◌≡◌, ◌≢◌, ◌≤◌, ◌+◌, ◌-◌, ◌⊎◌, inl, inr, List, [], ◌∷◌, ◌++◌, length, drop, refl, sym, ap, subst, ◌∙◌, arith, append_assoc, length-append}
use Rattle.std.specs.List.{All, AllByRecursion}
use Rattle.std.proofs.Math.Seq.{drop-append-add}
use Rattle.std.proofs.lemmas.Bool.{cases_lt}
use Rattle.std.proofs.lemmas.List.{drop-append-le}
use Rattle.std.proofs.lemmas.List.Elements.{recursion_from_All}
use Rattle.std.specs.Str.Parse.{AllDigits}
use Rattle.std.proofs.lemmas.Str.Parse.{digit_from_value}
use Rattle.zp_events.specs.declared.event.EventName.{EventName}
use Rattle.zp_events.specs.Lines.{IsMark, IsLastMark, IsSpacedName, NamesEventAt, IsBeginning, BeginsAsEvent}
use Rattle.zp_events.proofs.Heads.{has_byte, same_front}

abbrev pub NoColon : List ℕ → Type 0
NoColon text = AllByRecursion (λ b. b ≢ 58) text

-- a text that is empty or ends in a colon
abbrev pub EndsInColon : List ℕ → Type 0
EndsInColon front = (front ≡ []) ⊎ ((f : List ℕ) × (front ≡ f ++ 58 ∷ []))

no_colon_append : (a b : List ℕ) → NoColon a → NoColon b → NoColon (a ++ b)
no_colon_append [] b p q = q
no_colon_append (x ∷ a) b p q = (p.0, no_colon_append a b p.1 q)

no_colon_behind : (a b : List ℕ) → NoColon (a ++ b) → NoColon b
no_colon_behind [] b p = p
no_colon_behind (x ∷ a) b p = no_colon_behind a b p.1

no_colon_drop : (n : ℕ) (a : List ℕ) → NoColon a → NoColon (drop n a)
no_colon_drop zero a p = p
no_colon_drop (suc n) [] p = p
no_colon_drop (suc n) (x ∷ a) p = no_colon_drop n a p.1

digits_no_colon : (word : List ℕ) → AllDigits 10 word → NoColon word
digits_no_colon [] h = tt
digits_no_colon (d ∷ word) h = (omega (arith, (digit_from_value d h.0).1), digits_no_colon word h.1)

-- in a mark stands no colon
mark_no_colon : (text : List ℕ) (cpu : ℕ) (rest : List ℕ) → IsMark text cpu rest → NoColon rest → NoColon text
mark_no_colon text cpu rest m h =
    let number : NoColon m.number = digits_no_colon m.number m.number_is.number.digits in
    let end : NoColon (93 ∷ (32 ∷ rest)) = (omega arith, (omega arith, h)) in
    let whole : NoColon (32 ∷ 91 ∷ (m.number ++ 93 ∷ (32 ∷ rest))) = (omega arith, (omega arith, no_colon_append m.number (93 ∷ (32 ∷ rest)) number end)) in
    subst NoColon (sym m.written) whole

rest_no_colon : (text : List ℕ) (cpu : ℕ) (rest : List ℕ) → IsMark text cpu rest → NoColon text → NoColon rest
rest_no_colon text cpu rest m h =
    no_colon_behind (m.number ++ 93 ∷ (32 ∷ [])) rest
    (subst NoColon (sym (append_assoc m.number (93 ∷ (32 ∷ [])) rest)) ((subst NoColon m.written h).1.1))

-- the last mark of a text is the last behind another text too
raised : (front before : List ℕ) (cpu : ℕ) (rest : List ℕ) → IsLastMark before cpu rest → IsLastMark (front ++ before) cpu rest
raised front before cpu rest m = record {
  place = length front + m.place;
  mark = subst (λ t. IsMark t cpu rest) (sym (drop-append-add front before m.place)) m.mark;
  last = λ k other more above n.
      let k_is : k ≡ length front + (k - length front) = omega arith in
      let there = subst (λ (j : ℕ). IsMark (drop j (front ++ before)) other more) k_is n in
      m.last (k - length front) other more (omega arith) (subst (λ t. IsMark t other more) (drop-append-add front before (k - length front)) there);
}

-- a mark with no colon behind it stands behind a text that ends in one
stands_behind : (front before : List ℕ) (place cpu : ℕ) (rest : List ℕ) → EndsInColon front → IsMark (drop place (front ++ before)) cpu rest → NoColon rest → length front ≤ place
stands_behind front before place cpu rest (inl e) m h = omega (arith, ap length e)
stands_behind front before place cpu rest (inr (f, e)) m h =
    elim (cases_lt place (length front)) [
      | inl less ↦
          let size : length front ≡ length f + 1 = ap length e ∙ length-append f (58 ∷ []) in
          let whole : front ++ before ≡ f ++ 58 ∷ before = ap (λ (t : List ℕ). t ++ before) e ∙ append_assoc f (58 ∷ []) before in
          let cut : drop place (front ++ before) ≡ drop place f ++ 58 ∷ before = ap (drop place) whole ∙ drop-append-le place f (58 ∷ before) (omega arith) in
          absurd (has_byte 58 (drop place f) before (subst NoColon cut (mark_no_colon (drop place (front ++ before)) cpu rest m h)))
      | inr most ↦ most
    ]

lowered : (front before : List ℕ) (cpu : ℕ) (rest : List ℕ) → EndsInColon front → IsLastMark (front ++ before) cpu rest → NoColon rest → IsLastMark before cpu rest
lowered front before cpu rest ends m h =
    let far = stands_behind front before m.place cpu rest ends m.mark h in
    let place_is : m.place ≡ length front + (m.place - length front) = omega arith in
    record {
      place = m.place - length front;
      mark = subst (λ t. IsMark t cpu rest) (drop-append-add front before (m.place - length front)) (subst (λ (j : ℕ). IsMark (drop j (front ++ before)) cpu rest) place_is m.mark);
      last = λ k other more above n.
          m.last (length front + k) other more (omega arith) (subst (λ t. IsMark t other more) (sym (drop-append-add front before k)) n);
    }

last_no_colon : (before : List ℕ) (cpu : ℕ) (rest : List ℕ) → IsLastMark before cpu rest → NoColon before → NoColon rest
last_no_colon before cpu rest m h = rest_no_colon (drop m.place before) cpu rest m.mark (no_colon_drop m.place before h)

-- a colon does not stand within a text that has none
pub not_within : (front before behind a b : List ℕ) → front ++ (before ++ 58 ∷ behind) ≡ a ++ 58 ∷ b → NoColon before → length front ≤ length a → length front + length before ≤ length a
not_within [] [] behind a b e h far = far
not_within [] (x ∷ before) behind [] b e h far = absurd (h.0 cc)
not_within [] (x ∷ before) behind (y ∷ a) b e h far =
    let rest : [] ++ (before ++ 58 ∷ behind) ≡ a ++ 58 ∷ b = cc in
    omega (arith, not_within [] before behind a b rest h.1 (omega arith))
not_within (f ∷ front) before behind [] b e h far = absurd (omega arith)
not_within (f ∷ front) before behind (y ∷ a) b e h far =
    let rest : front ++ (before ++ 58 ∷ behind) ≡ a ++ 58 ∷ b = cc in
    omega (arith, not_within front before behind a b rest h (omega arith))

-- at no place of this front is an event named
pub record IsPassed (line rest : List ℕ) : Type 0 where
  pub front : List ℕ
  pub written : line ≡ front ++ rest
  pub ends : EndsInColon front
  pub none : (k cpu : ℕ) (name : EventName) (fields : List ℕ) → NamesEventAt line k cpu name fields → length front ≤ k

-- beside a colon no event is named
abbrev pub NoneBeside : List ℕ → List ℕ → Type 0
NoneBeside before behind = (cpu : ℕ) (time : List ℕ) (name : EventName) (fields : List ℕ) → IsLastMark before cpu time → IsSpacedName behind name fields → ⊥

next_colon : (line rest before behind : List ℕ) → (p : IsPassed line rest) → rest ≡ before ++ 58 ∷ behind → NoColon before →
    (k cpu : ℕ) (name : EventName) (fields : List ℕ) → NamesEventAt line k cpu name fields → length p.front + length before ≤ k
next_colon line rest before behind p e h k cpu name fields n =
    let whole : p.front ++ (before ++ 58 ∷ behind) ≡ n.before ++ 58 ∷ n.behind = sym (ap (λ (t : List ℕ). p.front ++ t) e) ∙ sym p.written ∙ n.written in
    omega (arith, not_within p.front before behind n.before n.behind whole h (omega (arith, p.none k cpu name fields n, n.place_is)), n.place_is)

pub colon_passed : (line rest before behind : List ℕ) → IsPassed line rest → rest ≡ before ++ 58 ∷ behind → All (λ b. b ≢ 58) before → NoneBeside before behind → IsPassed line behind
colon_passed line rest before behind p e all beside =
    let h : NoColon before = recursion_from_All (λ b. b ≢ 58) before all in
    let cut : line ≡ (p.front ++ before) ++ 58 ∷ behind = p.written ∙ ap (λ (t : List ℕ). p.front ++ t) e ∙ sym (append_assoc p.front before (58 ∷ behind)) in
    let size : length (p.front ++ before) ≡ length p.front + length before = length-append p.front before in
    record {
      front = (p.front ++ before) ++ 58 ∷ [];
      written = cut ∙ sym (append_assoc (p.front ++ before) (58 ∷ []) behind);
      ends = inr (p.front ++ before, refl);
      none = λ k cpu name fields n.
          let far = next_colon line rest before behind p e h k cpu name fields n in
          let one : length ((p.front ++ before) ++ 58 ∷ []) ≡ length (p.front ++ before) + 1 = length-append (p.front ++ before) (58 ∷ []) in
          elim (cases_lt (length p.front + length before) k) [
            | inl less ↦ omega arith
            | inr most ↦
                let same = same_front (p.front ++ before) n.before (58 ∷ behind) (58 ∷ n.behind) (omega (arith, n.place_is)) (sym cut ∙ n.written) in
                let tail : 58 ∷ behind ≡ 58 ∷ n.behind = same.1 in
                let behind_is : behind ≡ n.behind = cc in
                let mark : IsLastMark (p.front ++ before) cpu n.time = subst (λ t. IsLastMark t cpu n.time) (sym same.0) n.mark in
                absurd (beside cpu n.time name fields (lowered p.front before cpu n.time p.ends mark n.no_colon) (subst (λ t. IsSpacedName t name fields) (sym behind_is) n.named))
          ];
    }

pub beginning_found : (line rest before behind : List ℕ) (cpu : ℕ) (name : EventName) (fields time : List ℕ) → IsPassed line rest → rest ≡ before ++ 58 ∷ behind → All (λ b. b ≢ 58) before →
    IsLastMark before cpu time → IsSpacedName behind name fields → IsBeginning line cpu name fields
beginning_found line rest before behind cpu name fields time p e all mark named =
    let h : NoColon before = recursion_from_All (λ b. b ≢ 58) before all in
    let cut : line ≡ (p.front ++ before) ++ 58 ∷ behind = p.written ∙ ap (λ (t : List ℕ). p.front ++ t) e ∙ sym (append_assoc p.front before (58 ∷ behind)) in
    let size : length (p.front ++ before) ≡ length p.front + length before = length-append p.front before in
    record {
      place = length (p.front ++ before);
      here = record {
        before = p.front ++ before;
        time = time;
        behind = behind;
        written = cut;
        place_is = refl;
        mark = raised p.front before cpu time mark;
        no_colon = last_no_colon before cpu time mark h;
        named = named;
      };
      first = λ k other another more less n.
          let far = next_colon line rest before behind p e h k other another more n in
          omega arith;
    }

-- with no colon left no event is named
pub none_left : (line rest : List ℕ) → IsPassed line rest → All (λ b. b ≢ 58) rest → BeginsAsEvent line → ⊥
none_left line rest p all b =
    let n = b.beginning.here in
    let far : length p.front ≤ length n.before = omega (arith, p.none b.beginning.place b.cpu b.name b.fields n, n.place_is) in
    within p.front n.before (sym p.written ∙ n.written) far
  where
    no_colon : (a b x : List ℕ) → NoColon a → a ≡ b ++ 58 ∷ x → ⊥
    no_colon a b x h e = has_byte 58 b x (subst NoColon e h)

    within : (front a : List ℕ) → front ++ rest ≡ a ++ 58 ∷ b.beginning.here.behind → length front ≤ length a → ⊥
    within [] a e far = no_colon rest a b.beginning.here.behind (recursion_from_All (λ b. b ≢ 58) rest all) e
    within (f ∷ front) [] e far = omega arith
    within (f ∷ front) (y ∷ a) e far =
        let tail : front ++ rest ≡ a ++ 58 ∷ b.beginning.here.behind = cc in
        within front a tail (omega arith)
