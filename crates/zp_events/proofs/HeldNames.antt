-- Names of events anywhere in a line, colon by colon.
use Rattle.std.proofs.Common.{ℕ, ◌≡◌, ◌≢◌, ◌<◌, ◌⊎◌, inl, inr, List, [], ◌∷◌, ◌++◌, length, codes, refl, sym, ap, subst, ◌∙◌, arith, rules, append_assoc, length-append}
use Rattle.std.specs.List.{All}
use Rattle.std.proofs.lemmas.Bool.{cases_lt}
use Rattle.std.proofs.lemmas.List.Elements.{recursion_from_All}
use Rattle.zp_events.specs.declared.event.EventName.{EventName}
use Rattle.zp_events.specs.declared.event.EventName.TheVariants.{Alloc, Free, Fallback}
use Rattle.zp_events.specs.Lines.{name_text, EndsInName, HoldsEventName}
use Rattle.zp_events.proofs.Heads.{has_byte, same_front}
use Rattle.zp_events.proofs.Colons.{NoColon, not_within}

-- a name but for its colon
abbrev pub stem : EventName → List ℕ
stem Alloc = codes "mm_page_alloc"
stem Free = codes "mm_page_free"
stem Fallback = codes "mm_page_alloc_extfrag"

stem_colon : (name : EventName) → stem name ++ 58 ∷ [] ≡ name_text name
stem_colon Alloc = refl
stem_colon Free = refl
stem_colon Fallback = refl

stem_no_colon : (name : EventName) → NoColon (stem name)
stem_no_colon Alloc = search rules
stem_no_colon Free = search rules
stem_no_colon Fallback = search rules

-- the colon that ends a name, and what stands before it
name_cut : (front rest : List ℕ) (name : EventName) → front ++ (name_text name ++ rest) ≡ front ++ (stem name ++ 58 ∷ rest)
name_cut front rest name =
    ap (λ (t : List ℕ). front ++ t) (ap (λ (t : List ℕ). t ++ rest) (sym (stem_colon name)) ∙ append_assoc (stem name) (58 ∷ []) rest)

same_but_last : (a b : List ℕ) → a ++ 58 ∷ [] ≡ b ++ 58 ∷ [] → a ≡ b
same_but_last a b e = (same_front a b (58 ∷ []) (58 ∷ []) (omega (arith, ap length e, length-append a (58 ∷ []), length-append b (58 ∷ []))) e).0

pub ends_so : (text front : List ℕ) (name : EventName) → text ≡ front ++ stem name → EndsInName text
ends_so text front name e = record {
  front = front;
  name = name;
  written = ap (λ (t : List ℕ). t ++ 58 ∷ []) e ∙ append_assoc front (stem name) (58 ∷ []) ∙ ap (λ (t : List ℕ). front ++ t) (stem_colon name);
}

pub ends_in : (text : List ℕ) → (n : EndsInName text) → text ≡ n.front ++ stem n.name
ends_in text n =
    same_but_last text (n.front ++ stem n.name) (n.written ∙ ap (λ (t : List ℕ). n.front ++ t) (sym (stem_colon n.name)) ∙ sym (append_assoc n.front (stem n.name) (58 ∷ [])))

pub no_end : (text : List ℕ) → ((f : List ℕ) → text ≡ f ++ stem Alloc → ⊥) → ((f : List ℕ) → text ≡ f ++ stem Free → ⊥) → ((f : List ℕ) → text ≡ f ++ stem Fallback → ⊥) → EndsInName text → ⊥
no_end text a f x n = by_name n.name n.front (ends_in text n)
  where
    by_name : (name : EventName) (front : List ℕ) → text ≡ front ++ stem name → ⊥
    by_name Alloc front e = a front e
    by_name Free front e = f front e
    by_name Fallback front e = x front e

-- what stands behind a colon holds no other names than the whole
pub holds_behind : (front rest : List ℕ) → HoldsEventName rest → HoldsEventName (front ++ rest)
holds_behind front rest h =
    record { front = front ++ h.front; name = h.name; rest = h.rest; written = ap (λ (t : List ℕ). front ++ t) h.written ∙ sym (append_assoc front h.front (name_text h.name ++ h.rest)) }

pub holds_at : (before behind : List ℕ) → EndsInName before → HoldsEventName (before ++ 58 ∷ behind)
holds_at before behind n = record {
  front = n.front;
  name = n.name;
  rest = behind;
  written = sym (append_assoc before (58 ∷ []) behind) ∙ ap (λ (t : List ℕ). t ++ behind) n.written ∙ append_assoc n.front (name_text n.name) behind;
}

cut_behind : (before behind front x : List ℕ) → before ++ 58 ∷ behind ≡ front ++ x → length before < length front → (f : List ℕ) × (behind ≡ f ++ x)
cut_behind [] behind [] x e less = absurd (omega arith)
cut_behind [] behind (y ∷ front) x e less =
    let rest : behind ≡ front ++ x = cc in
    (front, rest)
cut_behind (b ∷ before) behind [] x e less = absurd (omega arith)
cut_behind (b ∷ before) behind (y ∷ front) x e less =
    let rest : before ++ 58 ∷ behind ≡ front ++ x = cc in
    cut_behind before behind front x rest (omega arith)

pub at_or_behind : (before behind : List ℕ) → NoColon before → HoldsEventName (before ++ 58 ∷ behind) → EndsInName before ⊎ HoldsEventName behind
at_or_behind before behind h held =
    let front = held.front in
    let name = held.name in
    let cut : before ++ 58 ∷ behind ≡ front ++ (stem name ++ 58 ∷ held.rest) = held.written ∙ name_cut front held.rest name in
    elim (cases_lt (length before) (length front)) [
      | inl less ↦
          let f = cut_behind before behind front (name_text name ++ held.rest) held.written less in
          inr (record { front = f.0; name = name; rest = held.rest; written = f.1 })
      | inr most ↦
          let least = not_within front (stem name) held.rest before behind (sym cut) (stem_no_colon name) most in
          let whole : [] ++ (before ++ 58 ∷ behind) ≡ (front ++ stem name) ++ 58 ∷ held.rest = cut ∙ sym (append_assoc front (stem name) (58 ∷ held.rest)) in
          let far = not_within [] before behind (front ++ stem name) held.rest whole h (omega arith) in
          let size : length before ≡ length (front ++ stem name) = omega (arith, length-append front (stem name)) in
          inl (ends_so before front name (same_front before (front ++ stem name) (58 ∷ behind) (58 ∷ held.rest) size whole).0)
    ]

pub no_colon_no_name : (rest : List ℕ) → All (λ b. b ≢ 58) rest → HoldsEventName rest → ⊥
no_colon_no_name rest all held =
    let cut : rest ≡ (held.front ++ stem held.name) ++ 58 ∷ held.rest =
    held.written ∙ name_cut held.front held.rest held.name ∙ sym (append_assoc held.front (stem held.name) (58 ∷ held.rest)) in
    has_byte 58 (held.front ++ stem held.name) held.rest (subst NoColon cut (recursion_from_All (λ b. b ≢ 58) rest all))

-- the line holds a name exactly where its rest does
pub record HoldsAsRest (line rest : List ℕ) : Type 0 where
  pub front : List ℕ
  pub written : line ≡ front ++ rest
  pub behind : HoldsEventName line → HoldsEventName rest

pub name_found : (line rest before behind : List ℕ) → HoldsAsRest line rest → rest ≡ before ++ 58 ∷ behind → EndsInName before → HoldsEventName line
name_found line rest before behind r e n =
    subst HoldsEventName (sym r.written) (holds_behind r.front rest (subst HoldsEventName (sym e) (holds_at before behind n)))

pub colon_passed : (line rest before behind : List ℕ) → HoldsAsRest line rest → rest ≡ before ++ 58 ∷ behind → All (λ b. b ≢ 58) before → (EndsInName before → ⊥) → HoldsAsRest line behind
colon_passed line rest before behind r e all none = record {
  front = (r.front ++ before) ++ 58 ∷ [];
  written = r.written ∙ ap (λ (t : List ℕ). r.front ++ t) e ∙ sym (append_assoc r.front before (58 ∷ behind)) ∙ sym (append_assoc (r.front ++ before) (58 ∷ []) behind);
  behind = λ h. only_behind (at_or_behind before behind (recursion_from_All (λ b. b ≢ 58) before all) (subst HoldsEventName e (r.behind h)));
}
  where
    only_behind : EndsInName before ⊎ HoldsEventName behind → HoldsEventName behind
    only_behind (inl n) = absurd (none n)
    only_behind (inr h) = h

pub name_missing : (line rest : List ℕ) → HoldsAsRest line rest → All (λ b. b ≢ 58) rest → HoldsEventName line → ⊥
name_missing line rest r all h = no_colon_no_name rest all (r.behind h)
