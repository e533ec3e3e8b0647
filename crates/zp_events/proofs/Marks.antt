-- The head of a line, part by part.
use Rattle.std.proofs.Common.{ℕ, ◌≡◌, ◌≢◌, ◌<◌, ◌≤◌, ◌+◌, ◌-◌, inl, inr, List, [], ◌∷◌, ◌++◌, length, take, drop, get_or, sym, ap, subst, ◌∙◌, arith}
use Rattle.std.specs.List.{All, AllByRecursion}
use Rattle.std.proofs.lemmas.List.{length-drop, take_all}
use Rattle.std.proofs.lemmas.List.Elements.{recursion_from_All}
use Rattle.zp_events.specs.declared.event.EventName.{EventName}
use Rattle.zp_events.specs.declared.event.EventName.TheVariants.{Alloc, Free, Fallback}
use Rattle.zp_events.specs.Numbers.{IsSmall}
use Rattle.zp_events.specs.Lines.{IsMark, IsLastMark, name_text, IsNamed, IsSpacedName}
use Rattle.zp_events.proofs.Heads.{first_unique, has_byte, small_no_bracket, no_space, same_behind_spaces}

-- no mark stands at the front of the text
abbrev pub NoMark : List ℕ → Type 0
NoMark text = (cpu : ℕ) (rest : List ℕ) → IsMark text cpu rest → ⊥

-- no mark stands at this place of a text or behind it
abbrev pub NoMarkFrom : List ℕ → ℕ → Type 0
NoMarkFrom text i = (k other : ℕ) (more : List ℕ) → i ≤ k → IsMark (drop k text) other more → ⊥

-- what stands behind a mark's first two bytes
mark_behind : (text rest : List ℕ) (cpu : ℕ) (more : List ℕ) → text ≡ 32 ∷ 91 ∷ rest → (m : IsMark text cpu more) → rest ≡ m.number ++ 93 ∷ (32 ∷ more)
mark_behind text rest cpu more e m =
    let whole : text ≡ 32 ∷ 91 ∷ (m.number ++ 93 ∷ (32 ∷ more)) = m.written in
    cc

pub no_bracket_no_mark : (text rest : List ℕ) → text ≡ 32 ∷ 91 ∷ rest → All (λ b. b ≢ 93) rest → NoMark text
no_bracket_no_mark text rest e h cpu more m =
    has_byte 93 m.number (32 ∷ more) (subst (AllByRecursion (λ b. b ≢ 93)) (mark_behind text rest cpu more e m) (recursion_from_All (λ b. b ≢ 93) rest h))

mark_parts : (text rest word after : List ℕ) (cpu : ℕ) (more : List ℕ) → text ≡ 32 ∷ 91 ∷ rest → rest ≡ word ++ 93 ∷ after → All (λ b. b ≢ 93) word → (m : IsMark text cpu more) →
    (word ≡ m.number) × (after ≡ 32 ∷ more)
mark_parts text rest word after cpu more e f h m =
    first_unique 93 word m.number after (32 ∷ more) (recursion_from_All (λ b. b ≢ 93) word h) (small_no_bracket m.number cpu m.number_is) (sym f ∙ mark_behind text rest cpu more e m)

pub no_number_no_mark : (text rest word after : List ℕ) → text ≡ 32 ∷ 91 ∷ rest → rest ≡ word ++ 93 ∷ after → All (λ b. b ≢ 93) word → ((n : ℕ) → IsSmall word n → ⊥) → NoMark text
no_number_no_mark text rest word after e f h none cpu more m =
    let parts = mark_parts text rest word after cpu more e f h m in
    none cpu (subst (λ w. IsSmall w cpu) (sym parts.0) m.number_is)

pub no_space_no_mark : (text rest word after : List ℕ) → text ≡ 32 ∷ 91 ∷ rest → rest ≡ word ++ 93 ∷ after → All (λ b. b ≢ 93) word → ((r : List ℕ) → after ≡ 32 ∷ r → ⊥) → NoMark text
no_space_no_mark text rest word after e f h none cpu more m =
    none more (mark_parts text rest word after cpu more e f h m).1

-- what stands from a place on, as a slice has it
pub from_place : (line : List ℕ) (i : ℕ) → take (length line - i) (drop i line) ≡ drop i line
from_place line i = take_all _ _ (omega (arith, length-drop i line))

pub last_made : (text : List ℕ) (i j cpu : ℕ) (rest : List ℕ) → j + 1 ≡ i → NoMarkFrom text i → IsMark (drop j text) cpu rest → IsLastMark text cpu rest
last_made text i j cpu rest next behind m = record { place = j; mark = m; last = λ k other more above. behind k other more (omega arith) }

-- the text begins with no name
abbrev pub NoName : List ℕ → Type 0
NoName text = (name : EventName) (rest : List ℕ) → text ≡ name_text name ++ rest → ⊥

pub no_names : (text : List ℕ) → ((r : List ℕ) → text ≡ name_text Alloc ++ r → ⊥) → ((r : List ℕ) → text ≡ name_text Free ++ r → ⊥) → ((r : List ℕ) → text ≡ name_text Fallback ++ r → ⊥) → NoName text
no_names text a f x Alloc rest e = a rest e
no_names text a f x Free rest e = f rest e
no_names text a f x Fallback rest e = x rest e

-- the text names no event behind spaces
abbrev pub NoSpacedName : List ℕ → Type 0
NoSpacedName text = (name : EventName) (rest : List ℕ) → IsSpacedName text name rest → ⊥

no_name_of_nothing : (name : EventName) (text rest : List ℕ) → IsNamed text name rest → text ≡ [] → ⊥
no_name_of_nothing Alloc text rest (inl e) f = cc
no_name_of_nothing Free text rest (inl e) f = cc
no_name_of_nothing Fallback text rest (inl e) f = cc
no_name_of_nothing name text rest (inr e) f = cc

-- behind spaces stands no name
pub none_spaced : (text spaces named : List ℕ) → text ≡ spaces ++ named → All (λ b. b ≡ 32) spaces → ((b : ℕ) × (more : List ℕ) × (b ≢ 32) × (named ≡ b ∷ more)) →
    ((name : EventName) (rest : List ℕ) → IsNamed named name rest → ⊥) → (name : EventName) (rest : List ℕ) → IsSpacedName text name rest → ⊥
none_spaced text spaces named e all starts none name rest x =
    let same : named ≡ x.named =
    same_behind_spaces spaces x.spaces named x.named (recursion_from_All (λ b. b ≡ 32) spaces all) x.only_spaces
    (λ q f. starts.2 (ap (λ (t : List ℕ). get_or t 0 0) (sym starts.3 ∙ f))) (λ q f. no_space name x.named rest q x.name_is f) (sym e ∙ x.written)
    in
    none name rest (subst (λ t. IsNamed t name rest) (sym same) x.name_is)

-- nor where there are no spaces
pub none_unspaced : (text spaces named : List ℕ) → text ≡ spaces ++ named → length spaces ≡ 0 → ((b : ℕ) × (more : List ℕ) × (b ≢ 32) × (named ≡ b ∷ more)) →
    (name : EventName) (rest : List ℕ) → IsSpacedName text name rest → ⊥
none_unspaced text [] named e none starts name rest x = begins x.spaces x.some x.only_spaces x.written
  where
    begins : (spaces : List ℕ) → 0 < length spaces → AllByRecursion (λ b. b ≡ 32) spaces → text ≡ spaces ++ x.named → ⊥
    begins [] some all f = omega arith
    begins (n ∷ spaces) some all f =
        let same : n ≡ starts.0 = ap (λ (t : List ℕ). get_or t 0 0) (sym f ∙ e ∙ starts.3) in
        starts.2 (sym same ∙ all.0)
none_unspaced text (n ∷ spaces) named e none starts name rest x = absurd (omega arith)

-- nor where there is nothing else
pub none_in_spaces : (text : List ℕ) → All (λ b. b ≡ 32) text → (name : EventName) (rest : List ℕ) → IsSpacedName text name rest → ⊥
none_in_spaces text all name rest x = at_end text x.spaces (recursion_from_All (λ b. b ≡ 32) text all) x.written
  where
    no_named : (t : List ℕ) → AllByRecursion (λ b. b ≡ 32) t → t ≡ x.named → ⊥
    no_named [] h e = no_name_of_nothing name x.named rest x.name_is (sym e)
    no_named (b ∷ t) h e = no_space name x.named rest t x.name_is (sym e ∙ ap (λ (n : ℕ). n ∷ t) h.0)

    at_end : (t spaces : List ℕ) → AllByRecursion (λ b. b ≡ 32) t → t ≡ spaces ++ x.named → ⊥
    at_end t [] h e = no_named t h e
    at_end [] (s ∷ spaces) h e = cc
    at_end (b ∷ t) (s ∷ spaces) h e =
        let rest_is : t ≡ spaces ++ x.named = cc in
        at_end t spaces h.1 rest_is

pub spaced_made : (text spaces named : List ℕ) (name : EventName) (rest : List ℕ) → text ≡ spaces ++ named → All (λ b. b ≡ 32) spaces → 0 < length spaces → IsNamed named name rest → IsSpacedName text name rest
spaced_made text spaces named name rest e all some is =
    record { spaces = spaces; named = named; written = e; some = some; only_spaces = recursion_from_All (λ b. b ≡ 32) spaces all; name_is = is }
