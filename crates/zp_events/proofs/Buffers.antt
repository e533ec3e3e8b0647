-- What ftrace says of its buffer, part by part.
use Rattle.std.proofs.Common.{ℕ, ◌≡◌, ◌≢◌, ◌<◌, ◌+◌, inl, inr, List, [], ◌∷◌, ◌++◌, drop, codes, sym, subst, ◌∙◌, arith}
use Rattle.std.specs.List.{All, AllByRecursion}
use Rattle.std.specs.Str.Parse.{AllDigits}
use Rattle.std.proofs.lemmas.Bool.{cases_lt}
use Rattle.std.proofs.lemmas.List.Elements.{recursion_from_All}
use Rattle.std.proofs.lemmas.Str.Parse.{digit_from_value}
use Rattle.zp_events.specs.Numbers.{IsNumber}
use Rattle.zp_events.specs.BufferLines.{AreEntries, BeginsWithLost}
use Rattle.zp_events.proofs.Heads.{first_unique, has_byte}

-- no digit is a slash or a space
no_slash : (word : List ℕ) → AllDigits 10 word → AllByRecursion (λ b. b ≢ 47) word
no_slash [] h = tt
no_slash (d ∷ word) h = (omega (arith, (digit_from_value d h.0).0), no_slash word h.1)

no_space : (word : List ℕ) → AllDigits 10 word → AllByRecursion (λ b. b ≢ 32) word
no_space [] h = tt
no_space (d ∷ word) h = (omega (arith, (digit_from_value d h.0).0), no_space word h.1)

-- ---- the entries of a buffer

abbrev label : List ℕ
label = codes "entries-in-buffer/entries-written:"

abbrev pub NoEntries : List (List ℕ) → Type 0
NoEntries words = (kept written : ℕ) → AreEntries words kept written → ⊥

pub no_label : (words a : List (List ℕ)) → words ≡ codes "#" ∷ a → ((more : List (List ℕ)) → a ≡ label ∷ more → ⊥) → NoEntries words
no_label words a e none k w x =
    let are = x.are in
    let rest : a ≡ label ∷ (x.kept_digits ++ (codes "/" ++ x.written_digits)) ∷ x.more = cc in
    none ((x.kept_digits ++ (codes "/" ++ x.written_digits)) ∷ x.more) rest

words_behind : (words a b : List (List ℕ)) (k w : ℕ) → words ≡ codes "#" ∷ a → a ≡ label ∷ b → (x : AreEntries words k w) → b ≡ (x.kept_digits ++ (codes "/" ++ x.written_digits)) ∷ x.more
words_behind words a b k w e f x = let are = x.are in cc

word_is : (words a b c : List (List ℕ)) (word : List ℕ) (k w : ℕ) → words ≡ codes "#" ∷ a → a ≡ label ∷ b → b ≡ word ∷ c → (x : AreEntries words k w) → word ≡ x.kept_digits ++ 47 ∷ x.written_digits
word_is words a b c word k w e f g x = let behind = words_behind words a b k w e f x in cc

pub no_slash_in : (words a b c : List (List ℕ)) (word : List ℕ) → words ≡ codes "#" ∷ a → a ≡ label ∷ b → b ≡ word ∷ c → All (λ y. y ≢ 47) word → NoEntries words
no_slash_in words a b c word e f g all k w x =
    has_byte 47 x.kept_digits x.written_digits (subst (AllByRecursion (λ y. y ≢ 47)) (word_is words a b c word k w e f g x) (recursion_from_All (λ y. y ≢ 47) word all))

parts : (words a b c : List (List ℕ)) (word kept written : List ℕ) (k w : ℕ) → words ≡ codes "#" ∷ a → a ≡ label ∷ b → b ≡ word ∷ c → word ≡ kept ++ 47 ∷ written → All (λ y. y ≢ 47) kept →
    (x : AreEntries words k w) → (kept ≡ x.kept_digits) × (written ≡ x.written_digits)
parts words a b c word kept written k w e f g h all x =
    first_unique 47 kept x.kept_digits written x.written_digits (recursion_from_All (λ y. y ≢ 47) kept all) (no_slash x.kept_digits x.kept_is.digits) (sym h ∙ word_is words a b c word k w e f g x)

pub no_kept : (words a b c : List (List ℕ)) (word kept written : List ℕ) → words ≡ codes "#" ∷ a → a ≡ label ∷ b → b ≡ word ∷ c → word ≡ kept ++ 47 ∷ written → All (λ y. y ≢ 47) kept →
    ((n : ℕ) → IsNumber 10 kept n → ⊥) → NoEntries words
no_kept words a b c word kept written e f g h all none k w x =
    none k (subst (λ t. IsNumber 10 t k) (sym (parts words a b c word kept written k w e f g h all x).0) x.kept_is)

pub no_written : (words a b c : List (List ℕ)) (word kept written : List ℕ) → words ≡ codes "#" ∷ a → a ≡ label ∷ b → b ≡ word ∷ c → word ≡ kept ++ 47 ∷ written → All (λ y. y ≢ 47) kept →
    ((n : ℕ) → IsNumber 10 written n → ⊥) → NoEntries words
no_written words a b c word kept written e f g h all none k w x =
    none w (subst (λ t. IsNumber 10 t w) (sym (parts words a b c word kept written k w e f g h all x).1) x.written_is)

pub entries_made : (words a b c : List (List ℕ)) (word kept written : List ℕ) (k w : ℕ) → words ≡ codes "#" ∷ a → a ≡ label ∷ b → b ≡ word ∷ c → word ≡ kept ++ 47 ∷ written →
    IsNumber 10 kept k → IsNumber 10 written w → AreEntries words k w
entries_made words a b c word kept written k w e f g h is_kept is_written =
    let whole : words ≡ codes "#" ∷ label ∷ (kept ++ (codes "/" ++ written)) ∷ c = cc in
    record { kept_digits = kept; written_digits = written; more = c; are = whole; kept_is = is_kept; written_is = is_written }

-- ---- lost events

abbrev pub NoLost : List ℕ → Type 0
NoLost text = (n : ℕ) → BeginsWithLost text n → ⊥

lost_behind : (text inside : List ℕ) (n : ℕ) → text ≡ codes "[LOST " ++ inside → (x : BeginsWithLost text n) → inside ≡ x.digits ++ 32 ∷ (codes "EVENTS]" ++ x.rest)
lost_behind text inside n e x =
    let whole : text ≡ codes "[LOST " ++ (x.digits ++ 32 ∷ (codes "EVENTS]" ++ x.rest)) = x.written in
    cc

pub no_space_in : (text inside : List ℕ) → text ≡ codes "[LOST " ++ inside → All (λ b. b ≢ 32) inside → NoLost text
no_space_in text inside e all n x =
    has_byte 32 x.digits (codes "EVENTS]" ++ x.rest) (subst (AllByRecursion (λ b. b ≢ 32)) (lost_behind text inside n e x) (recursion_from_All (λ b. b ≢ 32) inside all))

lost_parts : (text inside digits after : List ℕ) (n : ℕ) → text ≡ codes "[LOST " ++ inside → inside ≡ digits ++ 32 ∷ after → All (λ b. b ≢ 32) digits → (x : BeginsWithLost text n) →
    (digits ≡ x.digits) × (after ≡ codes "EVENTS]" ++ x.rest)
lost_parts text inside digits after n e f all x =
    first_unique 32 digits x.digits after (codes "EVENTS]" ++ x.rest) (recursion_from_All (λ b. b ≢ 32) digits all) (no_space x.digits x.number_is.digits) (sym f ∙ lost_behind text inside n e x)

pub no_lost_number : (text inside digits after : List ℕ) → text ≡ codes "[LOST " ++ inside → inside ≡ digits ++ 32 ∷ after → All (λ b. b ≢ 32) digits → ((n : ℕ) → IsNumber 10 digits n → ⊥) → NoLost text
no_lost_number text inside digits after e f all none n x =
    none n (subst (λ t. IsNumber 10 t n) (sym (lost_parts text inside digits after n e f all x).0) x.number_is)

pub no_lost_end : (text inside digits after : List ℕ) → text ≡ codes "[LOST " ++ inside → inside ≡ digits ++ 32 ∷ after → All (λ b. b ≢ 32) digits → ((r : List ℕ) → after ≡ codes "EVENTS]" ++ r → ⊥) → NoLost text
no_lost_end text inside digits after e f all none n x = none x.rest (lost_parts text inside digits after n e f all x).1

-- no report begins at one of the first places of a line
abbrev pub NoLostBelow : List ℕ → ℕ → Type 0
NoLostBelow line i = (k other : ℕ) → k < i → BeginsWithLost (drop k line) other → ⊥

pub none_more : (line : List ℕ) (i : ℕ) → NoLostBelow line i → NoLost (drop i line) → NoLostBelow line (i + 1)
none_more line i before here k other below x =
    elim (cases_lt k i) [
      | inl less ↦ before k other less x
      | inr above ↦
          let same : k ≡ i = omega arith in
          here other (subst (λ n. BeginsWithLost (drop n line) other) same x)
    ]
