-- Words of a text, and names of flags: what the front of a text adds to them.
use Rattle.std.proofs.Common.{ℕ, ◌≡◌, ◌≢◌, ◌<◌, List, [], ◌∷◌, ◌++◌, length, ◌||◌, Bool, true, false, cond, eqb, nat_lt, filter, get_or, refl, sym, ap, ◌∙◌, arith}
use Rattle.std.specs.List.{All, AllByRecursion, slice_split, list_any}
use Rattle.std.proofs.lemmas.Bool.Decides.{nat_tests}
use Rattle.std.proofs.lemmas.List.Elements.{All-weaker, All-from_recursion, recursion_from_All}
use Rattle.std.proofs.lemmas.List.Splits.{slice_split_at, slice_split_none}
use Rattle.zp_events.specs.Words.{space, words_of}
use Rattle.zp_events.specs.Flags.{bar, has_name}

apart : (c b : ℕ) → b ≢ c → eqb b c ≡ false
apart c b h = grind (arith, nat_tests)

none_is : (c : ℕ) (bytes : List ℕ) → All (λ b. b ≢ c) bytes → All (λ b. eqb b c ≡ false) bytes
none_is c bytes h = All-weaker (λ b. b ≢ c) (λ b. eqb b c ≡ false) (apart c) bytes h

abbrev is_some_word : List ℕ → Bool
is_some_word word = nat_lt 0 (length word)

some_word : (word : List ℕ) → 0 < length word → is_some_word word ≡ true
some_word word some = grind (arith, nat_tests)

kept : (word : List ℕ) (others : List (List ℕ)) → 0 < length word → filter is_some_word (word ∷ others) ≡ word ∷ filter is_some_word others
kept word others some =
    ap (λ (test : Bool). cond test (word ∷ filter is_some_word others) (filter is_some_word others)) (some_word word some)

-- a word, a space and more
pub words_first : (word after : List ℕ) → All (λ b. b ≢ space) word → 0 < length word → words_of (word ++ space ∷ after) ≡ word ∷ words_of after
unfolding words_of
words_first word after h some =
    ap (filter is_some_word) (slice_split_at (λ b. eqb b space) word space after (none_is space word h) refl) ∙ kept word (slice_split (λ b. eqb b space) after) some

-- one word
pub words_last : (word : List ℕ) → All (λ b. b ≢ space) word → 0 < length word → words_of word ≡ word ∷ words_of []
unfolding words_of
words_last word h some =
    ap (filter is_some_word) (slice_split_none (λ b. eqb b space) word (none_is space word h)) ∙ kept word [] some

pub words_none : words_of [] ≡ []
unfolding words_of
words_none = refl

-- a space adds none
pub words_space : (text : List ℕ) → words_of (space ∷ text) ≡ words_of text
unfolding words_of
words_space text = ap (filter is_some_word) (slice_split_at (λ b. eqb b space) [] space text (All-from_recursion (λ b. eqb b space ≡ false) [] tt) refl)

or_false : (b : Bool) → (b || false) ≡ b
or_false true = refl
or_false false = refl

-- a name, a bar and more
pub name_first : (first after : List ℕ) (test : List ℕ → Bool) → All (λ b. b ≢ bar) first → has_name test (first ++ bar ∷ after) ≡ (test first || has_name test after)
unfolding has_name
name_first first after test h =
    ap (list_any test) (slice_split_at (λ b. eqb b bar) first bar after (none_is bar first h) refl)

-- one name
pub name_last : (first : List ℕ) (test : List ℕ → Bool) → All (λ b. b ≢ bar) first → has_name test first ≡ test first
unfolding has_name
name_last first test h =
    ap (list_any test) (slice_split_none (λ b. eqb b bar) first (none_is bar first h)) ∙ or_false (test first)

-- spaces at the front add none
pub words_behind : (spaces text : List ℕ) → AllByRecursion (λ b. b ≡ 32) spaces → words_of (spaces ++ text) ≡ words_of text
words_behind [] text h = refl
words_behind (b ∷ spaces) text h =
    ap (λ (n : ℕ). words_of (n ∷ (spaces ++ text))) h.0 ∙ words_space (spaces ++ text) ∙ words_behind spaces text h.1

only_spaces : (spaces : List ℕ) → AllByRecursion (λ b. b ≡ 32) spaces → words_of spaces ≡ []
only_spaces [] h = words_none
only_spaces (b ∷ spaces) h = ap (λ (n : ℕ). words_of (n ∷ spaces)) h.0 ∙ words_space spaces ∙ only_spaces spaces h.1

pub all_spaces : (text : List ℕ) → All (λ b. b ≡ 32) text → words_of text ≡ []
all_spaces text h = only_spaces text (recursion_from_All (λ b. b ≡ 32) text h)

behind_spaces : (text spaces rest : List ℕ) → text ≡ spaces ++ rest → All (λ b. b ≡ 32) spaces → words_of text ≡ words_of rest
behind_spaces text spaces rest e h = ap words_of e ∙ words_behind spaces rest (recursion_from_All (λ b. b ≡ 32) spaces h)

some_word_cut : (rest word after : List ℕ) (b : ℕ) (more : List ℕ) → b ≢ 32 → rest ≡ b ∷ more → rest ≡ word ++ 32 ∷ after → 0 < length word
some_word_cut rest [] after b more other e f =
    let same : b ≡ 32 = ap (λ (t : List ℕ). get_or t 0 0) (sym e ∙ f) in
    absurd (other same)
some_word_cut rest (n ∷ word) after b more other e f = omega arith

-- the first word, up to the first space behind it
pub words_cut : (text spaces rest word after : List ℕ) → text ≡ spaces ++ rest → All (λ b. b ≡ 32) spaces → ((b : ℕ) × (more : List ℕ) × (b ≢ 32) × (rest ≡ b ∷ more)) →
    rest ≡ word ++ 32 ∷ after → All (λ b. b ≢ 32) word → words_of text ≡ word ∷ words_of after
words_cut text spaces rest word after e h starts f all =
    behind_spaces text spaces rest e h ∙ ap words_of f ∙ words_first word after all (some_word_cut rest word after starts.0 starts.1 starts.2 starts.3 f)

-- the one word
pub words_whole : (text spaces rest end : List ℕ) → text ≡ spaces ++ rest → All (λ b. b ≡ 32) spaces → ((b : ℕ) × (more : List ℕ) × (b ≢ 32) × (rest ≡ b ∷ more)) →
    All (λ b. b ≢ 32) rest → length end ≡ 0 → words_of text ≡ rest ∷ words_of end
words_whole text spaces rest end e h starts all none =
    let some : 0 < length rest = omega (arith, ap length starts.3) in
    behind_spaces text spaces rest e h ∙ words_last rest all some ∙ ap (λ (t : List ℕ). rest ∷ words_of t) (sym (nil end none))
  where
    nil : (t : List ℕ) → length t ≡ 0 → t ≡ []
    nil [] g = refl
    nil (n ∷ t) g = absurd (omega arith)
