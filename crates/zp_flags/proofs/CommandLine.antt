-- What the parser of the command line makes of one word, where it takes the two flags and refuses any other, and of all the words.
use Rattle.std.proofs.Common.{ℕ, zero, suc, ◌+◌, ◌≡◌, ◌≢◌, ◌≤◌, ◌==◌, ◌⊎◌, inl, inr, Bool, true, false, not, cond, List, [], ◌∷◌, Option, None, Some, codes, refl, ap, ◌∙◌, sym, arith, length, ◌<◌, ◌||◌, Err, ap₂, All, map}
use Rattle.std.specs.Prelude.{min, pos, slice_get, fold, is_some, nat_lt}
use Rattle.std.specs.Option.{option_map_or}
use Rattle.std.specs.List.{list_any, before_first, prefix_len, Any, list_all}
use Rattle.std.specs.Str.{bytes_eq, chars}
use Rattle.std.proofs.lemmas.Bool.{cases_Bool, eqb-true, lt-ltb}
use Rattle.std.proofs.lemmas.Slice.Eq.{bytes_eq-Decides}
use Rattle.clap.specs.declared.builder.ArgAction.TheVariants.{Count}
use Rattle.clap.specs.declared.error.kind.ErrorKind.TheVariants as kind
use Rattle.clap.specs.declared.parser.matches.ValueSource.TheVariants.{CommandLine}
use Rattle.clap.specs.declared.builder.value_parser.ValueParser.TheVariants as vp
use Rattle.clap.specs.Words.{App, Row, Rule, Text, new_app, new_rule, with_rule, built, count_text, count_of, matches_of}
use Rattle.clap.specs.Lexer.{has_byte, long_of, long_of_rest, name_and_value, short_of}
use Rattle.clap.specs.Simple.{Shape, filled, is_simple, on_top, entered}
use Rattle.clap.specs.Walk.{Held, idle, plain, after_flag, bundle_met, bundle_step, long_or_other, reading_by, short_or_plain, walk_from, walked, Walk, finished, settled, walk}
use Rattle.clap.specs.Kinds.{Kinds, value_kinds, or_else, IsAmong}
use Rattle.clap.specs.Faults.{bundle_fault, bundle_step_fault, flag_word_fault, flags_fault, step_fault, turn_fault, is_simple_and_free, check_fault, defaults_fault, entered_fault, settle_fault, walk_fault, fault_of}
use Rattle.clap.proofs.OnLiterals.{clap_on_literals}
use Rattle.clap.proofs.CountText.{IsSignedIn-count_text}
use Rattle.clap.proofs.ValueTestLemmas.{Accepts-accepts}
use Rattle.zp_flags.specs.Words.{is_flag, is_serial, is_journal, flags_together, flags_of}
use Rattle.std.proofs.Math.Bool.{or_assoc, or-true, or-false}
use Rattle.std.proofs.lemmas.List.Elements.{All-drop}
use Rattle.std.proofs.lemmas.List.Folds.{list_all-map, list_all_at}
use Rattle.clap.specs.declared.error.kind.ErrorKind.{ErrorKind}
use Rattle.clap.proofs.WalkLemmas.{both}
use Rattle.zp_flags.specs.declared.flags.FlagFault.TheVariants.{Unknown}

-- ---- the command

pub data Flag : Type 0 where
  Serial : Flag
  Journal : Flag

abbrev pub other : Flag → Flag
other Serial = Journal
other Journal = Serial

-- its name
abbrev pub name_of : Flag → Text
name_of Serial = codes "serial"
name_of Journal = codes "journal"

-- and its word
abbrev pub word_of : Flag → Text
word_of Serial = codes "--serial"
word_of Journal = codes "--journal"

abbrev pub rule : Flag → Rule
rule f = record (new_rule (name_of f)) { long = Some (name_of f); action = Some Count }

-- the settings of the command
abbrev pub set_up : App → App
set_up =
    on_top (λ s. record s { no_binary_name = true; disable_help_flag = true; disable_version_flag = true; disable_help_subcommand = true })

-- the command, with no flags but those two
abbrev pub command : App
command = with_rule (with_rule (set_up (new_app (codes "zonereplay"))) (rule Serial)) (rule Journal)

-- the command as it is built
abbrev pub shape : Shape
shape = (built command).top

pub command_simple : is_simple command ≡ true
unfolding clap_on_literals
command_simple = refl

pub command_free : is_simple_and_free command ≡ true
unfolding clap_on_literals
command_free = refl

-- ---- the flags

-- how often the flags were met: neither yet, one alone, or both, the one that was met last behind
pub data Seen : Type 0 where
  Neither : Seen
  One : Flag → ℕ → Seen
  Both : Flag → ℕ → ℕ → Seen

abbrev pub row : Flag → ℕ → Row
row f n = record {
  id = name_of f;
  values = count_text n ∷ [];
  count = Some n;
  source = Some CommandLine;
  reading = reading_by (filled (rule f));
}

abbrev pub rows : Seen → List Row
rows Neither = []
rows (One f n) = row f n ∷ []
rows (Both f n m) = row f n ∷ row (other f) m ∷ []

abbrev pub counted : Seen → Held
counted seen = record { rows = rows seen; pending = None; skip = 0 }

abbrev pub one_more : ℕ → ℕ
one_more n = min (n + 1) 255

abbrev pub is_same : Flag → Flag → Bool
is_same Serial Serial = true
is_same Journal Journal = true
is_same f g = false

-- the counts with one more
abbrev pub more : Flag → Seen → Seen
more f Neither = One f 1
more f (One g n) = cond (is_same f g) (One f (one_more n)) (Both g n 1)
more f (Both g n m) = cond (is_same f g) (Both (other g) m (one_more n)) (Both g n (one_more m))

pub flag_taken : (f : Flag) (seen : Seen) → walked shape.rules [] (walk_from (counted seen)) (word_of f) ≡ walk_from (counted (more f seen))
unfolding clap_on_literals
flag_taken Serial (One Serial n) = refl
flag_taken Journal (One Serial n) = refl
flag_taken Serial (Both Serial n m) = refl
flag_taken Journal (Both Serial n m) = refl
flag_taken f seen = refl

count_accepted : (n : ℕ) → n ≤ 255 → value_kinds false (vp.Signed (pos 0) (pos 255)) (count_text n) ≡ []
count_accepted n le =
    rw (Accepts-accepts false (vp.Signed (pos 0) (pos 255)) (count_text n) (IsSignedIn-count_text n le)) refl

more_accepted : (n : ℕ) → or_else (value_kinds false (vp.Signed (pos 0) (pos 255)) (count_text (one_more n))) [] ≡ []
more_accepted n = ap (λ ks. or_else ks []) (count_accepted (one_more n) (omega arith))

pub flag_passes : (f : Flag) (seen : Seen) → turn_fault shape [] (walk_from (counted seen)) (word_of f) ≡ []
unfolding clap_on_literals
flag_passes Serial (One Serial n) = more_accepted n
flag_passes Journal (One Journal n) = more_accepted n
flag_passes Serial (Both Serial n m) = more_accepted n
flag_passes Serial (Both Journal n m) = more_accepted m
flag_passes Journal (Both Serial n m) = more_accepted m
flag_passes Journal (Both Journal n m) = more_accepted n
flag_passes f seen = refl

-- ---- any other word

-- the word is refused
abbrev pub IsRefusal : Kinds → Type 0
IsRefusal ks = (ks ≡ kind.UnknownArgument ∷ []) ⊎ (ks ≡ kind.TooManyValues ∷ [])

-- what is at fault in a word of short flags, by their first character
abbrev first_turn : Option ℕ → ℕ → Text → Text → Held → Kinds
first_turn first k word flags h =
    let met = bundle_step shape.rules first flags 0 plain h (bundle_met shape.rules k) in
    let after = after_flag shape.rules idle word met.0 met.1 in
    or_else (bundle_step_fault shape.rules false first flags 0 h (flags_fault shape.rules false k)) (step_fault shape 1 after.0 after.1)

first_refused : (first : Option ℕ) (k : ℕ) (word flags : Text) (h : Held) → IsRefusal (first_turn first k word flags h)
unfolding clap_on_literals
first_refused None k word flags h = inl refl
first_refused (Some x) k word flags h = inl refl

-- by how many flags there are at most
abbrev bundle_turn : ℕ → Text → Text → Held → Kinds
bundle_turn k word flags h =
    let met = bundle_met shape.rules k flags 0 plain h in
    let after = after_flag shape.rules idle word met.0 met.1 in
    or_else (flags_fault shape.rules false k flags 0 h) (step_fault shape 1 after.0 after.1)

bundle_refused : (k : ℕ) (word flags : Text) (h : Held) → IsRefusal (bundle_turn k word flags h)
unfolding clap_on_literals
bundle_refused zero word flags h = inl refl
bundle_refused (suc k) word flags h = first_refused (slice_get (chars flags) 0) k word flags h

-- by the short form of a word that has no long one
abbrev short_turn : Option Text → Text → Held → Kinds
short_turn short word h =
    let after = short_or_plain shape.rules idle word short h in
    or_else (option_map_or (λ flags. bundle_fault shape.rules false flags h) short []) (step_fault shape 1 after.0 after.1)

short_refused : (short : Option Text) (word : Text) (seen : Seen) → IsRefusal (short_turn short word (counted seen))
short_refused None word seen = inl refl
short_refused (Some flags) word seen = bundle_refused (length flags) word flags (counted seen)

-- by the long form
abbrev long_turn : Option (Text × Option Text) → Text → Held → Kinds
long_turn long word h =
    let after = long_or_other shape.rules idle word long h in
    or_else (flag_word_fault shape.rules false long word h) (step_fault shape 1 after.0 after.1)

before_none : (rest : Text) → list_any (λ x. x == 61) rest ≡ false → before_first (λ x. x == 61) rest ≡ rest
before_none [] e = refl
before_none (x ∷ xs) e = elim (cases_Bool (x == 61)) [
  | inl t ↦ let bad = rw t at e in cc
  | inr t ↦
      let one : 1 + prefix_len (λ x. not (x == 61)) xs ≡ suc (prefix_len (λ x. not (x == 61)) xs) = omega arith in
      rw (t, one) (ap (λ q. x ∷ q) (before_none xs (rw t at e)))
]

-- no other word has a flag's name for its long form, and no value
only_name : (f : Flag) (rest : Text) (p : Text × Option Text) → long_of_rest rest ≡ Some p → p.0 ≡ name_of f → p.1 ≡ None → rest ≡ name_of f
only_name Serial [] p is name bare = cc
only_name Journal [] p is name bare = cc
only_name f (x ∷ xs) p is name bare =
    let same : name_and_value (x ∷ xs) ≡ p = cc in
    let none : (name_and_value (x ∷ xs)).1 ≡ None = ap (λ (q : Text × Option Text). q.1) same ∙ bare in
    elim (cases_Bool (has_byte 61 (x ∷ xs))) [
      | inl t ↦ let bad : Some _ ≡ None = rw t at none in cc
      | inr t ↦ sym (before_none (x ∷ xs) t) ∙ ap (λ (q : Text × Option Text). q.0) same ∙ name
    ]

dashed : (f : Flag) → word_of f ≡ 45 ∷ 45 ∷ name_of f
dashed Serial = refl
dashed Journal = refl

only_flag : (f : Flag) (word : Text) (p : Text × Option Text) → long_of word ≡ Some p → p.0 ≡ name_of f → p.1 ≡ None → word ≡ word_of f
only_flag f [] p is name bare = cc
only_flag f (x ∷ []) p is name bare = elim (cases_Bool (x == 45)) [ inl e ↦ let bad = rw e at is in cc | inr e ↦ let bad = rw e at is in cc ]
only_flag f (x ∷ y ∷ rest) p is name bare = elim (cases_Bool (x == 45)) [
  | inr e ↦ let bad = rw e at is in cc
  | inl e ↦ elim (cases_Bool (y == 45)) [
    | inr g ↦ let bad = rw (e, g) at is in cc
    | inl g ↦ rw (dashed f, eqb-true x 45 e, eqb-true y 45 g, only_name f rest p (rw (e, g) at is) name bare) refl
  ]
]

-- a long form that is neither flag's
long_other : (serial journal : Bool) (word name : Text) (value : Option Text) (seen : Seen) → bytes_eq (codes "serial") name ≡ serial → bytes_eq (codes "journal") name ≡ journal →
    ((f : Flag) → name ≡ name_of f → value ≡ None → ⊥) → IsRefusal (long_turn (Some (name, value)) word (counted seen))
unfolding clap_on_literals
long_other false false word name value seen s j fit = rw (s, j) (inl refl)
long_other true journal word name None seen s j fit = absurd (fit Serial (sym ((bytes_eq-Decides (codes "serial") name).0 s)) refl)
long_other true journal word name (Some v) seen s j fit = rw s (inr refl)
long_other false true word name None seen s j fit = absurd (fit Journal (sym ((bytes_eq-Decides (codes "journal") name).0 j)) refl)
long_other false true word name (Some v) seen s j fit = rw (s, j) (inr refl)

word_is_flag : (f : Flag) → is_flag (word_of f) ≡ true
word_is_flag Serial = refl
word_is_flag Journal = refl

long_refused : (long : Option (Text × Option Text)) (word : Text) (seen : Seen) → long_of word ≡ long → is_flag word ≡ false → IsRefusal (long_turn long word (counted seen))
long_refused None word seen e fit = short_refused (short_of word) word seen
long_refused (Some p) word seen e fit =
    long_other (bytes_eq (codes "serial") p.0) (bytes_eq (codes "journal") p.0) word p.0 p.1 seen refl refl
    (λ f name bare. let bad : true ≡ false = sym (word_is_flag f) ∙ rw (only_flag f word p e name bare) at fit in cc)

pub other_refused : (seen : Seen) (word : Text) → word ≢ codes "--" → is_flag word ≡ false → IsRefusal (turn_fault shape [] (walk_from (counted seen)) word)
other_refused seen word ends fit = elim (cases_Bool (bytes_eq word (codes "--"))) [
  | inl e ↦ absurd (ends ((bytes_eq-Decides word (codes "--")).0 e))
  | inr e ↦ rw e (long_refused (long_of word) word seen refl fit)
]

-- whether a word is a flag's
abbrev is_of : Flag → Text → Bool
is_of Serial w = is_serial w
is_of Journal w = is_journal w

-- the flag whose word it is
abbrev flag_in : Text → Flag
flag_in w = cond (is_serial w) Serial Journal

is_word : (w : Text) → is_flag w ≡ true → w ≡ word_of (flag_in w)
is_word w e = elim (cases_Bool (is_serial w)) [
  | inl t ↦ rw t ((bytes_eq-Decides w (codes "--serial")).0 t)
  | inr t ↦ rw t ((bytes_eq-Decides w (codes "--journal")).0 (rw t at e))
]

-- ---- the walk over the words

-- the counts after words that are flags
abbrev count_after : Seen → List Text → Seen
count_after seen [] = seen
count_after seen (w ∷ ws) = count_after (more (flag_in w) seen) ws

flags_walked : (seen : Seen) (words : List Text) → list_all is_flag words ≡ true → walk shape.rules [] (counted seen) words ≡ walk_from (counted (count_after seen words))
flags_walked seen [] e = refl
flags_walked seen (w ∷ ws) e =
    let p = both _ _ e in
    ap (λ (t : Text). fold (walked shape.rules []) (walked shape.rules [] (walk_from (counted seen)) t) ws) (is_word w p.0)
    ∙ ap (λ (y : Walk). fold (walked shape.rules []) y ws) (flag_taken (flag_in w) seen)
    ∙ flags_walked (more (flag_in w) seen) ws p.1

next_word : (f : Flag) (seen : Seen) (w : Text) (ws : List Text) → w ≡ word_of f → walk_fault shape [] (walk_from (counted seen)) (w ∷ ws) ≡ walk_fault shape [] (walk_from (counted (more f seen))) ws
unfolding walk_fault
next_word f seen w ws e =
    ap (λ (t : Text). walk_fault shape [] (walk_from (counted seen)) (t ∷ ws)) e
    ∙ ap₂ (λ (ks : Kinds) (y : Walk). or_else ks (walk_fault shape [] y ws)) (flag_passes f seen) (flag_taken f seen)

flags_pass : (seen : Seen) (words : List Text) → list_all is_flag words ≡ true → walk_fault shape [] (walk_from (counted seen)) words ≡ []
unfolding walk_fault
flags_pass seen [] e = refl
flags_pass seen (w ∷ ws) e =
    let p = both _ _ e in
    next_word (flag_in w) seen w ws (is_word w p.0) ∙ flags_pass (more (flag_in w) seen) ws p.1

refused_first : (ks others : Kinds) → IsRefusal ks → or_else ks others ≡ [] → ⊥
refused_first ks others (inl e) none = let bad : kind.UnknownArgument ∷ [] ≡ [] = rw e at none in cc
refused_first ks others (inr e) none = let bad : kind.TooManyValues ∷ [] ≡ [] = rw e at none in cc

other_fails : (seen : Seen) (words : List Text) → All (λ w. w ≢ codes "--") words → list_all is_flag words ≡ false → walk_fault shape [] (walk_from (counted seen)) words ≡ [] → ⊥
unfolding walk_fault
other_fails seen [] ends e none = cc
other_fails seen (w ∷ ws) ends e none = elim (cases_Bool (is_flag w)) [
  | inr t ↦ refused_first _ _ (other_refused seen w (ends 0 w (omega arith)) t) none
  | inl t ↦ other_fails (more (flag_in w) seen) ws (All-drop (λ t. t ≢ codes "--") 1 (w ∷ ws) ends) (rw t at e) (sym (next_word (flag_in w) seen w ws (is_word w t)) ∙ none)
]

-- ---- the parse

-- what is at fault in all, by what is in the walk and where it ends
abbrev level_of : Kinds → Walk → Kinds
level_of ks w =
    or_else ks
    (or_else (entered_fault (built command) w.stopped)
    (or_else (settle_fault shape.rules false w.held)
    (or_else (defaults_fault (settled shape.rules w.held).rows shape.rules) (check_fault shape (finished shape.rules w.held) (is_some (entered (built command) w.stopped))))))

ends_well : (seen : Seen) → level_of [] (walk_from (counted seen)) ≡ []
unfolding clap_on_literals
ends_well (One Serial n) = refl
ends_well (Both Serial n m) = refl
ends_well seen = refl

flags_good : (words : List Text) → list_all is_flag words ≡ true → fault_of command words ≡ []
flags_good words e =
    ap₂ level_of (flags_pass Neither words e) (flags_walked Neither words e) ∙ ends_well (count_after Neither words)

first_none : (ks others : Kinds) → or_else ks others ≡ [] → ks ≡ []
first_none [] others e = refl
first_none (k ∷ ks) others e = cc

other_bad : (words : List Text) → All (λ w. w ≢ codes "--") words → list_all is_flag words ≡ false → fault_of command words ≡ [] → ⊥
other_bad words ends e none = other_fails Neither words ends e (first_none _ _ none)

-- ---- how often each flag was met

abbrev count_in : Flag → Seen → ℕ
count_in f Neither = 0
count_in f (One g n) = cond (is_same f g) n 0
count_in f (Both g n m) = cond (is_same f g) n m

count_found : (f : Flag) (seen : Seen) → count_of (name_of f) (finished shape.rules (counted seen)) ≡ count_in f seen
unfolding clap_on_literals
count_found Serial (One Serial n) = refl
count_found Journal (One Serial n) = refl
count_found Serial (Both Serial n m) = refl
count_found Journal (Both Serial n m) = refl
count_found f seen = refl

raised : (f : Flag) (seen : Seen) → 0 < count_in f (more f seen)
raised Serial (One Serial n) = omega arith
raised Journal (One Serial n) = omega arith
raised Serial (Both Serial n m) = omega arith
raised Journal (Both Serial n m) = omega arith
raised f seen = omega arith

left : (f : Flag) (seen : Seen) → count_in (other f) (more f seen) ≡ count_in (other f) seen
left Serial (One Serial n) = refl
left Journal (One Serial n) = refl
left Serial (Both Serial n m) = refl
left Journal (Both Serial n m) = refl
left f seen = refl

-- whether the flag was met
abbrev is_met : Flag → Seen → Bool
is_met f seen = nat_lt 0 (count_in f seen)

met_more : (f g : Flag) (seen : Seen) → is_met f (more g seen) ≡ (is_met f seen || is_of f (word_of g))
met_more Serial Serial seen = lt-ltb 0 _ (raised Serial seen) ∙ sym (or-true (is_met Serial seen))
met_more Journal Journal seen = lt-ltb 0 _ (raised Journal seen) ∙ sym (or-true (is_met Journal seen))
met_more Serial Journal seen = ap (nat_lt 0) (left Journal seen) ∙ sym (or-false (is_met Serial seen))
met_more Journal Serial seen = ap (nat_lt 0) (left Serial seen) ∙ sym (or-false (is_met Journal seen))

met_after : (f : Flag) (seen : Seen) (words : List Text) → list_all is_flag words ≡ true → is_met f (count_after seen words) ≡ (is_met f seen || list_any (is_of f) words)
met_after f seen [] e = sym (or-false (is_met f seen))
met_after f seen (w ∷ ws) e =
    let p = both _ _ e in
    let g = flag_in w in
    met_after f (more g seen) ws p.1
    ∙ ap (λ b. b || list_any (is_of f) ws) (met_more f g seen ∙ ap (λ t. is_met f seen || is_of f t) (sym (is_word w p.0)))
    ∙ or_assoc (is_met f seen) (is_of f w) (list_any (is_of f) ws)

counted_any : (f : Flag) (words : List Text) (n : ℕ) → list_all is_flag words ≡ true → n ≡ count_of (name_of f) (matches_of command words) → nat_lt 0 n ≡ list_any (is_of f) words
counted_any f words n e count =
    ap (nat_lt 0) (count ∙ ap (λ (y : Walk). count_of (name_of f) (finished shape.rules y.held)) (flags_walked Neither words e) ∙ count_found f (count_after Neither words))
    ∙ met_after f Neither words e

-- ---- what the words are read as

pub good_flags : (words : List Text) (n m : ℕ) → All (λ w. w ≢ codes "--") words → fault_of command words ≡ [] → n ≡ count_of (codes "serial") (matches_of command words) →
    m ≡ count_of (codes "journal") (matches_of command words) → flags_together (nat_lt 0 n) (nat_lt 0 m) ≡ flags_of words
good_flags words n m ends none serial journal = elim (cases_Bool (list_all is_flag words)) [
  | inl t ↦ rw t (ap₂ flags_together (counted_any Serial words n t serial) (counted_any Journal words m t journal))
  | inr t ↦ absurd (other_bad words ends t none)
]

pub bad_flags : (words : List Text) (k : ErrorKind) → IsAmong k (fault_of command words) → Err Unknown ≡ flags_of words
bad_flags words k among = elim (cases_Bool (list_all is_flag words)) [
  | inl t ↦ absurd (rw (flags_good words t) at among)
  | inr t ↦ rw t refl
]

pub bad_dashes : {X : Type 0} (text : X → Text) (xs : List X) → Any (λ x. text x ≡ codes "--") xs → Err Unknown ≡ flags_of (map text xs)
bad_dashes text xs any =
    let other = ap (λ x. is_flag (text x)) any.3 ∙ ap is_flag any.4 in
    let some : list_all is_flag (map text xs) ≡ false = list_all-map is_flag text xs ∙ list_all_at (λ x. is_flag (text x)) xs any.0 any.1 any.2 other in
    rw some refl
