-- Words of a line: they are what cutting their line gives, and each line's words are words.
use Rattle.std.proofs.Common.{ℕ, ◌≡◌, ◌≢◌, ◌<◌, List, [], ◌∷◌, ◌++◌, length, false, eqb, refl, sym, ap, ◌∙◌, arith, append_assoc, length-append, ◌≤◌, subst, lit≤, IsTrue, get_or, drop, Option, Some, None, IfNone, IfSome, IsSome, rules}
use Rattle.std.specs.Borrow.{Bor}
use Rattle.std.specs.List.{All, slice_split, AllByRecursion}
use Rattle.std.proofs.lemmas.Bool.Decides.{nat_tests}
use Rattle.std.proofs.lemmas.List.{map-append, length-map, get_or-map}
use Rattle.std.proofs.lemmas.List.Elements.{All-weaker, All-from_recursion, recursion_from_All}
use Rattle.std.proofs.lemmas.List.Splits.{slice_split_at, slice_split_none, length-slice_split, join_with_byte-slice_split}
use Rattle.zp_trace.specs.Spelling.{space, spelled, line_feed, joined, IsWord, AreWords, largest_words, zone_words, workers_words, lists_words, call_words, command_words, kind_word, mark_word}
use Rattle.std.specs.Char.{is_ascii_alphanumeric}
use Rattle.std.specs.Fmt.{decimal}
use Rattle.std.specs.Str.Parse.{AllDigits}
use Rattle.std.proofs.lemmas.Str.Parse.{digit_from_value}
use Rattle.zp_model.specs.Naming.{IsName}
use Rattle.zp_numbers.proofs.Numbers.{digits}
use Rattle.zp_model.specs.declared.migrate_type.MigrateType.{MigrateType}
use Rattle.zp_model.specs.declared.migrate_type.MigrateType.TheVariants.{Unmovable, Reclaimable, Movable}
use Rattle.zp_model.specs.declared.mark.Mark.{Mark}
use Rattle.zp_model.specs.declared.mark.Mark.TheVariants as mark
use Rattle.zp_model.specs.Bounds.{IsCrew, IsLargest, AreLists}
use Rattle.zp_trace.specs.declared.line.ZoneLine.{ZoneLine}
use Rattle.zp_trace.specs.declared.line.Call.{Call}
use Rattle.zp_trace.specs.declared.line.Call.TheVariants.{Info, Alloc, Low, Free, Post, Collect, Drain, Isolate, Release}
use Rattle.zp_trace.specs.declared.line.CommandLine.{CommandLine}
use Rattle.zp_trace.specs.declared.trace.Header.{Header}
use Rattle.zp_trace.specs.Grammar.{IsZoneLine, IsHeader, IsDeclared, IsCallOf, IsCommandOf}

abbrev pub cut : List ℕ → List (List ℕ)
cut line = slice_split (λ b. eqb b space) line

apart : (b : ℕ) → b ≢ space → eqb b space ≡ false
apart b h = grind (arith, nat_tests)

none_is_space : (bytes : List ℕ) → All (λ b. b ≢ space) bytes → All (λ b. eqb b space ≡ false) bytes
none_is_space bytes h = All-weaker (λ b. b ≢ space) (λ b. eqb b space ≡ false) apart bytes h

-- the first word ends at the first space
pub cut_first : (word after : List ℕ) → All (λ b. b ≢ space) word → cut (word ++ space ∷ after) ≡ word ∷ cut after
cut_first word after h = slice_split_at (λ b. eqb b space) word space after (none_is_space word h) refl

-- without a space there is one word
pub cut_none : (word : List ℕ) → All (λ b. b ≢ space) word → cut word ≡ word ∷ []
cut_none word h = slice_split_none (λ b. eqb b space) word (none_is_space word h)

push : (words : List (Bor (List ℕ))) (word : Bor (List ℕ)) (rest : List (List ℕ)) → spelled (words ++ word ∷ []) ++ rest ≡ spelled words ++ word.now ∷ rest
push words word rest =
    ap (λ (ws : List (List ℕ)). ws ++ rest) (map-append (λ (w : Bor (List ℕ)). w.now) words (word ∷ [])) ∙ append_assoc (spelled words) (word.now ∷ []) rest

-- one more word
pub cut_more : (words : List (Bor (List ℕ))) (word : Bor (List ℕ)) (rest after line : List ℕ) → rest ≡ word.now ++ space ∷ after → All (λ b. b ≢ space) word.now → spelled words ++ cut rest ≡ cut line → spelled (words ++ word ∷ []) ++ cut after ≡ cut line
cut_more words word rest after line e h so_far =
    push words word (cut after) ∙ ap (λ (ws : List (List ℕ)). spelled words ++ ws) (sym (ap cut e ∙ cut_first word.now after h)) ∙ so_far

-- the last word
pub cut_last : (words : List (Bor (List ℕ))) (rest : Bor (List ℕ)) (line : List ℕ) → All (λ b. b ≢ space) rest.now → spelled words ++ cut rest.now ≡ cut line → spelled (words ++ rest ∷ []) ≡ cut line
cut_last words rest line h so_far =
    map-append (λ (w : Bor (List ℕ)). w.now) words (rest ∷ []) ∙ ap (λ (ws : List (List ℕ)). spelled words ++ ws) (sym (cut_none rest.now h)) ∙ so_far

-- a line whose words so far are not all has more of them
pub cut_full : (words : List (Bor (List ℕ))) (rest line : List ℕ) (n : ℕ) → spelled words ++ cut rest ≡ cut line → length words ≡ n → n < length (cut line)
cut_full words rest line n so_far e =
    omega (arith, length-slice_split (λ b. eqb b space) rest, length-append (spelled words) (cut rest), length-map words (λ (w : Bor (List ℕ)). w.now), ap length so_far)

-- what holds of each element, over two lists
all_append : (P : ℕ → Type 0) (xs ys : List ℕ) → AllByRecursion P xs → AllByRecursion P ys → AllByRecursion P (xs ++ ys)
all_append P [] ys p q = q
all_append P (x ∷ xs) ys p q = (p.0, all_append P xs ys p.1 q)

all_at : (P : ℕ → Type 0) (xs ys : List ℕ) (y : ℕ) → AllByRecursion P (xs ++ y ∷ ys) → P y
all_at P [] ys y p = p.0
all_at P (x ∷ xs) ys y p = all_at P xs ys y p.1

pub all_weaker : (P Q : ℕ → Type 0) → ((x : ℕ) → P x → Q x) → (xs : List ℕ) → AllByRecursion P xs → AllByRecursion Q xs
all_weaker P Q f [] p = tt
all_weaker P Q f (x ∷ xs) p = (f x p.0, all_weaker P Q f xs p.1)

-- what stands before the first such byte, and what stands after it
pub first_unique : (c : ℕ) (a b x y : List ℕ) → AllByRecursion (λ n. n ≢ c) a → AllByRecursion (λ n. n ≢ c) b → a ++ c ∷ x ≡ b ++ c ∷ y → (a ≡ b) × (x ≡ y)
first_unique c [] [] x y p q e = (refl, cc)
first_unique c [] (n ∷ b) x y p q e = absurd (q.0 cc)
first_unique c (m ∷ a) [] x y p q e = absurd (p.0 cc)
first_unique c (m ∷ a) (n ∷ b) x y p q e =
    let same : m ≡ n = cc in
    let rest : a ++ c ∷ x ≡ b ++ c ∷ y = cc in
    let r = first_unique c a b x y p.1 q.1 rest in
    let front : a ≡ b = r.0 in
    (cc, r.1)

no_space : (word : List ℕ) → IsWord word → All (λ b. b ≢ space) word
no_space word h =
    All-from_recursion (λ b. b ≢ space) word (all_weaker (λ b. space < b) (λ b. b ≢ space) (λ b above. omega arith) word h)

at_least_space : (words : List (List ℕ)) → AllByRecursion IsWord words → AllByRecursion (λ b. space ≤ b) (joined words)
at_least_space [] h = tt
at_least_space (word ∷ []) h = all_weaker (λ b. space < b) (λ b. space ≤ b) (λ b above. omega arith) word h.0
at_least_space (word ∷ next ∷ words) h =
    all_append (λ b. space ≤ b) word (space ∷ joined (next ∷ words)) (all_weaker (λ b. space < b) (λ b. space ≤ b) (λ b above. omega arith) word h.0) (lit≤ tt, at_least_space (next ∷ words) h.1)

no_line_feed : (words : List (List ℕ)) → AllByRecursion IsWord words → AllByRecursion (λ b. b ≢ line_feed) (joined words)
no_line_feed words h =
    all_weaker (λ b. space ≤ b) (λ b. b ≢ line_feed) (λ b above. omega arith) (joined words) (at_least_space words h)

-- words are what cutting their line gives
pub cut_joined : (words : List (List ℕ)) → AreWords words → cut (joined words) ≡ words
cut_joined [] h = absurd (omega (arith, h.0))
cut_joined (word ∷ []) h = cut_none word (no_space word h.2.0)
cut_joined (word ∷ next ∷ words) h =
    cut_first word (joined (next ∷ words)) (no_space word h.2.0) ∙ ap (λ (ws : List (List ℕ)). word ∷ ws) (cut_joined (next ∷ words) (omega arith, omega (arith, h.1), h.2.1))

-- a line is its words, joined
pub joined_cut : (words : List (List ℕ)) (line : List ℕ) → words ≡ cut line → line ≡ joined words
joined_cut words line e = sym (ap joined e ∙ join_with_byte-slice_split space line)

-- a text begins with one line at most
pub first_line_unique : (line rest more : List ℕ) (words : List (List ℕ)) → All (λ b. b ≢ line_feed) line → AreWords words → line ++ line_feed ∷ rest ≡ joined words ++ line_feed ∷ more → (cut line ≡ words) × (rest ≡ more)
first_line_unique line rest more words h w e =
    let r = first_unique line_feed line (joined words) rest more (recursion_from_All (λ b. b ≢ line_feed) line h) (no_line_feed words w.2) e in
    (ap cut r.0 ∙ cut_joined words w, r.1)

-- a text without a line feed begins with no line
pub no_first_line : (text more : List ℕ) (words : List (List ℕ)) → All (λ b. b ≢ line_feed) text → text ≡ joined words ++ line_feed ∷ more → ⊥
no_first_line text more words h e =
    all_at (λ b. b ≢ line_feed) (joined words) more line_feed (subst (AllByRecursion (λ b. b ≢ line_feed)) e (recursion_from_All (λ b. b ≢ line_feed) text h)) refl

-- what is a word
digits_are_word : (word : List ℕ) → AllDigits 10 word → IsWord word
digits_are_word [] h = tt
digits_are_word (d ∷ word) h = (omega (arith, (digit_from_value d h.0).0), digits_are_word word h.1)

pub number_is_word : (n : ℕ) → n < 4294967296 → IsWord (decimal n)
number_is_word n small = digits_are_word (decimal n) (digits (decimal n) n (omega (arith, small)) refl)

above_space : (b : ℕ) → IsTrue (is_ascii_alphanumeric b) → space < b
above_space b h = grind (arith, nat_tests)

pub name_is_word : (name : List ℕ) → IsName name → IsWord name
name_is_word name h =
    all_weaker (λ b. IsTrue (is_ascii_alphanumeric b)) (λ b. space < b) above_space name (recursion_from_All (λ b. IsTrue (is_ascii_alphanumeric b)) name h.2)

-- so two lots of words whose lines begin one text are the same
pub words_are_line : (words others : List (List ℕ)) (rest more : List ℕ) → AreWords words → AreWords others → joined words ++ line_feed ∷ rest ≡ joined others ++ line_feed ∷ more → (words ≡ others) × (rest ≡ more)
words_are_line words others rest more w v e =
    let r = first_unique line_feed (joined words) (joined others) rest more (no_line_feed words w.2) (no_line_feed others v.2) e in
    (sym (cut_joined words w) ∙ ap cut r.0 ∙ cut_joined others v, r.1)

-- what holds where there is no value
pub at_none : {T : Type 0} (r : Option T) {P : Type 0} → P → IfNone r P
at_none None p = p
at_none (Some x) p = tt

-- and what holds where there is none
pub where_none : {T : Type 0} (r : Option T) {P : Type 0} → ((IsSome r → ⊥) → P) → IfNone r P
where_none None f = f (λ some. cc)
where_none (Some x) f = tt

-- and what follows from it
pub none_weaker : {T : Type 0} (r : Option T) {P Q : Type 0} → (P → Q) → IfNone r P → IfNone r Q
none_weaker None f p = f p
none_weaker (Some x) f p = tt

-- the word at a place, of words that are spelled so
pub word_at : (ws : List (Bor (List ℕ))) (d : Bor (List ℕ)) (i : ℕ) (words : List (List ℕ)) → spelled ws ≡ words → i < length ws → (get_or ws i d).now ≡ get_or words i []
word_at ws d i words e inside =
    sym (get_or-map (λ (w : Bor (List ℕ)). w.now) ws i d [] inside) ∙ ap (λ (l : List (List ℕ)). get_or l i []) e

-- words that are as many, and each of them known
pub three : (ws : List (Bor (List ℕ))) (q : Bor (List ℕ)) → 3 ≤ length ws → length ws < 4 → {a b c : List ℕ} → (get_or ws 0 q).now ≡ a → (get_or ws 1 q).now ≡ b → (get_or ws 2 q).now ≡ c → spelled ws ≡ a ∷ b ∷ c ∷ []
three (r ∷ s ∷ t ∷ []) q least below = λ a b c. cc
three ws q least below = absurd (omega arith)

pub four : (ws : List (Bor (List ℕ))) (q : Bor (List ℕ)) → 4 ≤ length ws → length ws < 5 → {a b c d : List ℕ} → (get_or ws 0 q).now ≡ a → (get_or ws 1 q).now ≡ b → (get_or ws 2 q).now ≡ c → (get_or ws 3 q).now ≡ d → spelled ws ≡ a ∷ b ∷ c ∷ d ∷ []
four (r ∷ s ∷ t ∷ u ∷ []) q least below = λ a b c d. cc
four ws q least below = absurd (omega arith)

pub five_and : (ws : List (Bor (List ℕ))) (q : Bor (List ℕ)) → 5 ≤ length ws → {a b c d e : List ℕ} {more : List (List ℕ)} → (get_or ws 0 q).now ≡ a → (get_or ws 1 q).now ≡ b → (get_or ws 2 q).now ≡ c → (get_or ws 3 q).now ≡ d → (get_or ws 4 q).now ≡ e → spelled (drop 5 ws) ≡ more → spelled ws ≡ a ∷ b ∷ c ∷ d ∷ e ∷ more
five_and (r ∷ s ∷ t ∷ u ∷ v ∷ ws) q least = λ a b c d e more. cc
five_and ws q least = absurd (omega arith)

-- and what stands after five
pub after_five : (ws : List (Bor (List ℕ))) (a b c d e : List ℕ) (more : List (List ℕ)) → spelled ws ≡ a ∷ b ∷ c ∷ d ∷ e ∷ more → spelled (drop 5 ws) ≡ more
after_five (r ∷ s ∷ t ∷ u ∷ v ∷ ws) a b c d e more same = cc
after_five ws a b c d e more same = cc

pub six : (ws : List (Bor (List ℕ))) (q : Bor (List ℕ)) → 6 ≤ length ws → length ws < 7 → {a b c d e f : List ℕ} → (get_or ws 0 q).now ≡ a → (get_or ws 1 q).now ≡ b → (get_or ws 2 q).now ≡ c → (get_or ws 3 q).now ≡ d → (get_or ws 4 q).now ≡ e → (get_or ws 5 q).now ≡ f → spelled ws ≡ a ∷ b ∷ c ∷ d ∷ e ∷ f ∷ []
six (r ∷ s ∷ t ∷ u ∷ v ∷ w ∷ []) q least below = λ a b c d e f. cc
six ws q least below = absurd (omega arith)

-- what a read past the end answers
abbrev pub nowhere : Bor (List ℕ)
nowhere = record { ref_ptr = (0, 0); now = [] }

-- at most one word names a largest order
pub largest_is_words : (named : Option ℕ) → IfSome named IsLargest → (length (largest_words named) ≤ 1) × AllByRecursion IsWord (largest_words named)
largest_is_words None is = (omega arith, tt)
largest_is_words (Some m) is = (omega arith, (number_is_word m (omega (arith, is.1)), tt))

pub zone_are_words : (z : ZoneLine) → IsZoneLine z → AreWords (zone_words z)
zone_are_words z is =
    let largest = largest_is_words z.largest is.4 in
    (omega arith, omega (arith, largest.0), (search rules, (name_is_word z.name is.0, (number_is_word z.base (omega (arith, is.1.1)), (number_is_word z.pages (omega (arith, is.2.1)), (number_is_word z.min (omega (arith, is.2.1, is.3)), largest.1))))))

pub workers_are_words : (n : ℕ) → IsCrew n → AreWords (workers_words n)
workers_are_words n is =
    (omega arith, omega arith, (search rules, (number_is_word n (omega (arith, is.1)), tt)))

pub lists_are_words : (batch high : ℕ) → AreLists batch high → AreWords (lists_words batch high)
lists_are_words batch high is =
    (omega arith, omega arith, (search rules, (number_is_word batch (omega (arith, is.most)), (number_is_word high (omega (arith, is.longest)), tt))))

kind_is_word : (kind : MigrateType) → IsWord (kind_word kind)
kind_is_word Unmovable = search rules
kind_is_word Reclaimable = search rules
kind_is_word Movable = search rules

mark_is_word : (m : Mark) → IsWord (mark_word m)
mark_is_word mark.Low = search rules
mark_is_word mark.Min = search rules
mark_is_word mark.Any = search rules

-- a zone that is declared has a name
declared_name : (h : Header) (zone : List ℕ) → IsHeader h → IsDeclared h zone → IsName zone
declared_name h zone header (k, z, inside, here, same) =
    subst IsName same (subst IsZoneLine here (header.zones k z inside)).0

call_are_words : (h : Header) (call : Call) → IsHeader h → IsCallOf h call → (length (call_words call) ≤ 6) × AllByRecursion IsWord (call_words call)
call_are_words h Info header is = (omega arith, search rules)
call_are_words h Drain header is = (omega arith, search rules)
call_are_words h (Alloc label order kind zone m) header is =
    (omega arith, (search rules, (name_is_word label is.0, (number_is_word order (omega (arith, is.1)), (kind_is_word kind, (name_is_word zone (declared_name h zone header is.2), (mark_is_word m, tt)))))))
call_are_words h (Low label order zone) header is =
    (omega arith, (search rules, (name_is_word label is.0, (number_is_word order (omega (arith, is.1)), (name_is_word zone (declared_name h zone header is.2), tt)))))
call_are_words h (Free label) header is = (omega arith, (search rules, (name_is_word label is, tt)))
call_are_words h (Post label to) header is =
    (omega arith, (search rules, (name_is_word label is.0, (number_is_word to (omega (arith, is.1, header.workers.1)), tt))))
call_are_words h (Collect label zone) header is =
    (omega arith, (search rules, (name_is_word label is.0, (name_is_word zone (declared_name h zone header is.1), tt))))
call_are_words h (Isolate zone pageblock) header is =
    (omega arith, (search rules, (name_is_word zone (declared_name h zone header is.0), (number_is_word pageblock (omega (arith, is.1)), tt))))
call_are_words h (Release zone pageblock kind) header is =
    (omega arith, (search rules, (name_is_word zone (declared_name h zone header is.0), (number_is_word pageblock (omega (arith, is.1)), (kind_is_word kind, tt)))))

pub command_are_words : (h : Header) (c : CommandLine) → IsHeader h → IsCommandOf h c → AreWords (command_words c)
command_are_words h c header is =
    let call = call_are_words h c.call header is.1 in
    (omega arith, omega (arith, call.0), (number_is_word c.worker (omega (arith, is.0, header.workers.1)), call.1))

-- a text that begins with a line
pub front : (words : List (List ℕ)) (text more : List ℕ) → text ≡ (joined words ++ line_feed ∷ []) ++ more → text ≡ joined words ++ line_feed ∷ more
front words text more e = e ∙ append_assoc (joined words) (line_feed ∷ []) more
