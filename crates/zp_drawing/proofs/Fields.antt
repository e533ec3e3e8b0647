-- What the options of a hole, as in {:>8}, make of a text in ASCII.
use Rattle.std.proofs.Common.{ℕ, ◌≡◌, ◌+◌, ◌-◌, ◌^◌, ◌<◌, ◌≤◌, ◌==◌, true, false, List, [], ◌∷◌, ◌++◌, length, replicate, cond, refl, ap, ◌∙◌, arith, lit<, get_or, suc, append-nil, codes, All, IsTrue, inl, inr, subst}
use Rattle.std.proofs.lemmas.List.{get_or_past}
use Rattle.std.proofs.lemmas.Bool.{cases_lt}
use Rattle.std.proofs.lemmas.Bool.Decides.{nat_tests}
use Rattle.std.specs.Fmt.{char_count, take_chars, format_spec, is_char_start, padded}
use Rattle.std.specs.Char.{is_ascii_alphanumeric}
use Rattle.zp_model.specs.declared.constants.TheConstants.{NAME_PLACES}
use Rattle.zp_model.specs.declared.pageblock_type.PageblockType.{PageblockType}
use Rattle.zp_model.specs.declared.pageblock_type.PageblockType.TheVariants.{Unmovable, Reclaimable, Movable, Isolate}
use Rattle.zp_model.specs.Info.{right_aligned}
use Rattle.zp_model.specs.Naming.{IsName}
use Rattle.zp_drawing.proofs.Padded.{repeat-space}
use Rattle.zp_drawing.specs.TypeTables.{left_aligned, type_name}

-- each byte of a text in ASCII is a character
starts : (b : ℕ) → b < 128 → is_char_start b ≡ true
starts b low = grind (arith, nat_tests)

text_chars : (text : List ℕ) → ((i : ℕ) → get_or text i 0 < 128) → char_count text ≡ length text
unfolding char_count
text_chars [] ascii = refl
text_chars (b ∷ text) ascii =
    ap (λ t. cond t 1 0 + char_count text) (starts b (ascii 0)) ∙ ap (λ n. 1 + n) (text_chars text (λ i. ascii (suc i))) ∙ omega arith

text_taken : (n : ℕ) (text : List ℕ) → length text ≤ n → ((i : ℕ) → get_or text i 0 < 128) → take_chars n text ≡ text
unfolding take_chars
text_taken n [] short ascii = refl
text_taken n (b ∷ text) short ascii =
    let more : (n == 0) ≡ false = grind (arith, nat_tests) in
    ap (λ t. cond t (cond (n == 0) [] (b ∷ take_chars (n - 1) text)) (b ∷ take_chars n text)) (starts b (ascii 0))
    ∙ ap (λ t. cond t [] (b ∷ take_chars (n - 1) text)) more
    ∙ ap (λ l. b ∷ l) (text_taken (n - 1) text (omega arith) (λ i. ascii (suc i)))

-- such a text, at the right
text_right : (w : ℕ) (text : List ℕ) → length text < 2 ^ 64 → ((i : ℕ) → get_or text i 0 < 128) →
    padded (format_spec 32 3 0 w (2 ^ 64 - 1)) text ≡ right_aligned w text
unfolding padded lib.Utf8.encode
text_right w text short ascii =
    let taken : take_chars (2 ^ 64 - 1) text ≡ text = text_taken (2 ^ 64 - 1) text (omega arith) ascii in
    let none : w - length text - (w - length text) ≡ 0 = omega arith in
    rw (taken, text_chars text ascii, none) (ap (λ l. l ++ (text ++ [])) (repeat-space (w - length text)) ∙ ap (λ (l : List ℕ). replicate (w - length text) 32 ++ l) (append-nil text))

-- the name of a type
pub type_right : (t : PageblockType) → padded (format_spec 32 3 0 12 (2 ^ 64 - 1)) (type_name t) ≡ right_aligned 12 (type_name t)
unfolding padded char_count take_chars lib.Utf8.encode
type_right Unmovable = refl
type_right Reclaimable = refl
type_right Movable = refl
type_right Isolate = refl

-- what stands over the tables
pub free_left : padded (format_spec 32 1 0 43 (2 ^ 64 - 1)) (codes "Free pages count per migrate type at order") ≡ left_aligned 43 (codes "Free pages count per migrate type at order")
unfolding padded char_count take_chars lib.Utf8.encode
free_left = refl

pub pageblocks_left : padded (format_spec 32 1 0 23 (2 ^ 64 - 1)) (codes "Number of blocks type ") ≡ left_aligned 23 (codes "Number of blocks type ")
unfolding padded char_count take_chars lib.Utf8.encode
pageblocks_left = refl

alphanumeric_low : (b : ℕ) → IsTrue (is_ascii_alphanumeric b) → b < 128
alphanumeric_low b is = grind (arith, nat_tests)

name_ascii : (name : List ℕ) → All (λ b. IsTrue (is_ascii_alphanumeric b)) name → (i : ℕ) → get_or name i 0 < 128
name_ascii name all i =
    elim (cases_lt i (length name)) [ inl lt ↦ alphanumeric_low _ (all i 0 lt) | inr ge ↦ rw (get_or_past name i 0 ge) (lit< tt) ]

-- the name of a zone
pub name_right : (name : List ℕ) → IsName name → padded (format_spec 32 3 0 8 (2 ^ 64 - 1)) name ≡ right_aligned NAME_PLACES name
name_right name is = text_right 8 name (omega (arith, is.1)) (name_ascii name is.2)

pub told_name : (bytes name : List ℕ) → bytes ≡ name → IsName bytes → IsName name
told_name bytes name same is = subst IsName same is
