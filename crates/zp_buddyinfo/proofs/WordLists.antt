-- Words of a line, and the numbers that they write.
use Rattle.std.proofs.Common.{ℕ, zero, suc, IsTrue, ◌≡◌, ◌<◌, ◌+◌, ◌^◌, List, [], ◌∷◌, ◌++◌, length, map, take, filter, get_or, sym, ap, subst, ◌∙◌, arith, Option, Some, None, IfNone, nat_lt, cond, true, false, Bool, refl}
use Rattle.std.specs.Borrow.{Bor}
use Rattle.std.specs.List.{AllByRecursion}
use Rattle.std.specs.Fmt.{decimal}
use Rattle.std.specs.Char.{is_ascii_graphic}
use Rattle.std.proofs.lemmas.Bool.Decides.{nat_tests}
use Rattle.std.proofs.lemmas.Fmt.{decimal_injective}
use Rattle.std.proofs.lemmas.List.{take_more, length-map, get_or-map, map-append, append-nil}
use Rattle.std.proofs.lemmas.List.Elements.{filter_more, All-get_or, All-from_recursion}
use Rattle.zp_buddyinfo.specs.Figures.{AreFreeBlocks}
use Rattle.zp_buddyinfo.specs.Rows.{spelled}
use Rattle.zp_buddyinfo.proofs.Made.{made, suitable_is}

-- what holds where there is no value
pub at_none : {T : Type 0} (r : Option T) {P : Type 0} → P → IfNone r P
at_none None p = p
at_none (Some x) p = tt

-- and what follows from it
pub none_weaker : {T : Type 0} (r : Option T) {P Q : Type 0} → (P → Q) → IfNone r P → IfNone r Q
none_weaker None f p = f p
none_weaker (Some x) f p = tt

made_small : (blocks : List ℕ) (m : ℕ) → made blocks < m → AllByRecursion (λ n. n < m) blocks
made_small [] m lt = tt
made_small (n ∷ more) m lt = (omega arith, made_small more m (omega arith))

-- a zone has so few blocks of each order that each count fits 64 bits
pub blocks_small : (blocks : List ℕ) → AreFreeBlocks blocks → AllByRecursion (λ n. n < 2 ^ 64) blocks
blocks_small blocks are = made_small blocks (2 ^ 64) (omega (arith, are.pages, suitable_is blocks 0 (omega arith)))

pub all_at : (P : ℕ → Type 0) (xs : List ℕ) (i : ℕ) → i < length xs → AllByRecursion P xs → P (get_or xs i 0)
all_at P xs i lt all = All-get_or P xs i 0 lt (All-from_recursion P xs all)

pub all_push : (P : ℕ → Type 0) (xs next : List ℕ) (x : ℕ) → next ≡ xs ++ x ∷ [] → AllByRecursion P xs → P x → AllByRecursion P next
all_push P xs next x is all p = subst (AllByRecursion P) (sym is) (go xs all)
  where
    go : (ys : List ℕ) → AllByRecursion P ys → AllByRecursion P (ys ++ x ∷ [])
    go [] q = (p, tt)
    go (y ∷ ys) q = (q.0, go ys q.1)

-- numbers are those that their digits write
pub decimals_same : (xs ys : List ℕ) → AllByRecursion (λ n. n < 2 ^ 64) xs → AllByRecursion (λ n. n < 2 ^ 64) ys → map decimal xs ≡ map decimal ys → xs ≡ ys
decimals_same [] [] p q e = refl
decimals_same [] (y ∷ ys) p q e = cc
decimals_same (x ∷ xs) [] p q e = cc
decimals_same (x ∷ xs) (y ∷ ys) p q e =
    let first : decimal x ≡ decimal y = cc in
    let rest : map decimal xs ≡ map decimal ys = cc in
    let same = decimal_injective x y (omega (arith, p.0)) (omega (arith, q.0)) first in
    let others = decimals_same xs ys p.1 q.1 rest in
    cc

-- the word at a place, of words that write such blocks
pub word_of_block : (words : List (Bor (List ℕ))) (d : Bor (List ℕ)) (i : ℕ) (blocks : List ℕ) → spelled words ≡ map decimal blocks → i < length words →
    (i < length blocks) × ((get_or words i d).now ≡ decimal (get_or blocks i 0))
word_of_block words d i blocks e lt =
    let long : i < length blocks = omega (arith, ap length e, length-map words (λ (w : Bor (List ℕ)). w.now), length-map blocks decimal) in
    (long, sym (get_or-map (λ (w : Bor (List ℕ)). w.now) words i d [] lt) ∙ ap (λ (l : List (List ℕ)). get_or l i []) e ∙ get_or-map decimal blocks i 0 [] long)

-- one word more, and its number
pub number_more : (words : List (Bor (List ℕ))) (d : Bor (List ℕ)) (numbers next : List ℕ) (i n : ℕ) → i < length words → map decimal numbers ≡ take i (spelled words) →
    next ≡ numbers ++ n ∷ [] → (get_or words i d).now ≡ decimal n → map decimal next ≡ take (i + 1) (spelled words)
number_more words d numbers next i n lt so_far is word =
    ap (map decimal) is
    ∙ map-append decimal numbers (n ∷ [])
    ∙ ap (λ (ws : List (List ℕ)). ws ++ decimal n ∷ []) so_far
    ∙ ap (λ (w : List ℕ). take i (spelled words) ++ w ∷ []) (sym word ∙ sym (get_or-map (λ (w : Bor (List ℕ)). w.now) words i d [] lt))
    ∙ sym (take_more (spelled words) i [] (omega (arith, length-map words (λ (w : Bor (List ℕ)). w.now))))

abbrev is_word : List ℕ → Bool
is_word word = nat_lt 0 (length word)

pieces_more : (pieces : List (Bor (List ℕ))) (d : Bor (List ℕ)) (i : ℕ) → i < length pieces →
    filter is_word (take (i + 1) (spelled pieces)) ≡ filter is_word (take i (spelled pieces)) ++ cond (is_word (get_or pieces i d).now) ((get_or pieces i d).now ∷ []) []
pieces_more pieces d i lt =
    filter_more is_word (spelled pieces) i [] (omega (arith, length-map pieces (λ (w : Bor (List ℕ)). w.now)))
    ∙ ap (λ (w : List ℕ). filter is_word (take i (spelled pieces)) ++ cond (is_word w) (w ∷ []) []) (get_or-map (λ (w : Bor (List ℕ)). w.now) pieces i d [] lt)

-- one piece more, which is a word where it is not empty
pub piece_kept : (pieces words next : List (Bor (List ℕ))) (d : Bor (List ℕ)) (i : ℕ) → i < length pieces → spelled words ≡ filter (λ word. nat_lt 0 (length word)) (take i (spelled pieces)) →
    nat_lt 0 (length (get_or pieces i d).now) ≡ true → next ≡ words ++ get_or pieces i d ∷ [] → spelled next ≡ filter (λ word. nat_lt 0 (length word)) (take (i + 1) (spelled pieces))
piece_kept pieces words next d i lt so_far kept is =
    ap spelled is
    ∙ map-append (λ (w : Bor (List ℕ)). w.now) words (get_or pieces i d ∷ [])
    ∙ ap (λ (ws : List (List ℕ)). ws ++ (get_or pieces i d).now ∷ []) so_far
    ∙ sym (pieces_more pieces d i lt ∙ ap (λ (b : Bool). filter is_word (take i (spelled pieces)) ++ cond b ((get_or pieces i d).now ∷ []) []) kept)

pub piece_left : (pieces words : List (Bor (List ℕ))) (d : Bor (List ℕ)) (i : ℕ) → i < length pieces → spelled words ≡ filter (λ word. nat_lt 0 (length word)) (take i (spelled pieces)) →
    nat_lt 0 (length (get_or pieces i d).now) ≡ false → spelled words ≡ filter (λ word. nat_lt 0 (length word)) (take (i + 1) (spelled pieces))
piece_left pieces words d i lt so_far left =
    so_far ∙ sym (pieces_more pieces d i lt ∙ ap (λ (b : Bool). filter is_word (take i (spelled pieces)) ++ cond b ((get_or pieces i d).now ∷ []) []) left ∙ append-nil _)

-- what a read past the end answers
abbrev pub nowhere : Bor (List ℕ)
nowhere = record { ref_ptr = (0, 0); now = [] }

-- the bytes of a name are ASCII
pub name_ascii : (name : List ℕ) → AllByRecursion (λ b. IsTrue (is_ascii_graphic b)) name → (i : ℕ) → get_or name i 0 < 128
name_ascii [] all i = omega arith
name_ascii (b ∷ name) all zero = let here = all.0 in grind (arith, nat_tests)
name_ascii (b ∷ name) all (suc i) = name_ascii name all.1 i
