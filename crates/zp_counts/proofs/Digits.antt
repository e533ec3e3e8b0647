-- Digits of numbers, and counts that come back from their packed words.
use Rattle.std.proofs.Common.{◌≡◌, ℕ, zero, suc, ◌+◌, ◌-◌, ◌*◌, ◌/◌, ◌%◌, ◌^◌, ◌<◌, ◌≤◌, List, [], ◌∷◌, ◌++◌, length, take, drop, set, get_or, All, refl, subst, sym, ap, ◌∙◌, arith, append_assoc, drop-drop, take-append-drop}
use Rattle.std.proofs.Math.Nat.{mul-le-mul_right, pow-le-pow_right, pow-suc, pow-zero}
use Rattle.std.proofs.lemmas.Nat.{mod-mul-add, div-mul-add}
use Rattle.std.proofs.lemmas.List.{append-nil, drop_more, get_or-drop, get_or-take, get_or_default, length-drop, length-take, length-take-le, take_all, take_more_set}
use Rattle.std.proofs.lemmas.List.Elements.{All-cons, All-head, All-tail}
use Rattle.zp_model.specs.declared.constants.TheConstants.{ORDERS}
use Rattle.zp_model.specs.declared.counts.Counts.{Counts}
use Rattle.zp_counts.specs.declared.packed.TheConstants.{WIDE, MIDDLE, NARROW}
use Rattle.zp_counts.specs.CountBoards.{ArePackable, StayBelow}
use Rattle.zp_counts.specs.declared.words.TheConstants.{PAIR}
use Rattle.zp_counts.specs.Packing.{digits_of, number_of, numbers_in, packed_in, packed_words, paired_in, pairs_of}

-- a number of so many digits is below that power of the base
pub number_below : (base : ℕ) (ds : List ℕ) → All (λ d. d < base) ds → number_of base ds < base ^ length ds
number_below base [] low = omega (arith, pow-zero base)
number_below base (d ∷ ds) low =
    let below : number_of base ds < base ^ length ds = number_below base ds (All-tail (λ e. e < base) d ds low) in
    let rest : number_of base ds + 1 ≤ base ^ length ds = omega (arith, below) in
    omega (arith, All-head (λ e. e < base) d ds low, mul-le-mul_right base rest, pow-suc base (length ds))

pub low_drop : (base i : ℕ) (ds : List ℕ) → All (λ d. d < base) ds → All (λ d. d < base) (drop i ds)
low_drop base i ds low k d lt = rw (get_or-drop i ds k d) (low (i + k) d (omega (arith, lt, length-drop i ds)))

-- one digit more at the low end
pub number_step : (base p : ℕ) (ds : List ℕ) → 0 < p → p ≤ length ds → number_of base (drop p ds) * base + get_or ds (p - 1) 0 ≡ number_of base (drop (p - 1) ds)
number_step base p ds some inside =
    let here : p - 1 + 1 ≡ p = omega arith in
    sym (ap (number_of base) (drop_more ds (p - 1) 0 (omega arith)) ∙ ap (λ n. number_of base (drop n ds) * base + get_or ds (p - 1) 0) here)

-- and the number is still below the power of the base that all digits have
pub step_below : (base p : ℕ) (ds : List ℕ) → 0 < base → 0 < p → p ≤ length ds → All (λ d. d < base) ds
    → number_of base (drop p ds) * base + get_or ds (p - 1) 0 < base ^ length ds
step_below base p ds pos some inside low =
    let more : base ^ length (drop (p - 1) ds) ≤ base ^ length ds = pow-le-pow_right pos (omega (arith, length-drop (p - 1) ds)) in
    omega (arith, number_step base p ds some inside, number_below base (drop (p - 1) ds) (low_drop base (p - 1) ds low))

-- one digit more is read
pub digits_step : (base rest p n : ℕ) (ds : List ℕ) → p < n → length ds ≡ n
    → take (p + 1) (set ds p (rest % base)) ++ digits_of base (n - (p + 1)) (rest / base) ≡ take p ds ++ digits_of base (n - p) rest
digits_step base rest p n ds lt long =
    ap (λ l. l ++ digits_of base (n - (p + 1)) (rest / base)) (take_more_set ds p (rest % base) (omega arith))
    ∙ append_assoc (take p ds) (rest % base ∷ []) (digits_of base (n - (p + 1)) (rest / base))
    ∙ ap (λ m. take p ds ++ digits_of base m rest) (left n p lt)
  where
    left : (n p : ℕ) → p < n → suc (n - (p + 1)) ≡ n - p
    left n p lt = omega arith

pub digits_all : (base rest p n : ℕ) (ds : List ℕ) → n ≤ p → p ≤ n → length ds ≡ n → take p ds ++ digits_of base (n - p) rest ≡ ds
digits_all base rest p n ds le ge long =
    ap (λ m. take p ds ++ digits_of base m rest) (none n p le) ∙ append-nil (take p ds) ∙ take_all p ds (omega arith)
  where
    none : (n p : ℕ) → n ≤ p → n - p ≡ zero
    none n p le = omega arith

-- the digits of a number are those that it was made of
pub digits_back : (base : ℕ) (ds : List ℕ) → All (λ d. d < base) ds → digits_of base (length ds) (number_of base ds) ≡ ds
digits_back base [] low = refl
digits_back base (d ∷ ds) low =
    let n = number_of base ds in
    let first : (n * base + d) % base ≡ d = mod-mul-add n base d (All-head (λ e. e < base) d ds low) in
    let rest : (n * base + d) / base ≡ n = div-mul-add n base d (All-head (λ e. e < base) d ds low) in
    (λ j. first j ∷ digits_of base (length ds) (rest j)) ∙ ap (λ l. d ∷ l) (digits_back base ds (All-tail (λ e. e < base) d ds low))

-- the digits of a packed word are the counts that were packed into it
word_back : (base n : ℕ) (ds : List ℕ) → length ds ≡ n → All (λ d. d < base) ds → digits_of base n (number_of base ds) ≡ ds
word_back base n ds long low = subst (λ m. digits_of base m (number_of base ds) ≡ ds) long (digits_back base ds low)

-- the counts of some orders are low, as a list
pub orders_low : (c : Counts) (from n to limit : ℕ) → from + n ≤ to → StayBelow c from to limit → All (λ d. d < limit) (take n (drop from c.by_order))
orders_low c from n to limit le low k d lt =
    let inside : k < n = omega (arith, lt, length-take n (drop from c.by_order)) in
    let wide : k < length (drop from c.by_order) = omega (arith, lt, length-take n (drop from c.by_order)) in
    let here : get_or (take n (drop from c.by_order)) k d ≡ get_or c.by_order (from + k) d = get_or-take n (drop from c.by_order) k d inside ∙ get_or-drop from c.by_order k d in
    let same : get_or c.by_order (from + k) d ≡ get_or c.by_order (from + k) 0 = get_or_default c.by_order (from + k) d 0 (omega (arith, wide, length-drop from c.by_order)) in
    rw (here, same) (low (from + k) (omega arith) (omega (arith, inside)))

-- counts come back from their packed words
pub packed_back : (c : Counts) → length c.by_order ≡ ORDERS → ArePackable c → packed_in (packed_words c) ≡ c
packed_back c long low =
    let ns : List ℕ = c.by_order in
    let wide : digits_of WIDE 3 (number_of WIDE (c.free ∷ take 2 ns)) ≡ c.free ∷ take 2 ns =
    word_back WIDE 3 (c.free ∷ take 2 ns) (ap suc (length-take-le 2 ns (omega arith))) (All-cons (λ d. d < WIDE) c.free (take 2 ns) low.0 (orders_low c 0 2 2 WIDE (omega arith) low.1)) in
    let middle : digits_of MIDDLE 4 (number_of MIDDLE (take 4 (drop 2 ns))) ≡ take 4 (drop 2 ns) =
    word_back MIDDLE 4 (take 4 (drop 2 ns)) (length-take-le 4 (drop 2 ns) (omega (arith, length-drop 2 ns))) (orders_low c 2 4 6 MIDDLE (omega arith) low.2) in
    let narrow : digits_of NARROW 5 (number_of NARROW (take 5 (drop 6 ns))) ≡ take 5 (drop 6 ns) =
    word_back NARROW 5 (take 5 (drop 6 ns)) (length-take-le 5 (drop 6 ns) (omega (arith, length-drop 6 ns))) (orders_low c 6 5 ORDERS NARROW (omega arith) low.3) in
    let whole : take 2 ns ++ drop 2 ns ≡ ns = take-append-drop 2 ns in
    let upper : take 4 (drop 2 ns) ++ drop 6 ns ≡ drop 2 ns = ap (λ l. take 4 (drop 2 ns) ++ l) (sym (drop-drop 4 2 ns)) ∙ take-append-drop 4 (drop 2 ns) in
    let top : take 5 (drop 6 ns) ≡ drop 6 ns = take_all 5 (drop 6 ns) (omega (arith, length-drop 6 ns)) in
    let by_order : drop 1 (digits_of WIDE 3 (number_of WIDE (c.free ∷ take 2 ns))) ++ (digits_of MIDDLE 4 (number_of MIDDLE (take 4 (drop 2 ns))) ++ digits_of NARROW 5 (number_of NARROW (take 5 (drop 6 ns)))) ≡ ns =
    (λ j. drop 1 (wide j) ++ (middle j ++ narrow j)) ∙ ap (λ l. take 2 ns ++ (take 4 (drop 2 ns) ++ l)) top ∙ ap (λ l. take 2 ns ++ l) upper ∙ whole in
    let free : get_or (digits_of WIDE 3 (number_of WIDE (c.free ∷ take 2 ns))) 0 0 ≡ c.free = ap (λ l. get_or l 0 0) wide in
    λ j. record { by_order = by_order j; free = free j }

-- numbers come back from their words
numbers_back : (ns : List ℕ) → length ns % 2 ≡ 0 → All (λ d. d < PAIR) ns → numbers_in (pairs_of ns) ≡ ns
numbers_back [] even low = refl
numbers_back (a ∷ []) even low = cc
numbers_back (a ∷ (b ∷ ns)) even low =
    let first : (b * PAIR + a) % PAIR ≡ a = mod-mul-add b PAIR a (All-head (λ d. d < PAIR) a (b ∷ ns) low) in
    let second : (b * PAIR + a) / PAIR ≡ b = div-mul-add b PAIR a (All-head (λ d. d < PAIR) a (b ∷ ns) low) in
    let rest : All (λ d. d < PAIR) ns = All-tail (λ d. d < PAIR) b ns (All-tail (λ d. d < PAIR) a (b ∷ ns) low) in
    (λ j. first j ∷ second j ∷ numbers_in (pairs_of ns)) ∙ ap (λ l. a ∷ b ∷ l) (numbers_back ns (omega (arith, even)) rest)

-- counts come back from their words
pub paired_back : (ns : List ℕ) (free : ℕ) → length ns ≡ ORDERS → ((k : ℕ) → get_or ns k 0 < PAIR) → free < PAIR → paired_in (pairs_of (free ∷ ns)) ≡ record { by_order = ns; free = free }
paired_back ns free long low fits =
    let each : All (λ d. d < PAIR) ns = λ k d lt. rw (get_or_default ns k d 0 lt) (low k) in
    let all : numbers_in (pairs_of (free ∷ ns)) ≡ free ∷ ns = numbers_back (free ∷ ns) (omega (arith, long)) (All-cons (λ d. d < PAIR) free ns fits each) in
    λ j. record { by_order = drop 1 (all j); free = get_or (all j) 0 0 }
