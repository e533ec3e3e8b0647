-- Words that are numbers: digits, no leading zero, and one number each.
use Rattle.std.proofs.Common.{ℕ, zero, suc, ◌≡◌, ◌<◌, ◌≤◌, ◌+◌, ◌-◌, ◌*◌, ◌^◌, List, length, take, take_all, get_or, sym, ap, subst, ◌∙◌, arith}
use Rattle.std.specs.Fmt.{decimal}
use Rattle.std.specs.Int.{IsInRange}
use Rattle.std.specs.Char.{digit_value}
use Rattle.std.specs.Str.Parse.{AllDigits, digits_value}
use Rattle.std.proofs.lemmas.Bool.Decides.{nat_tests}
use Rattle.std.proofs.lemmas.Fmt.{decimal_is_IsNumeral, decimal_injective, decimal_digit, first_decimal, decimal_nonempty, decimal-digits_value}
use Rattle.std.proofs.lemmas.Int.Digits.{digits_value_more, digits_more}
use Rattle.std.proofs.lemmas.Str.Parse.{IsNumeralModel, numerals_by_value, tells_digits, digit_at, digits_value-take-le}

own : IsNumeralModel (AllDigits 10) (digits_value 10)
own = numerals_by_value (AllDigits 10) tells_digits

-- a word is one number at most
pub same_number : (word : List ℕ) (m n : ℕ) → m < 2 ^ 64 → n < 2 ^ 64 → word ≡ decimal m → word ≡ decimal n → m ≡ n
same_number word m n small_m small_n e f =
    decimal_injective m n (omega arith) (omega arith) (sym e ∙ f)

pub not_empty : (word : List ℕ) (n : ℕ) → n < 2 ^ 64 → word ≡ decimal n → 0 < length word
not_empty word n small e = rw e (decimal_nonempty n (omega arith))

-- the first digit is no zero, but for zero itself
pub no_leading_zero : (word : List ℕ) (n : ℕ) → n < 2 ^ 64 → word ≡ decimal n → get_or word 0 0 ≡ 48 → length word ≡ 1
no_leading_zero word zero small e z = ap length (e ∙ decimal_digit 0 (omega arith))
no_leading_zero word (suc n) small e z =
    absurd (omega (arith, first_decimal (suc n) (omega arith) (omega arith), z, ap (λ (w : List ℕ). get_or w 0 0) e))

pub digits : (word : List ℕ) (n : ℕ) → n < 2 ^ 64 → word ≡ decimal n → AllDigits 10 word
digits word n small e = rw e (decimal_is_IsNumeral n (omega arith)).0.1

pub digit : (word : List ℕ) (n i : ℕ) → n < 2 ^ 64 → word ≡ decimal n → i < length word → IsInRange 48 57 (get_or word i 0)
digit word n i small e inside = digit_at word i (digits word n small e) inside

pub value : (word : List ℕ) (n : ℕ) → n < 2 ^ 64 → word ≡ decimal n → digits_value 10 word ≡ n
value word n small e = rw e (decimal_is_IsNumeral n (omega arith)).1

pub digit_value_is : (c : ℕ) → IsInRange 48 57 c → digit_value c ≡ c - 48
digit_value_is c h = grind (arith, nat_tests)

-- no front of the digits is a larger number
pub front : (word : List ℕ) (n i : ℕ) → n < 2 ^ 64 → word ≡ decimal n → i < length word → digits_value 10 (take i word) * 10 + (get_or word i 0 - 48) ≤ n
front word n i small e inside =
    omega (arith, digits_value_more 10 word i inside, digit_value_is (get_or word i 0) (digit word n i small e inside), value word n small e, digits_value-take-le 10 word (i + 1) (omega arith))

-- digits with no leading zero are what is written of their number
pub written : (word : List ℕ) → AllDigits 10 word → 0 < length word → (get_or word 0 0 ≡ 48 → length word ≡ 1) → digits_value 10 word < 2 ^ 64 → word ≡ decimal (digits_value 10 word)
written word ds some first small = sym (decimal-digits_value own word ds some first (omega arith))

-- one digit more
pub more : (word : List ℕ) (i n m : ℕ) → i < length word → IsInRange 48 57 (get_or word i 0) → AllDigits 10 (take i word) → n ≡ digits_value 10 (take i word) → m ≡ n * 10 + (get_or word i 0 - 48) → AllDigits 10 (take (i + 1) word) × (m ≡ digits_value 10 (take (i + 1) word))
more word i n m inside d ds e f =
    (digits_more 10 word i inside ds (omega (arith, digit_value_is (get_or word i 0) d)), omega (arith, digits_value_more 10 word i inside, digit_value_is (get_or word i 0) d))

-- all digits
pub all : (word : List ℕ) (i n : ℕ) → length word ≤ i → AllDigits 10 (take i word) → n ≡ digits_value 10 (take i word) → 0 < length word → (get_or word 0 0 ≡ 48 → length word ≡ 1) → n < 2 ^ 64 → word ≡ decimal n
all word i n far ds e some first small =
    let whole : take i word ≡ word = take_all i word far in
    let sum : n ≡ digits_value 10 word = e ∙ ap (digits_value 10) whole in
    written word (subst (AllDigits 10) whole ds) some first (omega arith) ∙ ap decimal (sym sum)
