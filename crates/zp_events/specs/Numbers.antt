-- Numbers as a line writes them: digits, of which the first may be zeros, and no number above what its type holds.
use Rattle.std.specs.Prelude.{ℕ, ◌≡◌, ◌<◌, ◌^◌, ◌++◌, ◌⊎◌, List, length, codes}
use Rattle.std.specs.Str.Parse.{AllDigits, digits_value}

-- the word writes the number, of 64 bits, in digits of this base, those above nine as letters of either case
pub record IsNumber (base : ℕ) (word : List ℕ) (n : ℕ) : Type 0 where
  pub some : 0 < length word
  pub digits : AllDigits base word
  pub value : n ≡ digits_value base word
  pub fits : n < 2 ^ 64

-- the word writes the number, of 32 bits, in decimal digits
pub record IsSmall (word : List ℕ) (n : ℕ) : Type 0 where
  pub number : IsNumber 10 word n
  pub small : n < 2 ^ 32

-- the word writes the number of a page frame: hexadecimal digits behind `0x`, or decimal ones (before Linux 5.13, and trace-cmd)
abbrev pub IsFrame : List ℕ → ℕ → Type 0
IsFrame word n = ((digits : List ℕ) × (word ≡ codes "0x" ++ digits) × IsNumber 16 digits n) ⊎ IsNumber 10 word n
