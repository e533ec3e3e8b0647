-- Sizes as words say them: a number, and a letter where it counts more than bytes.
use Rattle.std.specs.Prelude.{ℕ, ◌≡◌, ◌<◌, ◌*◌, ◌^◌, List, [], ◌++◌, codes}
use Rattle.std.specs.Fmt.{decimal}
use Rattle.zp_buddyinfo.specs.declared.page.SizeUnit.{SizeUnit}
use Rattle.zp_buddyinfo.specs.declared.page.SizeUnit.TheVariants.{Byte, Kibibyte, Mebibyte, Gibibyte}

abbrev pub bytes_of : SizeUnit → ℕ
bytes_of Byte = 1
bytes_of Kibibyte = 1024
bytes_of Mebibyte = 1024 ^ 2
bytes_of Gibibyte = 1024 ^ 3

abbrev pub letter_of : SizeUnit → List ℕ
letter_of Byte = []
letter_of Kibibyte = codes "K"
letter_of Mebibyte = codes "M"
letter_of Gibibyte = codes "G"

-- no unit but bytes, which have no letter, ends the word
abbrev pub EndsInNoLetter : List ℕ → Type 0
EndsInNoLetter word = (rest : List ℕ) (unit : SizeUnit) → word ≡ rest ++ letter_of unit → unit ≡ Byte

abbrev pub IsSize : List ℕ → ℕ → Type 0
IsSize word bytes = (n : ℕ) × (unit : SizeUnit) × (word ≡ decimal n ++ letter_of unit) × (bytes ≡ n * bytes_of unit)

-- the word says no number of bytes that is above 0 and has 64 bits
abbrev pub IsNoSize : List ℕ → Type 0
IsNoSize word = (bytes : ℕ) → 0 < bytes → bytes < 2 ^ 64 → IsSize word bytes → ⊥
