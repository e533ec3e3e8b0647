-- Fields of a word: so many bits, from one on.
use Rattle.std.specs.Prelude.{ℕ, ◌+◌, ◌*◌, ◌/◌, ◌%◌, ◌^◌, ◌<◌, ◌≤◌}
use Rattle.zp_table.specs.declared.layout.TheConstants.{WORD_BITS}

-- a field that is not the whole word
abbrev pub IsField : ℕ → ℕ → Type 0
IsField from bits = (0 < bits) × (bits < WORD_BITS) × (from + bits ≤ WORD_BITS)

abbrev pub field : ℕ → ℕ → ℕ → ℕ
field word from bits = word / 2 ^ from % 2 ^ bits

-- the word with other bits there
abbrev pub with_field : ℕ → ℕ → ℕ → ℕ → ℕ
with_field word from bits value = word / 2 ^ (from + bits) * 2 ^ (from + bits) + value * 2 ^ from + word % 2 ^ from
