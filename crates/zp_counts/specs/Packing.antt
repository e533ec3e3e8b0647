-- Counts in few words: each word is a number, and its digits to some base are counts.
use Rattle.std.specs.Prelude.{ℕ, zero, suc, ◌+◌, ◌*◌, ◌/◌, ◌%◌, List, [], ◌∷◌, ◌++◌, take, drop, slice_index}
use Rattle.zp_model.specs.declared.counts.Counts.{Counts}
use Rattle.zp_counts.specs.declared.packed.TheConstants.{WIDE, MIDDLE, NARROW}
use Rattle.zp_counts.specs.declared.words.TheConstants.{PAIR}

-- the number that has these digits to this base, the first one the least
abbrev pub number_of : ℕ → List ℕ → ℕ
number_of base [] = 0
number_of base (d ∷ ds) = number_of base ds * base + d

-- so many digits of a number to this base, the least first
abbrev pub digits_of : ℕ → ℕ → ℕ → List ℕ
digits_of base zero n = []
digits_of base (suc more) n = n % base ∷ digits_of base more (n / base)

-- the packed words of counts: the free pages and the blocks of orders 0 and 1, the blocks of orders 2 to 5, those of orders 6 to 10
abbrev pub packed_words : Counts → List ℕ
packed_words c =
    number_of WIDE (c.free ∷ take 2 c.by_order) ∷ number_of MIDDLE (take 4 (drop 2 c.by_order)) ∷ number_of NARROW (take 5 (drop 6 c.by_order)) ∷ []

-- the counts that packed words stand for
abbrev pub packed_in : List ℕ → Counts
packed_in ws = record {
  by_order = drop 1 (digits_of WIDE 3 (slice_index ws 0)) ++ (digits_of MIDDLE 4 (slice_index ws 1) ++ digits_of NARROW 5 (slice_index ws 2));
  free = slice_index (digits_of WIDE 3 (slice_index ws 0)) 0;
}

-- numbers by twos, each two in a word, the first one lower
abbrev pub pairs_of : List ℕ → List ℕ
pairs_of (a ∷ (b ∷ ns)) = (b * PAIR + a) ∷ pairs_of ns
pairs_of ns = []

abbrev pub numbers_in : List ℕ → List ℕ
numbers_in [] = []
numbers_in (w ∷ ws) = (w % PAIR) ∷ ((w / PAIR) ∷ numbers_in ws)

-- the words of counts by twos: the free pages and the blocks of order 0, and then those of two orders each
abbrev pub paired_words : Counts → List ℕ
paired_words c = pairs_of (c.free ∷ c.by_order)

-- the counts that such words stand for
abbrev pub paired_in : List ℕ → Counts
paired_in ws = record { by_order = drop 1 (numbers_in ws); free = slice_index (numbers_in ws) 0 }
