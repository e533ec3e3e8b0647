-- How many words are read to find the lowest block of a zone (this profile), by the number of its pages.
use Rattle.std.specs.Prelude.{ℕ, suc, zero, ◌+◌, ◌*◌, ◌^◌, Bool, cond, leb}
use Rattle.zp_tree.specs.declared.constants.TheConstants.{FAN, GROUP_PAGES, PLACES}

-- the least number from k on that passes the test, where one does of the n from there on, and else the one after these
abbrev pub least_from : (ℕ → Bool) → ℕ → ℕ → ℕ
least_from test k zero = k
least_from test k (suc n) = cond (test k) k (least_from test (k + 1) n)

-- the least number of rows of ranks below the root that is enough for n pages: there are eight times as many nodes in each row as in the one above
unfoldable pub rows_of : ℕ → ℕ
rows_of n = least_from (λ d. leb n (GROUP_PAGES * FAN ^ d)) 1 n

-- the most words that are read: one of each row of ranks, and of one group the high word and 31 low ones, or all 32 low ones
abbrev pub most_reads : ℕ → ℕ
most_reads n = rows_of n + PLACES

-- the height of a binary tree with a leaf for each of n pages, or for each of 2 ^ 16 where there are fewer
unfoldable pub height_of : ℕ → ℕ
height_of n = least_from (λ h. leb n (2 ^ h)) 16 n
