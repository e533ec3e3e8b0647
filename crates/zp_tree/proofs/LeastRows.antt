-- How many rows of ranks stand over some pages, and how many words are read with them.
use Rattle.std.proofs.Common.{ℕ, suc, zero, ◌+◌, ◌-◌, ◌*◌, ◌/◌, ◌^◌, ◌≡◌, ◌≤◌, ◌<◌, ◌⊎◌, inl, inr, sym, ◌∙◌, ap, arith, Bool, true, leb}
use Rattle.std.proofs.Math.Nat.{pow-suc, pow-le-pow_right}
use Rattle.std.proofs.lemmas.Bool.{both_ways, cases_Bool, leb-true, le-leb}
use Rattle.std.proofs.lemmas.Nat.{pow-add}
use Rattle.zp_tree.specs.declared.constants.TheConstants.{FAN, GROUP_ORDER, GROUP_PAGES, MOST_READS}
use Rattle.zp_model.specs.declared.constants.TheConstants.{NARROW_PAGES}
use Rattle.zp_tree.specs.RankRows.{IsLeastRow}
use Rattle.zp_tree.specs.Reads.{least_from, rows_of, most_reads, height_of}
use Rattle.zp_tree.proofs.RankNodes.{eight_of, row_large}

-- the number that is found is one of those that are tried, or the next
least_start : (test : ℕ → Bool) (k n : ℕ) → k ≤ least_from test k n
least_start test k zero = omega arith
least_start test k (suc n) = elim (cases_Bool (test k)) [
  | inl here ↦ rw here (omega arith)
  | inr fails ↦ rw fails (omega (arith, least_start test (k + 1) n))
]

least_end : (test : ℕ → Bool) (k n : ℕ) → least_from test k n ≤ k + n
least_end test k zero = omega arith
least_end test k (suc n) = elim (cases_Bool (test k)) [
  | inl here ↦ rw here (omega arith)
  | inr fails ↦ rw fails (omega (arith, least_end test (k + 1) n))
]

-- none that passes is less
least_le : (test : ℕ → Bool) (k n d : ℕ) → k ≤ d → test d ≡ true → least_from test k n ≤ d
least_le test k zero d le passes = le
least_le test k (suc n) d le passes = elim (cases_Bool (test k)) [
  | inl here ↦ rw here le
  | inr fails ↦
      let ne : k ≡ d → ⊥ = λ e. both_ways (test d) (ap test (sym e) ∙ fails) passes in
      rw fails (least_le test (k + 1) n d (omega arith) passes)
]

-- it passes, where the last does
least_passes : (test : ℕ → Bool) (k n : ℕ) → test (k + n) ≡ true → test (least_from test k n) ≡ true
least_passes test k zero last = let e : k ≡ k + 0 = omega arith in ap test e ∙ last
least_passes test k (suc n) last = elim (cases_Bool (test k)) [
  | inl here ↦ rw here here
  | inr fails ↦ let e : k + 1 + n ≡ k + suc n = omega arith in rw fails (least_passes test (k + 1) n (ap test e ∙ last))
]

-- so many rows are enough, and there is one at least
pub rows_enough : (n d : ℕ) → 0 < d → n ≤ GROUP_PAGES * FAN ^ d → rows_of n ≤ d
unfolding rows_of
rows_enough n d pos le = least_le (λ e. leb n (GROUP_PAGES * FAN ^ e)) 1 n d (omega arith) (le-leb n (GROUP_PAGES * FAN ^ d) le)

rows_some : (n : ℕ) → 0 < rows_of n
unfolding rows_of
rows_some n = omega (arith, least_start (λ d. leb n (GROUP_PAGES * FAN ^ d)) 1 n)

pub rows_within : (n : ℕ) → rows_of n ≤ n + 1
unfolding rows_of
rows_within n = omega (arith, least_end (λ d. leb n (GROUP_PAGES * FAN ^ d)) 1 n)

rows_room : (n : ℕ) → n ≤ GROUP_PAGES * FAN ^ rows_of n
unfolding rows_of
rows_room n =
    let e : 1 + n ≡ n + 1 = omega arith in
    let last : n ≤ GROUP_PAGES * FAN ^ (1 + n) = omega (arith, row_large n, eight_of n, ap (λ d. FAN ^ d) e) in
    leb-true n _ (least_passes (λ d. leb n (GROUP_PAGES * FAN ^ d)) 1 n (le-leb n (GROUP_PAGES * FAN ^ (1 + n)) last))

-- the shortest row with room for the groups of some pages, or for one group
pub least_row : (n g r : ℕ) → IsLeastRow g r → n ≤ GROUP_PAGES * g → (g ≡ 1) ⊎ (GROUP_PAGES * g < n + GROUP_PAGES) → r ≡ FAN ^ rows_of n
least_row n g r x room whole =
    let most : rows_of n ≤ x.d = rows_enough n x.d x.below (omega (arith, room, x.room)) in
    let fits : g ≤ FAN ^ rows_of n = elim whole [ inl one ↦ omega (arith, one, row_large (rows_of n)) | inr y ↦ omega (arith, y, rows_room n) ] in
    let least : x.d ≤ rows_of n = x.least (rows_of n) (rows_some n) fits in
    let same : x.d ≡ rows_of n = omega arith in
    x.row ∙ ap (λ d. FAN ^ d) same

-- where two rows are enough
pub reads_of_two : (n : ℕ) → n ≤ NARROW_PAGES → most_reads n ≤ MOST_READS
reads_of_two n le = let two : rows_of n ≤ 2 = rows_enough n 2 (omega arith) (omega arith) in omega arith

above_number : (n : ℕ) → n < 2 ^ n
above_number zero = omega arith
above_number (suc n) = omega (arith, above_number n, pow-suc 2 n)

height_least : (n : ℕ) → 16 ≤ height_of n
unfolding height_of
height_least n = least_start (λ h. leb n (2 ^ h)) 16 n

height_room : (n : ℕ) → n ≤ 2 ^ height_of n
unfolding height_of
height_room n =
    let more : 2 ^ n ≤ 2 ^ (16 + n) = pow-le-pow_right (omega arith) (omega arith) in
    leb-true n _ (least_passes (λ h. leb n (2 ^ h)) 16 n (le-leb n (2 ^ (16 + n)) (omega (arith, above_number n, more))))

-- the pages for which so many rows are enough
row_pages : (d : ℕ) → GROUP_PAGES * FAN ^ d ≡ 2 ^ (GROUP_ORDER + 3 * d)
row_pages zero = omega arith
row_pages (suc d) =
    let e : GROUP_ORDER + 3 * suc d ≡ GROUP_ORDER + 3 * d + 3 = omega arith in
    omega (arith, row_pages d, pow-suc FAN d, ap (λ k. 2 ^ k) e, pow-add 2 (GROUP_ORDER + 3 * d) 3)

pub reads_in_height : (n : ℕ) → most_reads n ≤ 2 * (height_of n + 1)
reads_in_height n =
    let h = height_of n in
    let d = (h - 8) / 3 in
    let tall : 16 ≤ h = height_least n in
    let up : 2 ^ h ≤ 2 ^ (GROUP_ORDER + 3 * d) = pow-le-pow_right (omega arith) (omega arith) in
    let few : rows_of n ≤ d = rows_enough n d (omega arith) (omega (arith, row_pages d, up, height_room n)) in
    omega arith
