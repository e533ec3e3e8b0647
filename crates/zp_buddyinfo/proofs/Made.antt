-- What blocks of each order come to in blocks of the least of them.
use Rattle.std.proofs.Common.{ℕ, zero, suc, ◌≡◌, ◌<◌, ◌≤◌, ◌+◌, ◌-◌, ◌*◌, ◌^◌, List, [], ◌∷◌, length, drop, get_or, sum, sum_by, refl, sym, ap, ◌∙◌, arith, add-one, drop-cons, ◌++◌, Bool, cond, find, reverse, Some, nat_lt, true, false}
use Rattle.std.specs.List.{range_with_len}
use Rattle.std.proofs.Math.Nat.{pow-suc, le-mul_of_pos_right}
use Rattle.std.proofs.Math.ListN.{drop_of_length-le}
use Rattle.std.proofs.lemmas.List.Sums.{sum_by-cons}
use Rattle.std.proofs.lemmas.List.{map-id, reverse-append}
use Rattle.std.proofs.lemmas.Bool.Decides.{nat_tests}
use Rattle.std.proofs.lemmas.List.FromFn.{map-range_with_len_more}
use Rattle.std.proofs.lemmas.Nat.{pow_pos}
use Rattle.zp_buddyinfo.specs.Figures.{suitable_blocks, free_pages}

-- each is two of the order below
abbrev pub made : List ℕ → ℕ
made [] = 0
made (n ∷ more) = n + 2 * made more

pub sum-le-made : (blocks : List ℕ) → sum blocks ≤ made blocks
sum-le-made [] = omega arith
sum-le-made (n ∷ more) = omega (arith, sum-le-made more, sum_by-cons (λ m. m) n more)

-- those of order k and above, one order more
pub made-drop : (blocks : List ℕ) (k : ℕ) → k < length blocks → made (drop k blocks) ≡ get_or blocks k 0 + 2 * made (drop (k + 1) blocks)
made-drop blocks k lt = rw (add-one, drop-cons blocks k 0 lt) refl

twice : (a b p q m : ℕ) → q ≡ p * 2 → a * p + q * m ≡ p * (a + 2 * m)
twice a b p q m e = ap (λ x. a * p + x * m) e ∙ omega arith

-- counted in blocks of order k, from order a on
counted : (blocks : List ℕ) (k a n : ℕ) → k ≤ a → a + n ≡ length blocks →
    sum_by (λ o. get_or blocks o 0 * 2 ^ (o - k)) (range_with_len a n) ≡ 2 ^ (a - k) * made (drop a blocks)
counted blocks k a zero le e =
    let none : drop a blocks ≡ [] = drop_of_length-le blocks (omega arith) in
    let nothing : 0 ≡ 2 ^ (a - k) * 0 = omega arith in
    nothing ∙ sym (ap (λ l. 2 ^ (a - k) * made l) none)
counted blocks k a (suc n) le e =
    let next : a + 1 - k ≡ suc (a - k) = omega arith in
    sum_by-cons (λ o. get_or blocks o 0 * 2 ^ (o - k)) a (range_with_len (a + 1) n)
    ∙ ap (λ m. get_or blocks a 0 * 2 ^ (a - k) + m) (counted blocks k (a + 1) n (omega arith) (omega arith))
    ∙ twice (get_or blocks a 0) 0 (2 ^ (a - k)) (2 ^ (a + 1 - k)) (made (drop (a + 1) blocks)) (ap (λ m. 2 ^ m) next ∙ pow-suc 2 (a - k))
    ∙ ap (λ m. 2 ^ (a - k) * m) (sym (made-drop blocks a (omega arith)))

pub suitable_is : (blocks : List ℕ) (k : ℕ) → k ≤ length blocks → suitable_blocks blocks k ≡ made (drop k blocks)
unfolding suitable_blocks
suitable_is blocks k le =
    let none : k - k ≡ 0 = omega arith in
    let one : 1 * made (drop k blocks) ≡ made (drop k blocks) = omega arith in
    counted blocks k k (length blocks - k) (omega arith) (omega arith) ∙ ap (λ m. 2 ^ m * made (drop k blocks)) none ∙ one

-- one order more
pub suitable_step : (blocks : List ℕ) (k : ℕ) → k < length blocks → suitable_blocks blocks k ≡ get_or blocks k 0 + 2 * suitable_blocks blocks (k + 1)
suitable_step blocks k lt =
    suitable_is blocks k (omega arith) ∙ made-drop blocks k lt ∙ ap (λ m. get_or blocks k 0 + 2 * m) (sym (suitable_is blocks (k + 1) (omega arith)))

pub suitable_none : (blocks : List ℕ) (k : ℕ) → k ≡ length blocks → suitable_blocks blocks k ≡ 0
suitable_none blocks k e = suitable_is blocks k (omega arith) ∙ ap made (drop_of_length-le blocks (omega arith))

half : (a s p q : ℕ) → q ≡ p * 2 → s * q ≤ (a + 2 * s) * p
half a s p q e = rw e (omega arith)

-- those of an order and above are free pages
pub suitable_pages : (blocks : List ℕ) (k : ℕ) → k ≤ length blocks → suitable_blocks blocks k * 2 ^ k ≤ free_pages blocks
suitable_pages blocks zero le = omega arith
suitable_pages blocks (suc k) le =
    let below = suitable_pages blocks k (omega arith) in
    let step : suitable_blocks blocks k ≡ get_or blocks k 0 + 2 * suitable_blocks blocks (suc k) = rw (← add-one k) (suitable_step blocks k (omega arith)) in
    omega (arith, below, ap (λ m. m * 2 ^ k) step, half (get_or blocks k 0) (suitable_blocks blocks (suc k)) (2 ^ k) (2 ^ suc k) (pow-suc 2 k))

-- and no more than these
pub suitable-le-pages : (blocks : List ℕ) (k : ℕ) → k ≤ length blocks → suitable_blocks blocks k ≤ free_pages blocks
suitable-le-pages blocks k le =
    omega (arith, suitable_pages blocks k le, le-mul_of_pos_right (suitable_blocks blocks k) (pow_pos k))

pub sum-le-pages : (blocks : List ℕ) → sum blocks ≤ free_pages blocks
sum-le-pages blocks = omega (arith, sum-le-made blocks, suitable_is blocks 0 (omega arith))

-- so the loop over the orders goes on: what it has so far fits, and one order more is one step
pub one_more : (blocks : List ℕ) (next s : ℕ) → 0 < next → next ≤ length blocks → s ≡ suitable_blocks blocks next →
    get_or blocks (next - 1) 0 + 2 * s ≡ suitable_blocks blocks (next - 1)
one_more blocks next s some le is =
    let up : next - 1 + 1 ≡ next = omega arith in
    sym (suitable_step blocks (next - 1) (omega arith) ∙ ap (λ m. get_or blocks (next - 1) 0 + 2 * m) (ap (suitable_blocks blocks) up ∙ sym is))

pub one_more-le : (blocks : List ℕ) (next s : ℕ) → 0 < next → next ≤ length blocks → s ≡ suitable_blocks blocks next →
    get_or blocks (next - 1) 0 + 2 * s ≤ free_pages blocks
one_more-le blocks next s some le is = omega (arith, one_more blocks next s some le is, suitable-le-pages blocks (next - 1) (omega arith))

range_more : (a n : ℕ) → range_with_len a (n + 1) ≡ range_with_len a n ++ (a + n) ∷ []
range_more a n = sym (map-id (range_with_len a (n + 1))) ∙ map-range_with_len_more (λ m. m) a n (a + n) refl ∙ ap (λ l. l ++ (a + n) ∷ []) (map-id (range_with_len a n))

-- the first from the top
pub from_top : (test : ℕ → Bool) (n : ℕ) → 0 < n → find test (reverse (range_with_len 0 n)) ≡ cond (test (n - 1)) (Some (n - 1)) (find test (reverse (range_with_len 0 (n - 1))))
from_top test n some =
    let up : n ≡ n - 1 + 1 = omega arith in
    let top : 0 + (n - 1) ≡ n - 1 = omega arith in
    ap (λ m. find test (reverse (range_with_len 0 m))) up
    ∙ ap (λ l. find test (reverse l)) (range_more 0 (n - 1) ∙ ap (λ m. range_with_len 0 (n - 1) ++ m ∷ []) top)
    ∙ ap (find test) (reverse-append (range_with_len 0 (n - 1)) ((n - 1) ∷ []))

abbrev has_blocks : List ℕ → ℕ → Bool
has_blocks blocks k = nat_lt 0 (get_or blocks k 0)

pub found_here : (blocks : List ℕ) (n : ℕ) → 0 < n → 0 < get_or blocks (n - 1) 0 → find (λ k. nat_lt 0 (get_or blocks k 0)) (reverse (range_with_len 0 n)) ≡ Some (n - 1)
found_here blocks n some here =
    let there : nat_lt 0 (get_or blocks (n - 1) 0) ≡ true = grind (arith, nat_tests) in
    from_top (has_blocks blocks) n some ∙ ap (λ b. cond b (Some (n - 1)) (find (has_blocks blocks) (reverse (range_with_len 0 (n - 1))))) there

pub found_below : (blocks : List ℕ) (n : ℕ) → 0 < n → get_or blocks (n - 1) 0 ≤ 0 →
    find (λ k. nat_lt 0 (get_or blocks k 0)) (reverse (range_with_len 0 n)) ≡ find (λ k. nat_lt 0 (get_or blocks k 0)) (reverse (range_with_len 0 (n - 1)))
found_below blocks n some none =
    let nothing : nat_lt 0 (get_or blocks (n - 1) 0) ≡ false = grind (arith, nat_tests) in
    from_top (has_blocks blocks) n some ∙ ap (λ b. cond b (Some (n - 1)) (find (has_blocks blocks) (reverse (range_with_len 0 (n - 1))))) nothing
