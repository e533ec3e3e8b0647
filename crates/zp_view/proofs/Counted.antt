-- Counts over the numbers below another, and over the items of a list, one by one.
use Rattle.std.proofs.Common.{ℕ, ◌+◌, ◌≡◌, arith, Bool, suc, [], ◌∷◌, ◌++◌}
use Rattle.std.specs.List.{range_with_len, count_by}
use Rattle.std.proofs.lemmas.List.Sums.{sum_by_push}
use Rattle.zp_laws.proofs.Counting.{one_if}
use Rattle.zp_model.proofs.FirstFound.{range-snoc}

pub count_more : (p : ℕ → Bool) (n : ℕ) (b : Bool) → b ≡ p n → count_by p (range_with_len 0 (n + 1)) ≡ count_by p (range_with_len 0 n) + one_if b
count_more p n b e =
    let s : n + 1 ≡ suc n = omega arith in
    let z : 0 + n ≡ n = omega arith in
    let pushed : count_by p (range_with_len 0 n ++ n ∷ []) ≡ count_by p (range_with_len 0 n) + one_if (p n) = sum_by_push (λ x. one_if (p x)) (range_with_len 0 n) n in
    rw (s, range-snoc 0 n, z, e) pushed
