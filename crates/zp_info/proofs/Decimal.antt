-- How many digits a number has.
use Rattle.std.proofs.Common.{ℕ, ◌≡◌, ◌≤◌, ◌<◌, ◌+◌, ◌/◌, ◌%◌, ◌^◌, [], ◌∷◌, length, length-append, ap, ◌∙◌, arith}
use Rattle.std.specs.Fmt.{decimal}
use Rattle.std.proofs.lemmas.Fmt.{decimal_digit, decimal_step}

-- one more than a tenth of it
tenth : (n m : ℕ) → 10 ≤ n → n < 4294967296 → length (decimal (n / 10)) ≡ m → length (decimal n) ≡ m + 1
tenth n m le lt is =
    let wide : n < 2 ^ 64 = omega arith in
    ap length (decimal_step n le wide) ∙ length-append (decimal (n / 10)) ((48 + n % 10) ∷ []) ∙ ap (λ k. k + 1) is

pub digits-1 : (n : ℕ) → n < 10 → length (decimal n) ≡ 1
digits-1 n lt = ap length (decimal_digit n lt)

pub digits-2 : (n : ℕ) → 10 ≤ n → n < 100 → length (decimal n) ≡ 2
digits-2 n le lt = tenth n 1 (omega arith) (omega arith) (digits-1 (n / 10) (omega arith))

pub digits-3 : (n : ℕ) → 100 ≤ n → n < 1000 → length (decimal n) ≡ 3
digits-3 n le lt = tenth n 2 (omega arith) (omega arith) (digits-2 (n / 10) (omega arith) (omega arith))

pub digits-4 : (n : ℕ) → 1000 ≤ n → n < 10000 → length (decimal n) ≡ 4
digits-4 n le lt = tenth n 3 (omega arith) (omega arith) (digits-3 (n / 10) (omega arith) (omega arith))

pub digits-5 : (n : ℕ) → 10000 ≤ n → n < 100000 → length (decimal n) ≡ 5
digits-5 n le lt = tenth n 4 (omega arith) (omega arith) (digits-4 (n / 10) (omega arith) (omega arith))

pub digits-6 : (n : ℕ) → 100000 ≤ n → n < 1000000 → length (decimal n) ≡ 6
digits-6 n le lt = tenth n 5 (omega arith) (omega arith) (digits-5 (n / 10) (omega arith) (omega arith))

pub digits-7 : (n : ℕ) → 1000000 ≤ n → n < 10000000 → length (decimal n) ≡ 7
digits-7 n le lt = tenth n 6 (omega arith) (omega arith) (digits-6 (n / 10) (omega arith) (omega arith))

pub digits-8 : (n : ℕ) → 10000000 ≤ n → n < 100000000 → length (decimal n) ≡ 8
digits-8 n le lt = tenth n 7 (omega arith) (omega arith) (digits-7 (n / 10) (omega arith) (omega arith))

pub digits-9 : (n : ℕ) → 100000000 ≤ n → n < 1000000000 → length (decimal n) ≡ 9
digits-9 n le lt = tenth n 8 (omega arith) (omega arith) (digits-8 (n / 10) (omega arith) (omega arith))

pub digits-10 : (n : ℕ) → 1000000000 ≤ n → n < 4294967296 → length (decimal n) ≡ 10
digits-10 n le lt = tenth n 9 (omega arith) (omega arith) (digits-9 (n / 10) (omega arith) (omega arith))
