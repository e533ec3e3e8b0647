-- The least used of some runs, one by one.
use Rattle.std.proofs.Common.{ℕ, ◌+◌, ◌*◌, ◌/◌, ◌%◌, ◌^◌, ◌≡◌, ◌≤◌, ◌<◌, inl, inr, ◌∙◌, ap, subst, arith, List, length, take, drop, Option, Some, None}
use Rattle.std.specs.List.{count_by}
use Rattle.std.proofs.lemmas.Bool.{cases_lt}
use Rattle.std.proofs.lemmas.Nat.{mod_below, pow_pos, shr_split}
use Rattle.std.proofs.Math.Nat.{mul-le-mul_right, mul-mod_left}
use Rattle.zp_view.specs.declared.page_state.PageState.{PageState}
use Rattle.zp_view.specs.Ways.{IsLeastUsed, is_used}

-- how many pages of the run of so many pages from place a on are in use
abbrev pub used_at : List PageState → ℕ → ℕ → ℕ
used_at row pages a = count_by is_used (take pages (drop a row))

-- run number a is the least used of the first n
pub record IsLeastOf (row : List PageState) (pages n a used : ℕ) : Type 0 where
  pub number : ℕ
  pub place : a ≡ number * pages
  pub among : number < n
  pub counted : used ≡ used_at row pages a
  pub fewest : (b : ℕ) → b < n → used ≤ used_at row pages (b * pages)
  pub lowest : (b : ℕ) → b < number → used < used_at row pages (b * pages)

abbrev pub IsBest : List PageState → ℕ → ℕ → Option (ℕ × ℕ) → Type 0
IsBest row pages n None = n ≡ 0
IsBest row pages n (Some best) = IsLeastOf row pages n best.0 best.1

-- the number of an aligned run
number_of : (b k : ℕ) → b % 2 ^ k ≡ 0 → b / 2 ^ k * 2 ^ k ≡ b
number_of b k al = omega (arith, shr_split b k)

-- a run with a larger number begins later
later : (a b p : ℕ) → a ≤ b → a * p ≤ b * p
later a b p le = mul-le-mul_right p le

among_runs : (b k n : ℕ) → b % 2 ^ k ≡ 0 → b + 2 ^ k ≤ n → b / 2 ^ k < n / 2 ^ k
among_runs b k n al le =
    elim (cases_lt (b / 2 ^ k) (n / 2 ^ k)) [
      | inl lt ↦ lt
      | inr ge ↦
          absurd (omega (arith, number_of b k al, later (n / 2 ^ k) (b / 2 ^ k) (2 ^ k) ge, shr_split n k, mod_below n (2 ^ k) (pow_pos k)))
    ]

least_found : (row : List PageState) (k n a used : ℕ) → n ≤ length row / 2 ^ k → length row / 2 ^ k ≤ n → IsLeastOf row (2 ^ k) n a used → IsLeastUsed row k a
least_found row k n a used under over x =
    record {
      run = record {
        aligned = ap (λ m. m % 2 ^ k) x.place ∙ mul-mod_left x.number (2 ^ k);
        inside =
            let s : (x.number + 1) * 2 ^ k ≤ length row / 2 ^ k * 2 ^ k = later (x.number + 1) (length row / 2 ^ k) (2 ^ k) (omega (arith, x.among)) in
            omega (arith, s, x.place, shr_split (length row) k);
      };
      least = λ b r.
          let among : b / 2 ^ k < n = omega (arith, among_runs b k (length row) r.aligned r.inside) in
          let is = number_of b k r.aligned in
          record {
            fewest = omega (arith, x.counted, subst (λ m. used ≤ used_at row (2 ^ k) m) is (x.fewest (b / 2 ^ k) among));
            lowest = λ lt.
                let before : b / 2 ^ k < x.number = sooner b lt r.aligned in
                omega (arith, x.counted, subst (λ m. used < used_at row (2 ^ k) m) is (x.lowest (b / 2 ^ k) before));
          };
    }
  where
    sooner : (b : ℕ) → b < a → b % 2 ^ k ≡ 0 → b / 2 ^ k < x.number
    sooner b lt al =
        elim (cases_lt (b / 2 ^ k) x.number) [
          | inl before ↦ before
          | inr ge ↦ absurd (omega (arith, later x.number (b / 2 ^ k) (2 ^ k) ge, number_of b k al, x.place))
        ]

-- the same where the pages of a run are told
pub best_found : (row : List PageState) (k n a used p : ℕ) (best : Option (ℕ × ℕ)) → p ≡ 2 ^ k → n ≤ length row / p → length row / p ≤ n → best ≡ Some (a, used) →
    IsBest row p n best → IsLeastUsed row k a
best_found row k n a used p best e under over is x =
    let y : IsLeastOf row p n a used = subst (IsBest row p n) is x in
    least_found row k n a used (rw e at under) (rw e at over) (subst (λ q. IsLeastOf row q n a used) e y)
