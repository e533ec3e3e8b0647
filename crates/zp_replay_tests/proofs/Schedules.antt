-- A schedule is due at the call that it names, and at no other.
use Rattle.std.proofs.Common.{ℕ, zero, suc, ◌≡◌, ◌==◌, ◌-◌, false, None, Some, refl, arith, ◌∙◌}
use Rattle.std.proofs.lemmas.Bool.Decides.{nat_tests}
use Rattle.zp_replay_tests.specs.Devices.{is_due, after_calls}

pub never_due : (k : ℕ) → is_due (after_calls k None) ≡ false
never_due zero = refl
never_due (suc k) = never_due k

pub due_at : (k n : ℕ) → is_due (after_calls k (Some n)) ≡ (k == n)
due_at zero n = grind (arith, nat_tests)
due_at (suc k) zero = never_due k ∙ grind (arith, nat_tests)
due_at (suc k) (suc n) =
    let less : suc n - 1 ≡ n = omega arith in
    let some : (suc n == 0) ≡ false = grind (arith, nat_tests) in
    let same : (k == n) ≡ (suc k == suc n) = grind (arith, nat_tests) in
    rw (some, less) (due_at k n ∙ same)
