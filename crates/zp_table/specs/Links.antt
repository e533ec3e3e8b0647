-- A page or none as one number: that of the page, or the first number that is no page's.
use Rattle.std.specs.Prelude.{ℕ, ◌≡◌, ◌≤◌, Option, None, Some, cond, ltb, min}
use Rattle.std.proofs.Common.{refl, arith, Bool, true, false}
use Rattle.std.proofs.lemmas.Bool.{ltb-false}

abbrev pub page_of : ℕ → ℕ → Option ℕ
page_of none n = cond (ltb n none) (Some n) None

-- a page that has no number below `none` goes for none
abbrev pub number_of : ℕ → Option ℕ → ℕ
number_of none (Some n) = min n none
number_of none None = none

pub number_of-page_of : (none n : ℕ) → n ≤ none → number_of none (page_of none n) ≡ n
number_of-page_of none n le = go n le (ltb n none) refl
  where
    go : (n : ℕ) → n ≤ none → (b : Bool) → ltb n none ≡ b → number_of none (cond b (Some n) None) ≡ n
    go n le true e = omega arith
    go n le false e = let past : none ≤ n = ltb-false n none e in omega arith
