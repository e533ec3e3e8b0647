-- A free list of a lawful area is as long as there are blocks that belong on it.
use Rattle.std.proofs.Common.{ℕ, suc, zero, ◌+◌, ◌≡◌, ◌<◌, refl, sym, ◌∙◌, ap, arith, Bool, length}
use Rattle.std.specs.List.{range_with_len, count_by, filter}
use Rattle.std.proofs.lemmas.Bool.{and_from, and_parts, lt-ltb}
use Rattle.std.proofs.lemmas.Cmp.{nat_eq_equiv}
use Rattle.std.proofs.lemmas.List.FromFn.{sum_by-map-range_with_len_more}
use Rattle.std.proofs.lemmas.List.Sums.{length-filter, sum_by-cons}
use Rattle.std.proofs.lemmas.Map.Made.{length-from_same_keys}
use Rattle.zp_model.specs.Rows.{list_at, stands_in}
use Rattle.zp_model.specs.Area.{Area, belongs, falling, lists_count}
use Rattle.zp_model.specs.Lawful.{IsListedArea}
use Rattle.zp_laws.proofs.Counting.{one_if, same_tests, sum-map}
use Rattle.zp_laws.proofs.Settling.{belongs_below, distinct-falling, distinct-filter, stands-falling, stands-filter}

-- the numbers below n are counted alike from either end
pub count-falling : (p : ℕ → Bool) (n : ℕ) → count_by p (falling n) ≡ count_by p (range_with_len 0 n)
count-falling p zero = refl
count-falling p (suc n) =
    let begins : 0 + n ≡ n = omega arith in
    let up : n + 1 ≡ suc n = omega arith in
    let more = sum_by-map-range_with_len_more one_if p 0 n n begins in
    let last : count_by p (falling (suc n)) ≡ count_by p (range_with_len 0 (n + 1)) =
    omega (arith, count-falling p n, sum_by-cons (λ i. one_if (p i)) n (falling n), more, sum-map one_if p (range_with_len 0 (n + 1)), sum-map one_if p (range_with_len 0 n)) in
    last ∙ ap (λ q. count_by p (range_with_len 0 q)) up

module _ (a : Area) (r : ℕ) (x : IsListedArea a) (lt : r < lists_count a.largest) where
  abbrev here : ℕ → Bool
  here = belongs a.largest a.free a.kinds r

  same_heads : (h : ℕ) → stands_in h (list_at a.lists r) ≡ stands_in h (filter here (falling (length a.free)))
  same_heads h =
      x.held r h lt
      ∙ sym (stands-filter here h (falling (length a.free)) ∙ same_tests _ _
      (λ e. (and_parts _ _ e).0)
      (λ e. and_from _ _ e (stands-falling h (length a.free) ∙ lt-ltb h _ (belongs_below a.largest a.free a.kinds r h e))))

  pub listed_counted : length (list_at a.lists r) ≡ count_by here (range_with_len 0 (length a.free))
  listed_counted =
      length-from_same_keys nat_eq_equiv (list_at a.lists r) (filter here (falling (length a.free))) (x.distinct r lt) (distinct-filter here (falling (length a.free)) (distinct-falling (length a.free))) same_heads
      ∙ length-filter here (falling (length a.free)) ∙ count-falling here (length a.free)
