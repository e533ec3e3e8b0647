-- The greatest of some orders.
use Rattle.std.proofs.Common.{ℕ, suc, zero, ◌+◌, ◌≡◌, ◌≤◌, ◌<◌, ◌∙◌, ap, refl, sym, arith, List, [], ◌∷◌, get_or, max, Option, Some, None}
use Rattle.zp_model.specs.BlockSet.{larger, greatest}
use Rattle.zp_tree.specs.Ranks.{order_ranked}

-- one more than an order, or 0
abbrev rank_of : Option ℕ → ℕ
rank_of None = 0
rank_of (Some k) = suc k

larger_rank : (a b : Option ℕ) → rank_of (larger a b) ≡ max (rank_of a) (rank_of b)
larger_rank None b = omega arith
larger_rank (Some j) None = omega arith
larger_rank (Some j) (Some k) = omega arith

rank_below : (q : Option ℕ) (v : ℕ) → ((o : ℕ) → q ≡ Some o → o < v) → rank_of q ≤ v
rank_below None v f = omega arith
rank_below (Some o) v f = f o refl

greatest_below : (os : List (Option ℕ)) (v : ℕ) → ((i o : ℕ) → get_or os i None ≡ Some o → o < v) → rank_of (greatest os) ≤ v
greatest_below [] v f = omega arith
greatest_below (q ∷ os) v f = omega (arith, larger_rank q (greatest os), rank_below q v (f 0), greatest_below os v (λ i. f (suc i)))

greatest_above : (os : List (Option ℕ)) (i w : ℕ) → get_or os i None ≡ Some w → suc w ≤ rank_of (greatest os)
greatest_above [] i w e = absurd cc
greatest_above (q ∷ os) zero w e = omega (arith, larger_rank q (greatest os), ap rank_of e)
greatest_above (q ∷ os) (suc i) w e = omega (arith, larger_rank q (greatest os), greatest_above os i w e)

pub greatest_is : (os : List (Option ℕ)) (v : ℕ) → ((i o : ℕ) → get_or os i None ≡ Some o → o < v) → ((w : ℕ) → v ≡ w + 1 → (i : ℕ) × (get_or os i None ≡ Some w)) → greatest os ≡ order_ranked v
greatest_is os v most some = sym (ranked (greatest os)) ∙ ap order_ranked (same v (greatest_below os v most) some)
  where
    ranked : (q : Option ℕ) → order_ranked (rank_of q) ≡ q
    ranked None = refl
    ranked (Some k) = refl

    same : (v : ℕ) → rank_of (greatest os) ≤ v → ((w : ℕ) → v ≡ w + 1 → (i : ℕ) × (get_or os i None ≡ Some w)) → rank_of (greatest os) ≡ v
    same zero le some = omega arith
    same (suc w) le some = let r = some w (omega arith) in omega (arith, greatest_above os r.0 w r.1)
