-- A hash map as a finite map.
use Rattle.std.proofs.Common.{ℕ, ◌≡◌, ◌∙◌, sym, ap, refl, arith, cond, List, [], ◌∷◌, Some, None}
use Rattle.std.specs.Prelude.{nat_eq}
use Rattle.std.specs.Ordering.{nat_cmp, eq_by_cmp}
use Rattle.std.specs.Cmp.{nat_cmp_total}
use Rattle.std.specs.FinMap.{FinMap, get, insert, remove, from_entries, same_map, nat_cmp-IsAntisymmetric, get-from_entries, get-insert, get-remove}
use Rattle.std.specs.FinMap.Entries.{find}
use Rattle.std.specs.Map.{lookup}
use Rattle.std.proofs.lemmas.Bool.Decides.{nat_tests}

same_test : (q k : ℕ) → eq_by_cmp nat_cmp q k ≡ nat_eq q k
same_test q k = grind (arith, nat_tests)

other_test : (q k : ℕ) → nat_eq k q ≡ eq_by_cmp nat_cmp q k
other_test q k = grind (arith, nat_tests)

module _ {X : Type 0} where
  find_is : (es : List (ℕ × X)) (q : ℕ) → find nat_cmp q es ≡ lookup (nat_eq q) es
  find_is [] q = refl
  find_is (e ∷ es) q =
      ap (λ b. cond b (Some e.1) (find nat_cmp q es)) (same_test q e.0) ∙ ap (λ r. cond (nat_eq q e.0) (Some e.1) r) (find_is es q)

  listed : (es : List (ℕ × X)) (q : ℕ) → get (from_entries {R = nat_cmp} es) q ≡ lookup (nat_eq q) es
  listed es q = get-from_entries nat_cmp_total es q ∙ find_is es q

  -- what is found at a key
  pub get_is : (es : List (ℕ × X)) (m : FinMap nat_cmp X) (q : ℕ) → from_entries es ≡ m → lookup (nat_eq q) es ≡ get m q
  get_is es m q e = sym (listed es q) ∙ ap (λ n. get n q) e

  -- the same entries in another order
  pub reordered : (es fs : List (ℕ × X)) (m : FinMap nat_cmp X) → from_entries es ≡ m → ((q : ℕ) → lookup (nat_eq q) fs ≡ lookup (nat_eq q) es) → from_entries fs ≡ m
  reordered es fs m e same =
      same_map nat_cmp_total nat_cmp-IsAntisymmetric _ _ (λ q. listed fs q ∙ same q ∙ get_is es m q e)

  -- the entries after one key has changed
  pub inserted : (es fs : List (ℕ × X)) (m : FinMap nat_cmp X) (k : ℕ) (v : X) → from_entries es ≡ m →
      ((q : ℕ) → lookup (nat_eq q) fs ≡ cond (nat_eq k q) (Some v) (lookup (nat_eq q) es)) → from_entries fs ≡ insert m k v
  inserted es fs m k v e step =
      same_map nat_cmp_total nat_cmp-IsAntisymmetric _ _
      (λ q. listed fs q ∙ step q ∙ ap (λ b. cond b (Some v) (lookup (nat_eq q) es)) (other_test q k)
      ∙ ap (λ r. cond (eq_by_cmp nat_cmp q k) (Some v) r) (get_is es m q e)
      ∙ sym (get-insert nat_cmp_total m k v q))

  pub removed : (es fs : List (ℕ × X)) (m : FinMap nat_cmp X) (k : ℕ) → from_entries es ≡ m →
      ((q : ℕ) → lookup (nat_eq q) fs ≡ cond (nat_eq k q) None (lookup (nat_eq q) es)) → from_entries fs ≡ remove m k
  removed es fs m k e step =
      same_map nat_cmp_total nat_cmp-IsAntisymmetric _ _
      (λ q. listed fs q ∙ step q ∙ ap (λ b. cond b None (lookup (nat_eq q) es)) (other_test q k)
      ∙ ap (λ r. cond (eq_by_cmp nat_cmp q k) None r) (get_is es m q e)
      ∙ sym (get-remove nat_cmp_total m k q))
