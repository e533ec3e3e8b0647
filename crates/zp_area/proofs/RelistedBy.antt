-- A list made anew by a test of pages, and what the change of the test at one page does to it.
use Rattle.std.proofs.Common.{ℕ, suc, zero, ◌≡◌, ◌≢◌, ◌<◌, ◌==◌, inl, inr, refl, sym, ◌∙◌, ap, arith, Bool, true, false, not, ◌&&◌, ltb, List, [], ◌∷◌, ◌++◌}
use Rattle.std.specs.List.{filter, IsDistinct}
use Rattle.std.proofs.lemmas.Bool.{cases_eq, and_parts, not-true, ltb-true, lt-ltb, ne_eqb, both_ways, false_from_ne_true}
use Rattle.std.proofs.Math.Bool.{or-true}
use Rattle.std.proofs.lemmas.List.Elements.{filter-append}
use Rattle.zp_model.specs.Rows.{stands_in, without_page}
use Rattle.zp_model.specs.Area.{falling}
use Rattle.zp_model.proofs.Settles.{filter_all}
use Rattle.zp_laws.proofs.Settling.{fresh_or_old, stands-append, stands-filter, stands-falling, distinct-filter, distinct-falling, distinct-append}
use Rattle.zp_area.proofs.Filters.{filter_same, filter_twice, stands_filter-to, stands_filter-from}

-- whether page h passes the test and was not on the list
abbrev pub is_fresh : (ℕ → Bool) → List ℕ → ℕ → Bool
is_fresh p old h = p h && not (stands_in h old)

-- of n pages first those that pass and were not on the list, the highest first, then those of the old ones that pass, in their old order
abbrev pub relisted_by : (ℕ → Bool) → ℕ → List ℕ → List ℕ
relisted_by p n old = filter (is_fresh p old) (falling n) ++ filter p old

-- tests that pass the same
pub relisted_by_same : (p q : ℕ → Bool) (n : ℕ) (old : List ℕ) → ((h : ℕ) → p h ≡ q h) → relisted_by p n old ≡ relisted_by q n old
relisted_by_same p q n old e = ap (λ (z : ℕ → Bool). relisted_by z n old) (λ i h. e h i)

falling_none : (p : ℕ → Bool) (n : ℕ) → ((h : ℕ) → p h ≡ false) → filter p (falling n) ≡ []
falling_none p zero f = refl
falling_none p (suc n) f = rw (f n) (falling_none p n f)

-- a list that holds what passes stays
pub relisted_held : (p : ℕ → Bool) (n : ℕ) (old : List ℕ) → ((h : ℕ) → stands_in h old ≡ true → p h ≡ true) →
    ((h : ℕ) → p h ≡ true → stands_in h old ≡ true) → relisted_by p n old ≡ old
relisted_held p n old to from = rw (falling_none (is_fresh p old) n (λ h. none (p h) (stands_in h old) (from h))) (filter_all p old to)
  where
    none : (b s : Bool) → (b ≡ true → s ≡ true) → (b && not s) ≡ false
    none b s f = grind arith

-- what is on the list then is what passes
pub held-relisted : (p : ℕ → Bool) (n h : ℕ) (old : List ℕ) → (p h ≡ true → h < n) → stands_in h (relisted_by p n old) ≡ p h
held-relisted p n h old below =
    stands-append h (filter (is_fresh p old) (falling n)) (filter p old)
    ∙ rw (stands-filter (is_fresh p old) h (falling n), stands-filter p h old, stands-falling h n) (fresh_or_old (p h) (stands_in h old) (ltb h n) (λ e. lt-ltb h n (below e)))

-- and nothing is on it twice
pub distinct-relisted : (p : ℕ → Bool) (n : ℕ) (old : List ℕ) → IsDistinct (λ x y. x == y) old → IsDistinct (λ x y. x == y) (relisted_by p n old)
distinct-relisted p n old d =
    distinct-append (filter (is_fresh p old) (falling n)) (filter p old) (distinct-filter (is_fresh p old) (falling n) (distinct-falling n)) (distinct-filter p old d)
    (λ h s t. both_ways (stands_in h old) (not-true (stands_in h old) (and_parts _ _ (stands_filter-to (is_fresh p old) h (falling n) s).1).1) (stands_filter-to p h old t).0)

-- what was on the list and passes is on it still
pub relisted-from : (p : ℕ → Bool) (n h : ℕ) (old : List ℕ) → stands_in h old ≡ true → p h ≡ true → stands_in h (relisted_by p n old) ≡ true
relisted-from p n h old s b =
    stands-append h (filter (is_fresh p old) (falling n)) (filter p old)
    ∙ rw (stands_filter-from p h old s b) (or-true (stands_in h (filter (is_fresh p old) (falling n))))

-- a page that passes in addition, above all that pass, comes first
falling_first : (p q : ℕ → Bool) (i n : ℕ) → i < n → q i ≡ true → p i ≡ false → ((h : ℕ) → h ≢ i → q h ≡ p h) → ((h : ℕ) → p h ≡ true → h < i) →
    filter q (falling n) ≡ i ∷ filter p (falling n)
falling_first p q i zero lt qi pi same low = absurd (omega arith)
falling_first p q i (suc n) lt qi pi same low =
    elim (cases_eq n i) [
      | inl e ↦
          rw (e, qi, pi) (ap (λ xs. i ∷ xs) (filter_same q p (falling i) (λ h on. same h (omega (arith, ltb-true h i (sym (stands-falling h i) ∙ on))))))
      | inr ne ↦
          let pn : p n ≡ false = false_from_ne_true (p n) (λ t. omega (arith, low n t)) in
          rw (same n ne, pn) (falling_first p q i n (omega arith) qi pi same low)
    ]

-- a page that comes to pass, and was not on the list, comes in front
pub relisted_came : (p q : ℕ → Bool) (i n : ℕ) (old : List ℕ) → i < n → ((h : ℕ) → h ≢ i → q h ≡ p h) → p i ≡ false → q i ≡ true → stands_in i old ≡ false →
    ((h : ℕ) → is_fresh p old h ≡ true → h < i) → relisted_by q n old ≡ i ∷ relisted_by p n old
relisted_came p q i n old lt others off on out low =
    rw (
      falling_first (is_fresh p old) (is_fresh q old) i n lt (rw (on, out)) (rw off) (λ h ne. ap (λ b. b && not (stands_in h old)) (others h ne)) low,
      filter_same q p old (λ h s. others h (λ e. both_ways (stands_in i old) out (rw e at s))),
    )

-- a page that ceases to pass, and was on the list, goes
pub relisted_went : (p q : ℕ → Bool) (i n : ℕ) (old : List ℕ) → ((h : ℕ) → h ≢ i → q h ≡ p h) → q i ≡ false → stands_in i old ≡ true →
    relisted_by q n old ≡ without_page i (relisted_by p n old)
relisted_went p q i n old others off was =
    rw (
      filter_same (is_fresh q old) (is_fresh p old) (falling n) (λ h s. fresh h),
      filter_same q (λ h. p h && not (h == i)) old (λ h s. kept h),
      ← filter_twice (λ h. not (h == i)) p old,
      filter-append (λ h. not (h == i)) (filter (is_fresh p old) (falling n)) (filter p old),
      filter_all (λ h. not (h == i)) (filter (is_fresh p old) (falling n)) (λ h s.
          rw (ne_eqb h i (λ e.
          both_ways (stands_in h old) (not-true (stands_in h old) (and_parts _ _ (stands_filter-to (is_fresh p old) h (falling n) s).1).1) (rw e was))) refl),
    ) refl
  where
    fresh : (h : ℕ) → is_fresh q old h ≡ is_fresh p old h
    fresh h = elim (cases_eq h i) [ inl e ↦ rw (e, was) (none (q i) (p i)) | inr ne ↦ ap (λ b. b && not (stands_in h old)) (others h ne) ]
      where
        none : (a b : Bool) → (a && false) ≡ (b && false)
        none a b = grind arith

    kept : (h : ℕ) → q h ≡ (p h && not (h == i))
    kept h = elim (cases_eq h i) [ inl e ↦ rw (e, off) (last (p i) i) | inr ne ↦ others h ne ∙ rw (ne_eqb h i ne) (yes (p h)) ]
      where
        last : (a : Bool) (i : ℕ) → false ≡ (a && not (i == i))
        last a i = grind arith

        yes : (a : Bool) → a ≡ (a && true)
        yes a = grind arith
