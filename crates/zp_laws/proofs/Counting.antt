-- Sums and counts over lists and over the numbers of a range; the marks of a set without a run and with it.
use Rattle.std.proofs.Common.{ℕ, suc, zero, ◌+◌, ◌-◌, ◌^◌, ◌≡◌, ◌≤◌, ◌<◌, ◌⊎◌, inl, inr, refl, sym, ◌∙◌, ap, arith, Bool, true, false, not, ◌&&◌, ◌||◌, List, [], ◌∷◌, length, map, get_or, cond, min, max, All}
use Rattle.std.specs.List.{range_with_len, sum_by, count_by}
use Rattle.std.proofs.Math.Bool.{or-true}
use Rattle.std.proofs.lemmas.Bool.{cases_lt, false_from_ne_true}
use Rattle.std.proofs.lemmas.Bool.Decides.{same_from_decides}
use Rattle.std.proofs.lemmas.List.{ext_get_or, get_or_past}
use Rattle.std.proofs.lemmas.List.Elements.{All-head, All-tail}
use Rattle.std.proofs.lemmas.List.Sums.{sum_by-cons}
use Rattle.std.proofs.lemmas.List.FromFn.{fill_by_all, get_or-range_with_len, length-range_with_len}
use Rattle.zp_model.specs.Block.{with_run, has, in_run, without, size}
use Rattle.zp_model.proofs.Normal.{Filled}
use Rattle.zp_model.proofs.Pages.{In, in_run-to}
use Rattle.zp_model.specs.Runs.{is_within, with_pages, without_pages}
use Rattle.zp_model.proofs.Covers.{length-with, length-without}
use Rattle.zp_model.proofs.RunParts.{has-with_pages, has-without_pages, length-with_pages, length-without_pages, with_block, within-to, without_block}
pub use Rattle.zp_model.proofs.Pages.{in_run-from as in_run-yes}

pub same_tests : (a b : Bool) → (a ≡ true → b ≡ true) → (b ≡ true → a ≡ true) → a ≡ b
same_tests a b f g = same_from_decides {P = b ≡ true} a b (f, g) (λ e. e, λ e. e)

-- 1 where the test passes
abbrev pub one_if : Bool → ℕ
one_if b = cond b 1 0

-- sums of terms that are equal at each item
pub sums_within : {X : Type 0} (f g : X → ℕ) (xs : List X) → All (λ x. f x ≡ g x) xs → sum_by f xs ≡ sum_by g xs
sums_within f g [] e = refl
sums_within f g (x ∷ xs) e =
    sum_by-cons f x xs ∙ rw (All-head (λ y. f y ≡ g y) x xs e, sums_within f g xs (All-tail (λ y. f y ≡ g y) x xs e)) (sym (sum_by-cons g x xs))

pub sums_equal : {X : Type 0} (f g : X → ℕ) (xs : List X) → ((x : X) → f x ≡ g x) → sum_by f xs ≡ sum_by g xs
sums_equal f g xs e = sums_within f g xs (λ i d lt. e (get_or xs i d))

pub sums_together : {X : Type 0} (f g : X → ℕ) (xs : List X) → sum_by (λ x. f x + g x) xs ≡ sum_by f xs + sum_by g xs
sums_together f g [] = refl
sums_together f g (x ∷ xs) = omega (arith, sum_by-cons f x xs, sum_by-cons g x xs, sum_by-cons (λ y. f y + g y) x xs, sums_together f g xs)

pub zeros : {X : Type 0} (xs : List X) → sum_by (λ (x : X). 0) xs ≡ 0
zeros [] = refl
zeros {X} (x ∷ xs) = omega (arith, sum_by-cons (λ (y : X). 0) x xs, zeros xs)

-- a table's sum, by rows and by columns
pub exchanged : {X : Type 0} {Y : Type 0} (f : X → Y → ℕ) (xs : List X) (ys : List Y) → sum_by (λ y. sum_by (λ x. f x y) xs) ys ≡ sum_by (λ x. sum_by (f x) ys) xs
exchanged f xs [] = sym (zeros xs)
exchanged f xs (y ∷ ys) =
    sum_by-cons (λ v. sum_by (λ x. f x v) xs) y ys ∙ rw (exchanged f xs ys) (sym (sums_together (λ x. f x y) (λ x. sum_by (f x) ys) xs))
    ∙ sym (sums_equal (λ x. sum_by (f x) (y ∷ ys)) (λ x. f x y + sum_by (f x) ys) xs (λ x. sum_by-cons (f x) y ys))

pub sum-map : {X : Type 0} (g : X → ℕ) (f : ℕ → X) (is : List ℕ) → sum_by g (map f is) ≡ sum_by (λ i. g (f i)) is
sum-map g f [] = refl
sum-map g f (i ∷ is) = omega (arith, sum_by-cons g (f i) (map f is), sum_by-cons (λ j. g (f j)) i is, sum-map g f is)

pub sums-same : (f g : ℕ → ℕ) (a n : ℕ) → ((i : ℕ) → a ≤ i → i < a + n → f i ≡ g i) → sum_by f (range_with_len a n) ≡ sum_by g (range_with_len a n)
sums-same f g a n e = sums_within f g (range_with_len a n) (λ i d lt.
    let under : i < n = omega (arith, length-range_with_len a n) in
    rw (get_or-range_with_len a n i d under) (e (a + i) (omega arith) (omega arith)))

-- a count over a range that is two counts together, number by number
pub counts-add : (p q r : ℕ → Bool) (a n : ℕ) → ((i : ℕ) → a ≤ i → i < a + n → one_if (p i) ≡ one_if (q i) + one_if (r i)) →
    count_by p (range_with_len a n) ≡ count_by q (range_with_len a n) + count_by r (range_with_len a n)
counts-add p q r a n e =
    sums-same (λ i. one_if (p i)) (λ i. one_if (q i) + one_if (r i)) a n e ∙ sums_together (λ i. one_if (q i)) (λ i. one_if (r i)) (range_with_len a n)

pub count-none : (p : ℕ → Bool) (a n : ℕ) → ((i : ℕ) → a ≤ i → i < a + n → p i ≡ false) → count_by p (range_with_len a n) ≡ 0
count-none p a n e = sums-same (λ i. one_if (p i)) (λ i. 0) a n (λ i lo hi. ap one_if (e i lo hi)) ∙ zeros (range_with_len a n)

-- how many numbers of a range lie in a run of m numbers from h on
pub count-run : (p : ℕ → Bool) (h m a n : ℕ) → ((i : ℕ) → h ≤ i → i < h + m → p i ≡ true) → ((i : ℕ) → (i < h) ⊎ (h + m ≤ i) → p i ≡ false) →
    count_by p (range_with_len a n) ≡ min (a + n) (h + m) - max a h
count-run p h m a zero f g = omega arith
count-run p h m a (suc n) f g =
    let x = sum_by-cons (λ i. one_if (p i)) a (range_with_len (a + 1) n) in
    let ih : count_by p (range_with_len (a + 1) n) ≡ min (a + 1 + n) (h + m) - max (a + 1) h = count-run p h m (a + 1) n f g in
    elim (cases_lt a h) [
      | inl lt ↦ let e : one_if (p a) ≡ 0 = ap one_if (g a (inl lt)) in omega (arith, x)
      | inr ge ↦ elim (cases_lt a (h + m)) [
        | inl lt ↦ let e : one_if (p a) ≡ 1 = ap one_if (f a ge lt) in omega (arith, x)
        | inr past ↦ let e : one_if (p a) ≡ 0 = ap one_if (g a (inr past)) in omega (arith, x)
      ]
    ]

pub in_run-no : (h k i : ℕ) → (i < h) ⊎ (h + 2 ^ k ≤ i) → in_run h k i ≡ false
in_run-no h k i w = false_from_ne_true _ (λ e. let r = in_run-to h k i e in elim w [ inl x ↦ omega (arith, r.0) | inr x ↦ omega (arith, r.1) ])

pub count-in_run : (h k n : ℕ) → h + 2 ^ k ≤ n → count_by (in_run h k) (range_with_len 0 n) ≡ 2 ^ k
count-in_run h k n le =
    let x = count-run (in_run h k) h (2 ^ k) 0 n (in_run-yes h k) (in_run-no h k) in
    omega (arith, x)

-- the size of a set counts the numbers below the zone's end that are in it
pub size-range : (u : List Bool) → size u ≡ count_by (has u) (range_with_len 0 (length u))
unfolding size
size-range u =
    ap (λ v. count_by (λ b. b) v) (fill_by_all (has u) u (length u) false refl (λ i lt. refl)) ∙ sum-map one_if (has u) (range_with_len 0 (length u))

-- the marks of a set, also past its end, when the pages of a run leave it or come
pub has-left_any : (u : List Bool) (h n i : ℕ) → has (without_pages u h n) i ≡ (has u i && not (is_within h n i))
has-left_any u h n i =
    elim (cases_lt i (length u)) [
      | inl lt ↦ has-without_pages u h n i lt
      | inr ge ↦ get_or_past (without_pages u h n) i false (omega (arith, length-without_pages u h n)) ∙ sym (rw (get_or_past u i false ge))
    ]

pub has-given_any : (u : List Bool) (h n i : ℕ) → h + n ≤ length u → has (with_pages u h n) i ≡ (has u i || is_within h n i)
has-given_any u h n i le =
    elim (cases_lt i (length u)) [
      | inl lt ↦ has-with_pages u h n i lt
      | inr ge ↦
          let out : is_within h n i ≡ false = false_from_ne_true _ (λ e. let r = within-to h n i e in omega (arith, r.1)) in
          get_or_past (with_pages u h n) i false (omega (arith, length-with_pages u h n)) ∙ sym (rw (get_or_past u i false ge, out))
    ]

-- the same of a block's pages
pub has-without_any : (u : List Bool) (h k i : ℕ) → has (without u h k) i ≡ (has u i && not (in_run h k i))
has-without_any u h k i = ap (λ v. has v i) (without_block u h k) ∙ has-left_any u h (2 ^ k) i

pub has-with_any : (u : List Bool) (h k i : ℕ) → h + 2 ^ k ≤ length u → has (with_run u h k) i ≡ (has u i || in_run h k i)
has-with_any u h k i le = ap (λ v. has v i) (with_block u h k) ∙ has-given_any u h (2 ^ k) i le

pub same_marks : (u v : List Bool) → length u ≡ length v → ((i : ℕ) → has u i ≡ has v i) → u ≡ v
same_marks u v l e = ext_get_or false u v l (λ i lt. e i)

-- whether one number is in the set, before and after the pages of a run of it leave
pub one-without : (u : List Bool) (h k i : ℕ) → Filled (In u) h k → one_if (has u i) ≡ one_if (has (without u h k) i) + one_if (in_run h k i)
one-without u h k i f = rw (has-without_any u h k i) (parts (has u i) (in_run h k i) (λ e. let r = in_run-to h k i e in f i r.0 r.1))
  where
    parts : (u r : Bool) → (r ≡ true → u ≡ true) → one_if u ≡ one_if (u && not r) + one_if r
    parts u r f = grind arith

-- the pages of a run of the set leave it
pub size-without : (u : List Bool) (h k : ℕ) → h + 2 ^ k ≤ length u → Filled (In u) h k → size u ≡ size (without u h k) + 2 ^ k
size-without u h k le f =
    let n : length (without u h k) ≡ length u = length-without u h k in
    let e : count_by (has u) (range_with_len 0 (length u)) ≡ count_by (has (without u h k)) (range_with_len 0 (length u)) + count_by (in_run h k) (range_with_len 0 (length u)) =
    counts-add (has u) (has (without u h k)) (in_run h k) 0 (length u) (λ i lo hi. one-without u h k i f) in
    let c : count_by (in_run h k) (range_with_len 0 (length u)) ≡ 2 ^ k = count-in_run h k (length u) le in
    let a : size u ≡ count_by (has u) (range_with_len 0 (length u)) = size-range u in
    let b : size (without u h k) ≡ count_by (has (without u h k)) (range_with_len 0 (length u)) =
    size-range (without u h k) ∙ ap (λ m. count_by (has (without u h k)) (range_with_len 0 m)) n in
    omega arith

-- the pages of a run of others that come are in the set, and without them it is what it was
pub without-with_run : (u : List Bool) (h k : ℕ) → h + 2 ^ k ≤ length u → ((i : ℕ) → h ≤ i → i < h + 2 ^ k → In u i → ⊥) →
    Filled (In (with_run u h k)) h k × (without (with_run u h k) h k ≡ u)
without-with_run u h k le none = (
  λ i a b. has-with_any u h k i le ∙ rw (in_run-yes h k i a b) (or-true (has u i)),
  same_marks (without (with_run u h k) h k) u (length-without (with_run u h k) h k ∙ length-with u h k) (λ i.
      has-without_any (with_run u h k) h k i ∙ rw (has-with_any u h k i le) (parts (has u i) (in_run h k i) (λ e f. let r = in_run-to h k i f in none i r.0 r.1 e))),
)
  where
    parts : (u r : Bool) → (u ≡ true → r ≡ true → ⊥) → ((u || r) && not r) ≡ u
    parts u r f = grind arith

-- and a run that leaves and comes back leaves the set as it was
pub with-without_run : (u : List Bool) (h k : ℕ) → h + 2 ^ k ≤ length u → Filled (In u) h k → with_run (without u h k) h k ≡ u
with-without_run u h k le f =
    let n : length (without u h k) ≡ length u = length-without u h k in
    same_marks (with_run (without u h k) h k) u (length-with (without u h k) h k ∙ n) (λ i.
    has-with_any (without u h k) h k i (omega arith) ∙ rw (has-without_any u h k i) (parts (has u i) (in_run h k i) (λ e. let r = in_run-to h k i e in f i r.0 r.1)))
  where
    parts : (u r : Bool) → (r ≡ true → u ≡ true) → ((u && not r) || r) ≡ u
    parts u r f = grind arith
