-- What is found first over a range of numbers, and what the definitions choose and take by it.
use Rattle.std.proofs.Common.{ℕ, suc, zero, ◌+◌, ◌≡◌, ◌≤◌, ◌<◌, inl, inr, refl, ◌∙◌, ap, arith, Bool, true, false, List, [], ◌∷◌, ◌++◌, Option, None, Some}
use Rattle.std.specs.List.{range_with_len, find}
use Rattle.std.proofs.lemmas.Bool.{cases_Bool, cases_eq, false_from_ne_true}
use Rattle.zp_model.specs.declared.migrate_type.MigrateType.{MigrateType}
use Rattle.zp_model.specs.Area.{Area}
use Rattle.zp_model.specs.Rows.{stands_in}
use Rattle.zp_model.proofs.Settles.{stands_first, stands_later}
use Rattle.std.proofs.lemmas.Option.{none-some, same_Some}
use Rattle.zp_model.specs.BlockSet.{first_of}
use Rattle.zp_model.specs.Choose.{choose, own, claim, borrow, chosen_at}
use Rattle.zp_model.specs.Take.{leave, take_low_answer, take_low_after}

pub range-snoc : (a n : ℕ) → range_with_len a (suc n) ≡ range_with_len a n ++ (a + n) ∷ []
range-snoc a zero = let e : a ≡ a + 0 = omega arith in ap (λ k. k ∷ []) e
range-snoc a (suc n) =
    let e : a + 1 + n ≡ a + suc n = omega arith in
    ap (λ l. a ∷ l) (range-snoc (a + 1) n ∙ ap (λ k. range_with_len (a + 1) n ++ k ∷ []) e)

pub first_none : {Y : Type 0} → (f : ℕ → Option Y) (a n : ℕ) → ((i : ℕ) → a ≤ i → i < a + n → f i ≡ None) → first_of f (range_with_len a n) ≡ None
first_none f a zero e = refl
first_none f a (suc n) e = rw (e a (omega arith) (omega arith)) (first_none f (a + 1) n (λ i p q. e i (omega arith) (omega arith)))

pub first_some : {Y : Type 0} → (f : ℕ → Option Y) (a n j : ℕ) (h : Y) → a ≤ j → j < a + n → f j ≡ Some h → ((i : ℕ) → a ≤ i → i < j → f i ≡ None) →
    first_of f (range_with_len a n) ≡ Some h
first_some f a zero j h p q e none = absurd (omega arith)
first_some f a (suc n) j h p q e none = elim (cases_eq a j) [
  | inl same ↦ rw (same, e)
  | inr ne ↦ rw (none a (omega arith) (omega arith)) (first_some f (a + 1) n j h (omega arith) (omega arith) e (λ i x y. none i (omega arith) y))
]

-- what is found of the one number that passes
pub find_only : (p : ℕ → Bool) (a n k : ℕ) → a ≤ k → k < a + n → p k ≡ true → ((i : ℕ) → p i ≡ true → i ≡ k) → find p (range_with_len a n) ≡ Some k
find_only p a zero k le lt e f = absurd (omega arith)
find_only p a (suc n) k le lt e f = elim (cases_eq a k) [
  | inl same ↦ rw (same, e)
  | inr ne ↦ rw (false_from_ne_true (p a) (λ t. ne (f a t))) (find_only p (a + 1) n k (omega arith) (omega arith) e f)
]

-- what is found passes, and is one of the list
pub find-passes : (p : ℕ → Bool) (xs : List ℕ) (h : ℕ) → find p xs ≡ Some h → (p h ≡ true) × (stands_in h xs ≡ true)
find-passes p [] h e = absurd (none-some h e)
find-passes p (x ∷ xs) h e =
    elim (cases_Bool (p x)) [
      | inl hit ↦ let s : x ≡ h = same_Some x h (rw hit at e) in (rw s at hit, rw s (stands_first h xs))
      | inr miss ↦ let r = find-passes p xs h (rw miss at e) in (r.0, stands_later h x xs r.1)
    ]

-- a block chosen is one of the type's own, else claimed, else borrowed
module _ (a : Area) where
  pub choose_own : (k h : ℕ) (t : MigrateType) → own a k t ≡ Some h → choose a k t ≡ Some (record { head = h; claims = false })
  unfolding choose
  choose_own k h t e = rw e

  pub choose_claim : (k h : ℕ) (t : MigrateType) → own a k t ≡ None → claim a k t ≡ Some h → choose a k t ≡ Some (record { head = h; claims = true })
  unfolding choose
  choose_claim k h t e f = rw (e, f)

  pub choose_borrow : (k : ℕ) (t : MigrateType) (o : Option ℕ) → own a k t ≡ None → claim a k t ≡ None → borrow a k t ≡ o → choose a k t ≡ chosen_at false o
  unfolding choose
  choose_borrow k t o e f g = rw (e, f, g)

  -- what taking the lowest block leaves, where there is none and where there is one
  pub after_none : (k : ℕ) → None ≡ take_low_answer a k → take_low_after a k ≡ a
  unfolding take_low_after
  after_none k e = rw (← e)

  pub after_some : (k h : ℕ) → Some h ≡ take_low_answer a k → take_low_after a k ≡ leave a h k
  unfolding take_low_after
  after_some k h e = rw (← e)
