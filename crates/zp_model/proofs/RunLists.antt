-- Settling a list twice is settling it once, where what comes to it the second time lies higher than what came the first time.
use Rattle.std.proofs.Common.{ℕ, suc, zero, ◌/◌, ◌≡◌, ◌<◌, ◌==◌, inl, inr, refl, sym, ◌∙◌, ap, arith, Bool, true, false, not, ◌&&◌, ◌||◌, List, [], ◌∷◌, ◌++◌, length, ltb, append_assoc}
use Rattle.std.specs.List.{filter}
use Rattle.std.proofs.lemmas.Bool.{and_parts, cases_Bool, lt-ltb, le-ltb, false_from_ne_true}
use Rattle.std.proofs.lemmas.Bool.Decides.{nat_tests}
use Rattle.std.proofs.lemmas.List.Elements.{filter-append, filter_agree}
use Rattle.std.proofs.lemmas.List.Folds.{list_any-append}
use Rattle.std.proofs.lemmas.Nat.{pow_pos}
use Rattle.zp_model.specs.declared.pageblock_type.PageblockType.{PageblockType}
use Rattle.zp_model.specs.PageblockType.{pageblock_types}
use Rattle.zp_model.specs.Rows.{stands_in}
use Rattle.zp_model.specs.Area.{belongs, falling, settled}
use Rattle.zp_model.proofs.Covers.{has_below}
use Rattle.zp_model.proofs.Pages.{is_max-to}
use Rattle.zp_model.proofs.RowLists.{stands_filter}
use Rattle.zp_model.proofs.Settles.{falling_none, filter_all, stands_first, stands_later}

twice : (p q : ℕ → Bool) (xs : List ℕ) → filter q (filter p xs) ≡ filter (λ x. p x && q x) xs
twice p q [] = refl
twice p q (x ∷ xs) =
    elim (cases_Bool (p x)) [
      | inl t ↦ elim (cases_Bool (q x)) [ inl u ↦ rw (t, u) (ap (λ ys. x ∷ ys) (twice p q xs)) | inr n ↦ rw (t, n) (twice p q xs) ]
      | inr n ↦ rw n (twice p q xs)
    ]

-- a filter that loses nothing that a later one keeps
lossless : (p q : ℕ → Bool) (xs : List ℕ) → ((x : ℕ) → stands_in x xs ≡ true → q x ≡ true → p x ≡ true) → filter q (filter p xs) ≡ filter q xs
lossless p q [] f = refl
lossless p q (x ∷ xs) f =
    let more : filter q (filter p xs) ≡ filter q xs = lossless p q xs (λ y on. f y (stands_later y x xs on)) in
    elim (cases_Bool (q x)) [
      | inl t ↦ rw (f x (stands_first x xs) t, t) (ap (λ ys. x ∷ ys) more)
      | inr n ↦ elim (cases_Bool (p x)) [ inl u ↦ rw (u, n) more | inr v ↦ rw (v, n) more ]
    ]

-- falling numbers of two kinds, where those of the one are higher than those of the other
falling_parts : (high low : ℕ → Bool) (n : ℕ) → ((g b : ℕ) → high g ≡ true → low b ≡ true → b < g) →
    filter (λ g. high g || low g) (falling n) ≡ filter high (falling n) ++ filter low (falling n)
falling_parts high low zero f = refl
falling_parts high low (suc n) f =
    elim (cases_Bool (high n)) [
      | inl t ↦
          let other : low n ≡ false = false_from_ne_true _ (λ e. let lt : n < n = f n n t e in omega arith) in
          rw (t, other) (ap (λ ys. n ∷ ys) (falling_parts high low n f))
      | inr t ↦
          elim (cases_Bool (low n)) [
            | inr u ↦ rw (t, u) (falling_parts high low n f)
            | inl u ↦
                let empty : filter high (falling n) ≡ [] = falling_none high n (λ x lt. false_from_ne_true _ (λ e. let more : n < x = f x n e u in omega arith)) in
                rw (t, u, empty) (ap (λ ys. n ∷ ys) (falling_parts high low n f ∙ rw empty refl))
          ]
    ]

pub stands_falling : (h n : ℕ) → stands_in h (falling n) ≡ ltb h n
stands_falling h zero = sym (le-ltb h 0 (omega arith))
stands_falling h (suc n) = rw (stands_falling h n) (next h n)
  where
    next : (h n : ℕ) → ((h == n) || ltb h n) ≡ ltb h (suc n)
    next h n = grind (arith, nat_tests)

pub belongs_below : (m : ℕ) (u : List Bool) (kinds : List PageblockType) (r h : ℕ) → belongs m u kinds r h ≡ true → h < length u
unfolding belongs
belongs_below m u kinds r h e =
    let a = and_parts _ _ e in
    let x = is_max-to m u h (r / pageblock_types) a.0 in
    has_below u h (x.inside h (omega arith) (omega (arith, pow_pos (r / pageblock_types))))

-- what passes a test is on the old list or not; what is not is among the pages
pub fresh_or_old : (b s l : Bool) → (b ≡ true → l ≡ true) → (((b && not s) && l) || (b && s)) ≡ b
fresh_or_old b s l f = grind arith

-- a settled list holds what belongs on it
pub stands_settled : (m : ℕ) (u : List Bool) (kinds : List PageblockType) (r h : ℕ) (old : List ℕ) → stands_in h (settled m u kinds r old) ≡ belongs m u kinds r h
unfolding settled
stands_settled m u kinds r h old =
    let fresh : ℕ → Bool = λ x. belongs m u kinds r x && not (stands_in x old) in
    list_any-append (λ x. h == x) (filter fresh (falling (length u))) (filter (belongs m u kinds r) old)
    ∙ rw (stands_filter fresh h (falling (length u)), stands_filter (belongs m u kinds r) h old, stands_falling h (length u))
    (fresh_or_old (belongs m u kinds r h) (stands_in h old) (ltb h (length u)) (λ e. lt-ltb h (length u) (belongs_below m u kinds r h e)))

pub settled_parts : (m : ℕ) (u : List Bool) (kinds : List PageblockType) (r : ℕ) (old : List ℕ) →
    settled m u kinds r old ≡ filter (λ g. belongs m u kinds r g && not (stands_in g old)) (falling (length u)) ++ filter (belongs m u kinds r) old
unfolding settled
settled_parts m u kinds r old = refl

-- settling for u and then for v is settling for v, where what stood and belongs at last belonged in between, and what comes last is higher than what came before
pub settled_rising : (m : ℕ) (u v : List Bool) (kinds : List PageblockType) (r : ℕ) (old : List ℕ) → length u ≡ length v →
    ((g : ℕ) → stands_in g old ≡ true → belongs m v kinds r g ≡ true → belongs m u kinds r g ≡ true) →
    ((g b : ℕ) → belongs m v kinds r g ≡ true → belongs m u kinds r g ≡ false → belongs m u kinds r b ≡ true → stands_in b old ≡ false → belongs m v kinds r b ≡ true → b < g) →
    settled m v kinds r (settled m u kinds r old) ≡ settled m v kinds r old
settled_rising m u v kinds r old len stay rise = go (settled m u kinds r old) (λ g. stands_settled m u kinds r g old) (settled_parts m u kinds r old)
  where
    either : (p q s : Bool) → (s ≡ true → q ≡ true → p ≡ true) → ((q && not p) || ((p && not s) && q)) ≡ (q && not s)
    either p q s f = grind arith

    high_parts : (p q : Bool) → (q && not p) ≡ true → (q ≡ true) × (p ≡ false)
    high_parts p q e = (grind arith, grind arith)

    low_parts : (p q s : Bool) → ((p && not s) && q) ≡ true → (p ≡ true) × (s ≡ false) × (q ≡ true)
    low_parts p q s e = (grind arith, grind arith, grind arith)

    go : (mid : List ℕ) → ((g : ℕ) → stands_in g mid ≡ belongs m u kinds r g) →
        mid ≡ filter (λ g. belongs m u kinds r g && not (stands_in g old)) (falling (length u)) ++ filter (belongs m u kinds r) old →
        settled m v kinds r mid ≡ settled m v kinds r old
    go mid held is =
        let n : ℕ = length v in
        let p : ℕ → Bool = belongs m u kinds r in
        let q : ℕ → Bool = belongs m v kinds r in
        let high : ℕ → Bool = λ g. q g && not (p g) in
        let low : ℕ → Bool = λ g. (p g && not (stands_in g old)) && q g in
        let late : filter (λ g. q g && not (stands_in g mid)) (falling n) ≡ filter high (falling n) = filter_agree (λ g. q g && not (stands_in g mid)) high (λ g. ap (λ b. q g && not b) (held g)) (falling n) in
        let early : filter q (filter (λ g. p g && not (stands_in g old)) (falling (length u))) ≡ filter low (falling n) =
        twice (λ g. p g && not (stands_in g old)) q (falling (length u)) ∙ ap (λ k. filter low (falling k)) len in
        let all : filter (λ g. q g && not (stands_in g old)) (falling n) ≡ filter high (falling n) ++ filter low (falling n) =
        sym (filter_agree (λ g. high g || low g) (λ g. q g && not (stands_in g old)) (λ g. either (p g) (q g) (stands_in g old) (stay g)) (falling n))
        ∙ falling_parts high low n (λ g b x y. let a = high_parts (p g) (q g) x in let c = low_parts (p b) (q b) (stands_in b old) y in rise g b a.0 a.1 c.0 c.1 c.2) in
        settled_parts m v kinds r mid
        ∙ (λ i. late i ++ filter q (is i))
        ∙ ap (λ xs. filter high (falling n) ++ xs) (filter-append q (filter (λ g. p g && not (stands_in g old)) (falling (length u))) (filter p old) ∙ (λ i. early i ++ lossless p q old stay i))
        ∙ sym (append_assoc (filter high (falling n)) (filter low (falling n)) (filter q old))
        ∙ ap (λ xs. xs ++ filter q old) (sym all)
        ∙ sym (settled_parts m v kinds r old)

-- a list that holds what belongs on it settles to itself
pub settled_already : (m : ℕ) (u : List Bool) (kinds : List PageblockType) (r : ℕ) (old : List ℕ) → ((g : ℕ) → stands_in g old ≡ belongs m u kinds r g) → settled m u kinds r old ≡ old
settled_already m u kinds r old held =
    settled_parts m u kinds r old
    ∙ (λ i. falling_none (λ g. belongs m u kinds r g && not (stands_in g old)) (length u) (λ g lt. rw (held g) (neither (belongs m u kinds r g))) i ++ filter (belongs m u kinds r) old)
    ∙ filter_all (belongs m u kinds r) old (λ g on. sym (held g) ∙ on)
  where
    neither : (b : Bool) → (b && not b) ≡ false
    neither b = grind arith
