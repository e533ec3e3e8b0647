-- A run that is taken, or given back, in parts, the lowest first, leaves what it leaves at once: of each order, what forms by a later part lies higher.
use Rattle.std.proofs.Common.{ℕ, ◌+◌, ◌*◌, ◌/◌, ◌^◌, ◌≡◌, ◌≤◌, ◌<◌, ◌⊎◌, inl, inr, refl, sym, ◌∙◌, ap, arith, Bool, true, false, not, ◌&&◌, ◌||◌, List, length, max}
use Rattle.std.proofs.lemmas.Bool.{and_parts, and_from, or_cases, both_ways, cases_lt, cases_order, false_from_ne_true, leb-true, le-leb, ltb-true, lt-ltb, not-true}
use Rattle.std.proofs.Math.Bool.{or-true}
use Rattle.std.proofs.lemmas.List.FromFn.{get_or-map-range_with_len, length-map-range_with_len}
use Rattle.zp_model.specs.Block.{has, head, with_run, without}
use Rattle.zp_model.specs.Runs.{is_within, with_pages, without_pages}
use Rattle.zp_model.proofs.Covers.{has_below, same_pages}
use Rattle.zp_model.proofs.Heads.{head_le, lt_head, runs_apart}
use Rattle.zp_model.proofs.Maximal.{Max}
use Rattle.zp_model.proofs.Normal.{Filled}
use Rattle.zp_model.proofs.Pages.{In, is_max-to, is_max-from}

pub within-to : (h n i : ℕ) → is_within h n i ≡ true → (h ≤ i) × (i < h + n)
within-to h n i e = let a = and_parts _ _ e in (leb-true h i a.0, ltb-true i (h + n) a.1)

pub within-from : (h n i : ℕ) → h ≤ i → i < h + n → is_within h n i ≡ true
within-from h n i a b = and_from _ _ (le-leb h i a) (lt-ltb i (h + n) b)

module _ (u : List Bool) (h n : ℕ) where
  pub length-with_pages : length (with_pages u h n) ≡ length u
  unfolding with_pages
  length-with_pages = length-map-range_with_len (λ i. has u i || is_within h n i) 0 (length u)

  pub has-with_pages : (i : ℕ) → i < length u → has (with_pages u h n) i ≡ (has u i || is_within h n i)
  unfolding with_pages
  has-with_pages i lt = get_or-map-range_with_len (λ i. has u i || is_within h n i) 0 (length u) i i false lt (omega arith)

  pub with_pages-to : (i : ℕ) → In (with_pages u h n) i → In u i ⊎ ((h ≤ i) × (i < h + n))
  with_pages-to i e =
      let lt : i < length u = omega (arith, has_below (with_pages u h n) i e, length-with_pages) in
      elim (or_cases _ _ (sym (has-with_pages i lt) ∙ e)) [ inl old ↦ inl old | inr new ↦ inr (within-to h n i new) ]

  pub with_pages-old : (i : ℕ) → In u i → In (with_pages u h n) i
  with_pages-old i e = has-with_pages i (has_below u i e) ∙ rw e refl

  pub with_pages-new : (i : ℕ) → i < length u → h ≤ i → i < h + n → In (with_pages u h n) i
  with_pages-new i lt a b = has-with_pages i lt ∙ rw (within-from h n i a b) (or-true (has u i))

  pub length-without_pages : length (without_pages u h n) ≡ length u
  unfolding without_pages
  length-without_pages = length-map-range_with_len (λ i. has u i && not (is_within h n i)) 0 (length u)

  pub has-without_pages : (i : ℕ) → i < length u → has (without_pages u h n) i ≡ (has u i && not (is_within h n i))
  unfolding without_pages
  has-without_pages i lt = get_or-map-range_with_len (λ i. has u i && not (is_within h n i)) 0 (length u) i i false lt (omega arith)

  pub without_pages-to : (i : ℕ) → In (without_pages u h n) i → In u i × (h ≤ i → i < h + n → ⊥)
  without_pages-to i e =
      let lt : i < length u = omega (arith, has_below (without_pages u h n) i e, length-without_pages) in
      let a = and_parts _ _ (sym (has-without_pages i lt) ∙ e) in
      (a.0, λ p q. both_ways _ (not-true _ a.1) (within-from h n i p q))

  pub without_pages-from : (i : ℕ) → In u i → (h ≤ i → i < h + n → ⊥) → In (without_pages u h n) i
  without_pages-from i e out =
      has-without_pages i (has_below u i e) ∙ and_from _ _ e (rw (false_from_ne_true (is_within h n i) (λ w. let r = within-to h n i w in out r.0 r.1)))

-- a block's pages are a run
pub without_block : (u : List Bool) (h k : ℕ) → without u h k ≡ without_pages u h (2 ^ k)
unfolding without without_pages
without_block u h k = refl

pub with_block : (u : List Bool) (h k : ℕ) → with_run u h k ≡ with_pages u h (2 ^ k)
unfolding with_run with_pages
with_block u h k = refl

-- two parts, one behind the other, are a run
pub with_both : (u : List Bool) (h n k : ℕ) → with_pages (with_pages u h n) (h + n) k ≡ with_pages u h (n + k)
with_both u h n k =
    let one : List Bool = with_pages u h n in
    let e : length one ≡ length u = length-with_pages u h n in
    same_pages (with_pages one (h + n) k) (with_pages u h (n + k)) (length-with_pages one (h + n) k ∙ e ∙ sym (length-with_pages u h (n + k)))
    (λ i x.
    let lt : i < length u = omega (arith, has_below (with_pages one (h + n) k) i x, length-with_pages one (h + n) k) in
    elim (with_pages-to one (h + n) k i x) [
      | inl first ↦ elim (with_pages-to u h n i first) [ inl old ↦ with_pages-old u h (n + k) i old | inr new ↦ with_pages-new u h (n + k) i lt new.0 (omega (arith, new.1)) ]
      | inr new ↦ with_pages-new u h (n + k) i lt (omega (arith, new.0)) (omega (arith, new.1))
    ])
    (λ i x.
    let lt : i < length u = omega (arith, has_below (with_pages u h (n + k)) i x, length-with_pages u h (n + k)) in
    elim (with_pages-to u h (n + k) i x) [
      | inl old ↦ with_pages-old one (h + n) k i (with_pages-old u h n i old)
      | inr new ↦
          elim (cases_lt i (h + n)) [
            | inl low ↦ with_pages-old one (h + n) k i (with_pages-new u h n i lt new.0 low)
            | inr high ↦ with_pages-new one (h + n) k i (omega arith) high (omega (arith, new.1))
          ]
    ])

pub without_both : (u : List Bool) (h n k : ℕ) → without_pages (without_pages u h n) (h + n) k ≡ without_pages u h (n + k)
without_both u h n k =
    let one : List Bool = without_pages u h n in
    same_pages (without_pages one (h + n) k) (without_pages u h (n + k)) (length-without_pages one (h + n) k ∙ length-without_pages u h n ∙ sym (length-without_pages u h (n + k)))
    (λ i x.
    let a = without_pages-to one (h + n) k i x in
    let b = without_pages-to u h n i a.0 in
    without_pages-from u h (n + k) i b.0 (λ p q. elim (cases_lt i (h + n)) [ inl low ↦ b.1 p low | inr high ↦ a.1 high (omega arith) ]))
    (λ i x.
    let a = without_pages-to u h (n + k) i x in
    without_pages-from one (h + n) k i (without_pages-from u h n i a.0 (λ p q. a.1 p (omega arith))) (λ p q. a.1 (omega arith) (omega arith)))

-- a block that is maximal in a set, and lies in a smaller one, is maximal there
pub smaller_max : (m : ℕ) (u v : List Bool) (g j : ℕ) → ((i : ℕ) → In u i → In v i) → Filled (In u) g j → Max m v g j → Max m u g j
smaller_max m u v g j le f x =
    let y = is_max-to m v g j x in
    is_max-from m u g j (record { order = y.order; aligned = y.aligned; inside = f; alone = λ lt d. y.alone lt (λ i a b. le i (d i a b)) })

-- pages from a up to c come to the set u, which gives v: a maximal block that is new has one of them
module _ (m : ℕ) (u v : List Bool) (a c : ℕ) (more : (i : ℕ) → In u i → In v i) (last : (i : ℕ) → In v i → In u i ⊎ ((a ≤ i) × (i < c))) where
  grown : (g j : ℕ) → Max m v g j → (Max m u g j → ⊥) → (g < c) × (a < g + 2 ^ j) × (a < c)
  grown g j x new =
      let out : ((i : ℕ) → g ≤ i → i < g + 2 ^ j → a ≤ i → i < c → ⊥) → ⊥ = λ off. new (smaller_max m u v g j more (λ i p q. elim (last i ((is_max-to m v g j x).inside i p q)) [
        | inl old ↦ old
        | inr come ↦ absurd (off i p q come.0 come.1)
      ]) x) in
      elim (cases_lt g c) [
        | inr past ↦ absurd (out (λ i p q s t. omega arith))
        | inl low ↦
            elim (cases_lt a (g + 2 ^ j)) [
              | inr past ↦ absurd (out (λ i p q s t. omega arith))
              | inl high ↦ elim (cases_lt a c) [ inl some ↦ (low, high, some) | inr empty ↦ absurd (out (λ i p q s t. omega arith)) ]
            ]
      ]

-- pages from h up to x come to f, which gives u, and then pages from x up to e: of one order, a block that is new at last lies higher than one that was new before
pub giving_rises : (m : ℕ) (f u v : List Bool) (h x e : ℕ) → ((i : ℕ) → In f i → In u i) → ((i : ℕ) → In u i → In f i ⊎ ((h ≤ i) × (i < x))) → ((i : ℕ) → In u i → In v i) →
    ((i : ℕ) → In v i → In u i ⊎ ((x ≤ i) × (i < e))) → ((i : ℕ) → x ≤ i → i < e → In u i → ⊥) → (g b j : ℕ) → Max m v g j → (Max m u g j → ⊥) → Max m u b j → (Max m f b j → ⊥) → b < g
giving_rises m f u v h x e some first more last clear g b j vg ug ub fb =
    let s = grown m u v x e more last g j vg ug in
    let t = grown m f u h x some first b j ub fb in
    elim (cases_lt b g) [ inl lt ↦ lt | inr ge ↦ absurd (clear x (omega arith) s.2 ((is_max-to m u b j ub).inside x (omega (arith, t.0)) (omega (arith, s.1)))) ]

-- pages from a up to c leave the set u, which gives v: the double of a maximal block that is new has one of them
module _ (m : ℕ) (u v : List Bool) (a c : ℕ) (less : (i : ℕ) → In v i → In u i) (keeps : (i : ℕ) → In u i → (a ≤ i → i < c → ⊥) → In v i) where
  max_before : (g j : ℕ) → Max m v g j → (j < m → Filled (In u) (head g (j + 1)) (j + 1) → ⊥) → Max m u g j
  max_before g j x alone =
      let y = is_max-to m v g j x in
      is_max-from m u g j (record { order = y.order; aligned = y.aligned; inside = λ i p q. less i (y.inside i p q); alone = alone })

  split : (g j : ℕ) → Max m v g j → (Max m u g j → ⊥) → (head g (j + 1) < c) × (a < head g (j + 1) + 2 ^ (j + 1)) × (a < c)
  split g j x new =
      let d : ℕ = head g (j + 1) in
      let out : ((i : ℕ) → d ≤ i → i < d + 2 ^ (j + 1) → a ≤ i → i < c → ⊥) → ⊥ = λ off. new (max_before g j x (λ lt full. (is_max-to m v g j x).alone lt (λ i p q. keeps i (full i p q) (off i p q)))) in
      elim (cases_lt d c) [
        | inr past ↦ absurd (out (λ i p q s t. omega arith))
        | inl low ↦
            elim (cases_lt a (d + 2 ^ (j + 1))) [
              | inr past ↦ absurd (out (λ i p q s t. omega arith))
              | inl high ↦ elim (cases_lt a c) [ inl some ↦ (low, high, some) | inr empty ↦ absurd (out (λ i p q s t. omega arith)) ]
            ]
      ]

-- pages from h up to x leave f, which gives u, and then pages from x up to e: the same
pub leaving_rises : (m : ℕ) (f u v : List Bool) (h x e : ℕ) → ((i : ℕ) → In u i → In f i) → ((i : ℕ) → In f i → (h ≤ i → i < x → ⊥) → In u i) → ((i : ℕ) → In v i → In u i) →
    ((i : ℕ) → In u i → (x ≤ i → i < e → ⊥) → In v i) → ((i : ℕ) → h ≤ i → i < x → In u i → ⊥) → (g b j : ℕ) → Max m v g j → (Max m u g j → ⊥) → Max m u b j → (Max m f b j → ⊥) → b < g
leaving_rises m f u v h x e some first more last clear g b j vg ug ub fb =
    let s = split m u v x e more last g j vg ug in
    let t = split m f u h x some first b j ub fb in
    let w : ℕ = 2 ^ (j + 1) in
    elim (cases_order (b / w) (g / w)) [
      | inl same ↦
          let d : head b (j + 1) ≡ head g (j + 1) = ap (λ n. n * w) same in
          let q : ℕ = max (head b (j + 1)) h in
          absurd (ug (max_before m u v x e more last g j vg (λ lt full. clear q (omega arith) (omega (arith, t.0, t.2)) (full q (omega arith) (omega (arith, t.1))))))
      | inr (inl lt) ↦ omega (arith, runs_apart (b / w) (g / w) (j + 1) lt, lt_head b (j + 1), head_le g (j + 1))
      | inr (inr gt) ↦ absurd (omega (arith, runs_apart (g / w) (b / w) (j + 1) gt, s.1, t.0))
    ]
