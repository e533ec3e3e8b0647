-- The pages of a block set, and what they are after a split and after a join.
use Rattle.std.proofs.Common.{ℕ, ◌+◌, ◌-◌, ◌^◌, ◌≡◌, ◌≤◌, ◌<◌, inl, inr, refl, sym, ◌∙◌, arith, Bool, true, false, List, length, not, ◌&&◌, ◌||◌, get_or, Option, None}
use Rattle.std.specs.Bool.{Decides}
use Rattle.std.proofs.lemmas.Nat.{pow_pos}
use Rattle.std.proofs.lemmas.Bool.{and_parts, and_from, or_cases, cases_lt, false≢true, false_from_ne_true, not-true, both_ways}
use Rattle.std.proofs.Math.Bool.{or-true}
use Rattle.std.proofs.lemmas.Bool.Decides.{Decides-below_or, same_from_decides}
use Rattle.std.proofs.lemmas.List.FromFn.{get_or-map-range_with_len, length-map-range_with_len}
use Rattle.std.proofs.lemmas.List.{ext_get_or, get_or_past}
use Rattle.zp_model.specs.Block.{has, head, in_run, without, with_run}
use Rattle.zp_model.specs.BlockSet.{some_below, Starts, is_order, is_covered, cover}
use Rattle.zp_model.proofs.Heads.{lt_pow, head_le, lt_head}
use Rattle.zp_model.proofs.Normal.{IsNormal}
use Rattle.zp_model.proofs.Pages.{In, in_run-to, in_run-from, is_order-to, is_order-from}
use Rattle.zp_model.proofs.Split.{AfterSplit, Outside, split-normal}
use Rattle.zp_model.proofs.Join.{AfterJoin, Joined, IsGrown, join-normal}

pub some_below-decides : (test : ℕ → Bool) (n : ℕ) → Decides (some_below test n) ((k : ℕ) × (k < n) × (test k ≡ true))
some_below-decides test n =
    Decides-below_or test (λ k. test k ≡ true) (some_below test) (λ k. (λ e. e, λ e. e)) refl (λ _. refl) n

pub length-cover : (s : List (Option ℕ)) → length (cover s) ≡ length s
unfolding cover
length-cover s = length-map-range_with_len (is_covered s) 0 (length s)

pub has-cover : (s : List (Option ℕ)) (i : ℕ) → i < length s → has (cover s) i ≡ is_covered s i
unfolding cover
has-cover s i lt = get_or-map-range_with_len (is_covered s) 0 (length s) i i false lt (omega arith)

-- a page set has no page past its end
pub has_below : (u : List Bool) (i : ℕ) → In u i → i < length u
has_below u i e = elim (cases_lt i (length u)) [ inl lt ↦ lt | inr ge ↦ absurd (false≢true (sym (get_or_past u i false ge) ∙ e)) ]

pub cover-to : (s : List (Option ℕ)) (i : ℕ) → In (cover s) i → (k : ℕ) × Starts s (head i k) k
cover-to s i e =
    let lt : i < length (cover s) = has_below (cover s) i e in
    let l : length (cover s) ≡ length s = length-cover s in
    let w = (some_below-decides (λ k. is_order k (get_or s (head i k) None)) (length s)).0 (sym (has-cover s i (omega arith)) ∙ e) in
    (w.0, is_order-to w.0 (get_or s (head i w.0) None) w.2)

pub cover-from : (s : List (Option ℕ)) (i k : ℕ) → i < length s → k < length s → Starts s (head i k) k → In (cover s) i
cover-from s i k lt room e =
    has-cover s i lt ∙ (some_below-decides (λ k. is_order k (get_or s (head i k) None)) (length s)).1 (k, room, is_order-from k (get_or s (head i k) None) e)

-- blocks that say what a normal set over V says have the pages of V, where V is inside the zone
pub normal_cover : (m : ℕ) (s : List (Option ℕ)) (T : ℕ → ℕ → Type 0) (V : ℕ → Type 0) → IsNormal m T V →
    ((h k : ℕ) → Starts s h k → T h k) → ((h k : ℕ) → T h k → Starts s h k) → ((i : ℕ) → V i → i < length s) →
    (IsNormal m (Starts s) (In (cover s))) × ((i : ℕ) → In (cover s) i → V i) × ((i : ℕ) → V i → In (cover s) i)
normal_cover m s T V z to from lt = (
  record {
    order = λ h k t. z.order h k (to h k t);
    aligned = λ h k t. z.aligned h k (to h k t);
    apart = λ h k g j i s t. z.apart h k g j i (to h k s) (to g j t);
    unjoined = λ h k lt al s t. z.unjoined h k lt al (to h k s) (to (h + 2 ^ k) k t);
    covers = cover-to s;
    inside = λ h k t i a b. more i (z.inside h k (to h k t) i a b);
  },
  λ i e. let c = cover-to s i e in z.inside (head i c.0) c.0 (to (head i c.0) c.0 c.1) i (head_le i c.0) (lt_head i c.0),
  more,
)
  where
    -- a block whose pages are inside the zone has an order below the zone's pages
    more : (i : ℕ) → V i → In (cover s) i
    more i v =
        let c : (k : ℕ) × T (head i k) k = z.covers i v in
        let p : 0 < 2 ^ c.0 = pow_pos c.0 in
        let last : head i c.0 + 2 ^ c.0 - 1 < length s = lt _ (z.inside (head i c.0) c.0 c.1 _ (omega arith) (omega arith)) in
        cover-from s i c.0 (lt i v) (omega (arith, lt_pow c.0)) (from (head i c.0) c.0 c.1)

pub length-without : (u : List Bool) (h k : ℕ) → length (without u h k) ≡ length u
unfolding without
length-without u h k = length-map-range_with_len (λ i. has u i && not (in_run h k i)) 0 (length u)

pub has-without : (u : List Bool) (h k i : ℕ) → i < length u → has (without u h k) i ≡ (has u i && not (in_run h k i))
unfolding without
has-without u h k i lt = get_or-map-range_with_len (λ i. has u i && not (in_run h k i)) 0 (length u) i i false lt (omega arith)

pub without-decides : (u : List Bool) (h k i : ℕ) → i < length u → Decides (has (without u h k) i) (Outside (In u) h k i)
without-decides u h k i lt = (
  λ e. let a = and_parts _ _ (sym (has-without u h k i lt) ∙ e) in (a.0, λ p q. both_ways _ (not-true _ a.1) (in_run-from h k i p q)),
  λ x. has-without u h k i lt ∙ and_from _ _ x.0 (rw (false_from_ne_true (in_run h k i) (λ e. let r = in_run-to h k i e in x.1 r.0 r.1))),
)

-- two page sets of one length with the same pages are equal
pub same_pages : (u v : List Bool) → length u ≡ length v → ((i : ℕ) → In u i → In v i) → ((i : ℕ) → In v i → In u i) → u ≡ v
same_pages u v l to from = ext_get_or false u v l (λ i lt. same_from_decides {P = In v i} (has u i) (has v i) (to i, from i) (λ e. e, λ e. e))

-- blocks that say what a normal set over V says have the pages of v, where v has those of V
cover_is : (m : ℕ) (s : List (Option ℕ)) (v : List Bool) (T : ℕ → ℕ → Type 0) (V : ℕ → Type 0) → IsNormal m T V →
    ((h k : ℕ) → Starts s h k → T h k) → ((h k : ℕ) → T h k → Starts s h k) → length s ≡ length v → ((i : ℕ) → V i → i < length v) →
    ((i : ℕ) → i < length v → Decides (has v i) (V i)) → (IsNormal m (Starts s) (In (cover s))) × (cover s ≡ v)
cover_is m s v T V z to from len below d =
    let c = normal_cover m s T V z to from (λ i x. rw len (below i x)) in
    (c.0, same_pages (cover s) v (length-cover s ∙ len) (λ i e. let x = c.1 i e in (d i (below i x)).1 x) (λ i e. c.2 i ((d i (has_below v i e)).0 e)))

-- the pages left after a split
pub cover-split : (m : ℕ) (s t : List (Option ℕ)) (h o k : ℕ) → IsNormal m (Starts s) (In (cover s)) → Starts s h o → k ≤ o → length t ≡ length s →
    ((g j : ℕ) → Starts t g j → AfterSplit (Starts s) h k o g j) → ((g j : ℕ) → AfterSplit (Starts s) h k o g j → Starts t g j) →
    (IsNormal m (Starts t) (In (cover t))) × (cover t ≡ without (cover s) h k)
cover-split m s t h o k z x le len to from =
    let l : length (cover s) ≡ length s = length-cover s in
    let n : length (without (cover s) h k) ≡ length (cover s) = length-without (cover s) h k in
    cover_is m t (without (cover s) h k) (AfterSplit (Starts s) h k o) (Outside (In (cover s)) h k) (split-normal m (Starts s) (In (cover s)) z h o k x le)
    to from (omega arith) (λ i v. omega (arith, has_below (cover s) i v.0)) (λ i lt. without-decides (cover s) h k i (omega arith))

pub length-with : (u : List Bool) (h k : ℕ) → length (with_run u h k) ≡ length u
unfolding with_run
length-with u h k = length-map-range_with_len (λ i. has u i || in_run h k i) 0 (length u)

pub has-with : (u : List Bool) (h k i : ℕ) → i < length u → has (with_run u h k) i ≡ (has u i || in_run h k i)
unfolding with_run
has-with u h k i lt = get_or-map-range_with_len (λ i. has u i || in_run h k i) 0 (length u) i i false lt (omega arith)

pub with-decides : (u : List Bool) (h k i : ℕ) → i < length u → Decides (has (with_run u h k) i) (Joined (In u) h k i)
with-decides u h k i lt = (
  λ e. elim (or_cases _ _ (sym (has-with u h k i lt) ∙ e)) [ inl a ↦ inl a | inr b ↦ inr (in_run-to h k i b) ],
  λ x. has-with u h k i lt ∙ elim x [ inl a ↦ rw a | inr r ↦ rw (in_run-from h k i r.0 r.1) (or-true (has u i)) ],
)

-- the pages after a join
pub cover-join : (m : ℕ) (s t : List (Option ℕ)) (h k b j : ℕ) → IsNormal m (Starts s) (In (cover s)) → h + 2 ^ k ≤ length s →
    IsGrown m (Starts s) (In (cover s)) h k b j → length t ≡ length s →
    ((g i : ℕ) → Starts t g i → AfterJoin (Starts s) b j g i) → ((g i : ℕ) → AfterJoin (Starts s) b j g i → Starts t g i) →
    (IsNormal m (Starts t) (In (cover t))) × (cover t ≡ with_run (cover s) h k)
cover-join m s t h k b j z le x len to from =
    let l : length (cover s) ≡ length s = length-cover s in
    let n : length (with_run (cover s) h k) ≡ length (cover s) = length-with (cover s) h k in
    cover_is m t (with_run (cover s) h k) (AfterJoin (Starts s) b j) (Joined (In (cover s)) h k) (join-normal m (Starts s) (In (cover s)) z h k b j x)
    to from (omega arith) (λ i v. elim v [ inl a ↦ omega (arith, has_below (cover s) i a) | inr r ↦ omega arith ]) (λ i lt. with-decides (cover s) h k i (omega arith))
