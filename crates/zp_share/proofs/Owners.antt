-- Sums over blocks out, worker by worker: with the shares of all its workers each page of a zone is free, posted, on one list, or in one lent block.
use Rattle.std.specs.List.{range_with_len, sum_by, count_by, IsDistinct}
use Rattle.std.proofs.Common.{ℕ, ◌+◌, ◌*◌, ◌≡◌, ◌<◌, ◌==◌, refl, sym, ◌∙◌, ap, arith, Bool, List, [], ◌∷◌, length, map, get_or, cond, Option, Some, None, All, ◌-◌, ◌≤◌, ◌⊎◌, inl, inr, true, false, ◌||◌}
use Rattle.std.proofs.lemmas.Bool.Decides.{nat_tests}
use Rattle.std.proofs.lemmas.List.Sums.{sum_by-cons}
use Rattle.std.proofs.lemmas.List.FromFn.{fill_by_all}
use Rattle.std.proofs.Math.ListN.{get_or-map}
use Rattle.std.proofs.lemmas.Bool.{cases_eq, eq-eqb, eqb-true, ne_eqb}
use Rattle.std.proofs.lemmas.List.{length-map}
use Rattle.zp_model.specs.Zone.{Holding, holding_at, PlainZone, held_pages, out_pages, workers_of}
use Rattle.zp_model.specs.Books.{only, own}
use Rattle.zp_model.specs.MigrateType.{types_count}
use Rattle.zp_model.specs.Rows.{list_at, stands_in}
use Rattle.zp_model.specs.Block.{in_run}
use Rattle.zp_model.specs.Lawful.{holding_has, times_out, IsLawful}
use Rattle.zp_model.proofs.Settles.{distinct_first, distinct_rest, stands_first, stands_later}
use Rattle.zp_laws.proofs.AddingUp.{pages_add_up}
use Rattle.zp_laws.proofs.Counting.{one_if, count-run, sums_within, sums_equal, sums_together, zeros, exchanged}
use Rattle.zp_laws.proofs.HandedOut.{times-parts}
use Rattle.zp_share.specs.PlainShares.{PlainZoneShare}
use Rattle.zp_share.specs.declared.page_use.PageUse.{PageUse}
use Rattle.zp_share.specs.declared.page_use.PageUse.TheVariants.{Away, Lent, Cached}
use Rattle.zp_share.specs.PageUses.{held, is_cached_as, use_at, use_of}
use Rattle.zp_share.specs.Gathering.{AddsUp, cached_pages, lent_has, lent_pages, lent_size, times_cached, times_lent}
use Rattle.zp_share.proofs.OneUse.{IsIn}
use Rattle.zp_share.proofs.Listing.{IsListing, standing_in}

-- the sum over a list that is made from another
pub sum-map : {X : Type 0} {Y : Type 0} (g : Y → ℕ) (f : X → Y) (xs : List X) → sum_by g (map f xs) ≡ sum_by (λ x. g (f x)) xs
sum-map g f [] = refl
sum-map g f (x ∷ xs) = omega (arith, sum_by-cons g (f x) (map f xs), sum_by-cons (λ y. g (f y)) x xs, sum-map g f xs)

-- the sum over a list is that over its places
pub by_places : {X : Type 0} (f : X → ℕ) (xs : List X) (d : X) → sum_by f xs ≡ sum_by (λ i. f (get_or xs i d)) (range_with_len 0 (length xs))
by_places f xs d =
    ap (λ l. sum_by f l) (fill_by_all (λ i. get_or xs i d) xs (length xs) d refl (λ i lt. refl))
    ∙ sum-map f (λ i. get_or xs i d) (range_with_len 0 (length xs))

-- the sum of a weight over those who pass is the weight as often as they are
pub weighed : {X : Type 0} (p : X → Bool) (v : ℕ) (xs : List X) → sum_by (λ x. cond (p x) v 0) xs ≡ count_by p xs * v
weighed p v [] = omega arith
weighed p v (x ∷ xs) =
    let b = sum_by-cons (λ y. cond (p y) 1 0) x xs in
    omega (arith, sum_by-cons (λ y. cond (p y) v 0) x xs, b, weighed p v xs, one (p x) v, ap (λ n. n * v) b)
  where
    one : (b : Bool) (v : ℕ) → cond b v 0 ≡ cond b 1 0 * v
    one b v = grind arith

-- what weighs nothing where nothing is out
abbrev pub IsWeight : (ℕ → Option Holding → ℕ) → Type 0
IsWeight f = (h : ℕ) → f h None ≡ 0

-- each worker below n has exactly one of the shares
abbrev pub AreCrew : List PlainZoneShare → ℕ → Type 0
AreCrew ss n = (w : ℕ) → w < n → count_by (λ (s : PlainZoneShare). s.worker == w) ss ≡ 1

-- one holding weighs what it weighs with its worker
one_owner : (f : ℕ → Option Holding → ℕ) (h n : ℕ) (ss : List PlainZoneShare) (o : Option Holding) → IsWeight f → AreCrew ss n → ((x : Holding) → o ≡ Some x → x.worker < n) →
    sum_by (λ (s : PlainZoneShare). f h (only s.worker o)) ss ≡ f h o
one_owner f h n ss None z crew below = sums_equal (λ (s : PlainZoneShare). f h None) (λ s. 0) ss (λ s. z h) ∙ zeros ss ∙ sym (z h)
one_owner f h n ss (Some x) z crew below =
    let v = f h (Some x) in
    let each : (s : PlainZoneShare) → f h (cond (x.worker == s.worker) (Some x) None) ≡ cond (s.worker == x.worker) v 0 = λ s. grind (arith, nat_tests, z h) in
    sums_equal (λ (s : PlainZoneShare). f h (cond (x.worker == s.worker) (Some x) None)) (λ s. cond (s.worker == x.worker) v 0) ss each
    ∙ weighed (λ (s : PlainZoneShare). s.worker == x.worker) v ss
    ∙ omega (arith, ap (λ c. c * v) (crew x.worker (below x refl)))

-- what is out weighs what it weighs with the workers, each by its own
pub by_owners : (f : ℕ → Option Holding → ℕ) (n : ℕ) (ss : List PlainZoneShare) (out : List (Option Holding)) → IsWeight f → AreCrew ss n →
    ((h : ℕ) (x : Holding) → holding_at out h ≡ Some x → x.worker < n) →
    sum_by (λ h. f h (holding_at out h)) (range_with_len 0 (length out))
    ≡ sum_by (λ (s : PlainZoneShare). sum_by (λ h. f h (only s.worker (holding_at out h))) (range_with_len 0 (length out))) ss
by_owners f n ss out z crew below =
    sym (sums_equal (λ h. sum_by (λ (s : PlainZoneShare). f h (only s.worker (holding_at out h))) ss) (λ h. f h (holding_at out h)) (range_with_len 0 (length out))
    (λ h. one_owner f h n ss (holding_at out h) z crew (below h)))
    ∙ exchanged (λ (s : PlainZoneShare) h. f h (only s.worker (holding_at out h))) ss (range_with_len 0 (length out))

-- what a page weighs among the cached ones
abbrev pub cached_weight : ℕ → PageUse → ℕ
cached_weight v Away = 0
cached_weight v (Lent k t) = 0
cached_weight v (Cached t) = v

-- one number of a range is the place of a page in it
one_place : (base p n : ℕ) (g : ℕ → ℕ) → base ≤ p → p < base + n → sum_by (λ h. cond (base + h == p) (g (base + h)) 0) (range_with_len 0 n) ≡ g p
one_place base p n g lo hi =
    let yes : (i : ℕ) → p - base ≤ i → i < p - base + 1 → (base + i == p) ≡ true = λ i a b. eq-eqb (base + i) p (omega arith) in
    let no : (i : ℕ) → (i < p - base) ⊎ (p - base + 1 ≤ i) → (base + i == p) ≡ false = λ i a. ne_eqb (base + i) p (λ e. omega arith) in
    let once : count_by (λ h. base + h == p) (range_with_len 0 n) ≡ 1 = omega (arith, count-run (λ h. base + h == p) (p - base) 1 0 n yes no) in
    sums_equal (λ h. cond (base + h == p) (g (base + h)) 0) (λ h. cond (base + h == p) (g p) 0) (range_with_len 0 n)
    (λ h. elim (cases_eq (base + h) p) [ inl e ↦ ap (λ k. cond (base + h == p) (g k) 0) e | inr ne ↦ rw (ne_eqb (base + h) p ne) refl ])
    ∙ weighed (λ h. base + h == p) (g p) (range_with_len 0 n)
    ∙ omega (arith, ap (λ c. c * g p) once)

-- a list of distinct pages weighs what those of a zone weigh that stand on it
listed : (base n : ℕ) (g : ℕ → ℕ) (xs : List ℕ) → IsDistinct (λ x y. x == y) xs → ((q : ℕ) → stands_in q xs ≡ true → (base ≤ q) × (q < base + n)) →
    sum_by g xs ≡ sum_by (λ h. cond (stands_in (base + h) xs) (g (base + h)) 0) (range_with_len 0 n)
listed base n g [] d i = sym (zeros (range_with_len 0 n))
listed base n g (x ∷ xs) d i =
    let at = i x (stands_first x xs) in
    let c = sums_together (λ h. cond (base + h == x) (g (base + h)) 0) (λ h. cond (stands_in (base + h) xs) (g (base + h)) 0) (range_with_len 0 n) in
    let e = sums_equal (λ h. cond (stands_in (base + h) (x ∷ xs)) (g (base + h)) 0) (λ h. cond (base + h == x) (g (base + h)) 0 + cond (stands_in (base + h) xs) (g (base + h)) 0) (range_with_len 0 n)
    (λ h. either (base + h == x) (stands_in (base + h) xs) (g (base + h)) (λ s t. distinct_first x xs d (ap (λ p. stands_in p xs) (sym (eqb-true (base + h) x s)) ∙ t))) in
    omega (arith, sum_by-cons g x xs, listed base n g xs (distinct_rest x xs d) (λ q e. i q (stands_later q x xs e)), one_place base x n g at.0 at.1, c, e)
  where
    either : (a b : Bool) (v : ℕ) → (a ≡ true → b ≡ true → ⊥) → cond (a || b) v 0 ≡ cond a v 0 + cond b v 0
    either a b v f = grind arith

-- a page stands on the list of its type alone
on_one : (v : ℕ) (u : PageUse) → sum_by (λ r. cond (is_cached_as r u) v 0) (range_with_len 0 types_count) ≡ cached_weight v u
on_one v u = grind arith

use_from : (base h : ℕ) (us : List PageUse) → use_of base us (base + h) ≡ use_at us h
use_from base h us = grind (arith, nat_tests)

-- the lists together weigh what the cached pages weigh
all_listed : (base : ℕ) (g : ℕ → ℕ) (us : List PageUse) (ls : List (List ℕ)) → IsListing base us ls →
    sum_by (λ l. sum_by g l) ls ≡ sum_by (λ h. cached_weight (g (base + h)) (use_at us h)) (range_with_len 0 (length us))
all_listed base g us ls x =
    by_places (λ l. sum_by g l) ls []
    ∙ sums_equal (λ r. sum_by g (list_at ls r)) (λ r. sum_by (λ h. cond (stands_in (base + h) (list_at ls r)) (g (base + h)) 0) (range_with_len 0 (length us))) (range_with_len 0 (length ls))
    (λ r. listed base (length us) g (list_at ls r) (x.distinct r) (λ q e. let i : IsIn base us q = standing_in base r q us ls x e in (i.from, omega (arith, i.from, i.below))))
    ∙ exchanged (λ h r. cond (stands_in (base + h) (list_at ls r)) (g (base + h)) 0) (range_with_len 0 (length us)) (range_with_len 0 (length ls))
    ∙ sums_equal (λ h. sum_by (λ r. cond (stands_in (base + h) (list_at ls r)) (g (base + h)) 0) (range_with_len 0 (length ls))) (λ h. cached_weight (g (base + h)) (use_at us h)) (range_with_len 0 (length us))
    (λ h. sums_equal (λ r. cond (stands_in (base + h) (list_at ls r)) (g (base + h)) 0) (λ r. cond (is_cached_as r (use_at us h)) (g (base + h)) 0) (range_with_len 0 (length ls))
    (λ r. ap (λ b. cond b (g (base + h)) 0) (x.cached r (base + h) ∙ ap (is_cached_as r) (use_from base h us)))
    ∙ ap (λ n. sum_by (λ r. cond (is_cached_as r (use_at us h)) (g (base + h)) 0) (range_with_len 0 n)) x.lists
    ∙ on_one (g (base + h)) (use_at us h))

-- what is out in the worker's name is what the share has, on its lists and lent
pub record IsOwnIn (out : List (Option Holding)) (s : PlainZoneShare) : Type 0 where
  pub blocks : own s.worker out ≡ map (held s.worker) s.uses
  pub listing : IsListing s.base s.uses s.cached

held_there : (out : List (Option Holding)) (s : PlainZoneShare) (h : ℕ) → IsOwnIn out s → only s.worker (holding_at out h) ≡ held s.worker (use_at s.uses h)
held_there out s h x =
    sym (get_or-map (only s.worker) out h None) ∙ ap (λ l. holding_at l h) x.blocks ∙ get_or-map (held s.worker) s.uses h Away

as_many : (out : List (Option Holding)) (s : PlainZoneShare) → IsOwnIn out s → length out ≡ length s.uses
as_many out s x = sym (length-map out (only s.worker)) ∙ ap length x.blocks ∙ length-map s.uses (held s.worker)

-- a weight of blocks out splits into those of lent blocks and of pages on the lists
abbrev Splits : (ℕ → Option Holding → ℕ) → (ℕ → PageUse → ℕ) → (PlainZoneShare → ℕ → ℕ) → Type 0
Splits f lent g = (s : PlainZoneShare) (h : ℕ) (u : PageUse) → f h (held s.worker u) ≡ lent h u + cached_weight (g s (s.base + h)) u

own_parts : (f : ℕ → Option Holding → ℕ) (lent : ℕ → PageUse → ℕ) (g : PlainZoneShare → ℕ → ℕ) (out : List (Option Holding)) (s : PlainZoneShare) → Splits f lent g → IsOwnIn out s →
    sum_by (λ h. f h (only s.worker (holding_at out h))) (range_with_len 0 (length out))
    ≡ sum_by (λ h. lent h (use_at s.uses h)) (range_with_len 0 (length s.uses)) + sum_by (λ l. sum_by (g s) l) s.cached
own_parts f lent g out s splits x =
    let places = range_with_len 0 (length s.uses) in
    let cached : ℕ → ℕ = λ h. cached_weight (g s (s.base + h)) (use_at s.uses h) in
    sums_equal (λ h. f h (only s.worker (holding_at out h))) (λ h. lent h (use_at s.uses h) + cached_weight (g s (s.base + h)) (use_at s.uses h)) (range_with_len 0 (length out))
    (λ h. ap (f h) (held_there out s h x) ∙ splits s h (use_at s.uses h))
    ∙ ap (λ n. sum_by (λ h. lent h (use_at s.uses h) + cached_weight (g s (s.base + h)) (use_at s.uses h)) (range_with_len 0 n)) (as_many out s x)
    ∙ sums_together (λ h. lent h (use_at s.uses h)) cached places
    ∙ ap (λ n. sum_by (λ h. lent h (use_at s.uses h)) places + n) (sym (all_listed s.base (g s) s.uses s.cached x.listing))

-- and so it does over all shares of a zone's workers
crew_parts : (f : ℕ → Option Holding → ℕ) (lent : ℕ → PageUse → ℕ) (g : PlainZoneShare → ℕ → ℕ) (z : PlainZone) (ss : List PlainZoneShare) → IsWeight f → Splits f lent g →
    IsLawful z → AreCrew ss (workers_of z) → All (IsOwnIn z.out) ss →
    sum_by (λ h. f h (holding_at z.out h)) (range_with_len 0 (length z.out))
    ≡ sum_by (λ (s : PlainZoneShare). sum_by (λ h. lent h (use_at s.uses h)) (range_with_len 0 (length s.uses))) ss + sum_by (λ (s : PlainZoneShare). sum_by (λ l. sum_by (g s) l) s.cached) ss
crew_parts f lent g z ss none splits lawful crew owns =
    let lent_part : PlainZoneShare → ℕ = λ s. sum_by (λ h. lent h (use_at s.uses h)) (range_with_len 0 (length s.uses)) in
    let cached_part : PlainZoneShare → ℕ = λ s. sum_by (λ l. sum_by (g s) l) s.cached in
    by_owners f (workers_of z) ss z.out none crew (λ h x e. (lawful.out h x e).1)
    ∙ sums_within (λ (s : PlainZoneShare). sum_by (λ h. f h (only s.worker (holding_at z.out h))) (range_with_len 0 (length z.out))) (λ s. lent_part s + cached_part s) ss
    (λ k d lt. own_parts f lent g z.out (get_or ss k d) splits (owns k d lt))
    ∙ sums_together lent_part cached_part ss

splits-pages : Splits (λ h o. held_pages o) (λ h u. lent_size u) (λ s p. 1)
splits-pages s h u = grind arith

ones : (xs : List ℕ) → sum_by (λ p. 1) xs ≡ length xs
ones [] = refl
ones (x ∷ xs) = omega (arith, sum_by-cons (λ (p : ℕ). 1) x xs, ones xs)

-- the pages out are on the shares' lists and in their lent blocks
crew-pages : (z : PlainZone) (ss : List PlainZoneShare) → IsLawful z → AreCrew ss (workers_of z) → All (IsOwnIn z.out) ss → out_pages z ≡ sum_by lent_pages ss + sum_by cached_pages ss
unfolding out_pages
crew-pages z ss lawful crew owns =
    let a = crew_parts (λ h o. held_pages o) (λ h u. lent_size u) (λ s p. 1) z ss (λ h. refl) splits-pages lawful crew owns in
    let b = by_places held_pages z.out None in
    let c = sums_equal lent_pages (λ (s : PlainZoneShare). sum_by (λ h. lent_size (use_at s.uses h)) (range_with_len 0 (length s.uses))) ss (λ s. by_places lent_size s.uses Away) in
    let d = sums_equal (λ (s : PlainZoneShare). sum_by (λ l. sum_by (λ p. 1) l) s.cached) cached_pages ss (λ s. sums_equal (λ l. sum_by (λ p. 1) l) length s.cached ones) in
    omega (arith, a, b, c, d)

-- a page lies in one of its own alone
alone : (base h i : ℕ) → one_if (in_run h 0 i) ≡ one_if (base + h == base + i)
alone base h i = grind (arith, nat_tests)

splits-page : (i : ℕ) → Splits (λ h o. one_if (holding_has h i o)) (λ h u. one_if (lent_has h i u)) (λ s p. one_if (p == s.base + i))
splits-page i s h u = grind (arith, alone s.base h i)

-- a page that is out is on one list or in one lent block as often as it is out
crew-page : (z : PlainZone) (ss : List PlainZoneShare) (i : ℕ) → IsLawful z → AreCrew ss (workers_of z) → All (IsOwnIn z.out) ss →
    times_out z.out i ≡ sum_by (λ s. times_lent s i) ss + sum_by (λ s. times_cached s i) ss
unfolding times_out
crew-page z ss i lawful crew owns =
    crew_parts (λ h o. one_if (holding_has h i o)) (λ h u. one_if (lent_has h i u)) (λ s p. one_if (p == s.base + i)) z ss (λ h. refl) (splits-page i) lawful crew owns

pub adds_up : (z : PlainZone) (ss : List PlainZoneShare) → IsLawful z → AreCrew ss (workers_of z) → All (IsOwnIn z.out) ss → AddsUp z ss
adds_up z ss lawful crew owns = record {
  once = λ i lt. omega (arith, crew-page z ss i lawful crew owns, times-parts z i, lawful.once i lt);
  sum = omega (arith, crew-pages z ss lawful crew owns, pages_add_up z lawful);
}
