-- What the looks at the free lists and at the pageblocks find is what the choice of a block asks for.
use Rattle.std.proofs.Common.{ℕ, suc, zero, ◌+◌, ◌-◌, ◌/◌, ◌≡◌, ◌≢◌, ◌≤◌, ◌<◌, ◌==◌, inl, inr, refl, sym, ◌∙◌, ap, arith, Bool, true, false, leb, not, ◌||◌, ◌&&◌, List, [], ◌∷◌, ◌++◌, length, drop, take, reverse, get_or, get_or-take, drop-cons, Option, Some, None}
use Rattle.std.specs.List.{find, range_with_len, IsDistinct}
use Rattle.std.specs.Option.{option_or}
use Rattle.std.proofs.lemmas.Bool.{cases_Bool, cases_eq, eq-eqb, cases_lt, leb-true, le-leb, false≢true, both_ways}
use Rattle.std.proofs.lemmas.List.{get_or_past, length-take, reverse-append}
use Rattle.zp_model.specs.declared.migrate_type.MigrateType.{MigrateType}
use Rattle.zp_model.specs.declared.migrate_type.MigrateType.TheVariants.{Movable}
use Rattle.zp_model.specs.declared.pageblock_type.PageblockType.{PageblockType}
use Rattle.zp_model.specs.BlockSet.{Starts, first_of, orders_from}
use Rattle.zp_model.specs.MigrateType.{foreign, same_type}
use Rattle.zp_model.specs.PageblockType.{pageblock_type}
use Rattle.zp_model.specs.Rows.{front, list_at, stands_in}
use Rattle.zp_model.specs.Area.{Area, list_number, lists_count, free_list, kind_at, pageblock_pages, size_in}
use Rattle.zp_model.specs.Choose.{own, claim, borrow, least_movable_claim, claim_pages, is_claimable}
use Rattle.zp_model.specs.Frames.{Frames}
use Rattle.zp_model.proofs.Settles.{stands_cases, stands_later}
use Rattle.zp_area.specs.Blocks.{Blocks, block_set, free_list_of}
use Rattle.zp_area.specs.Claims.{is_half_free, IsInClaimable, IsLargestClaimable}
use Rattle.zp_area.specs.OneSet.{IsOneSet}
use Rattle.zp_area.proofs.Listing.{listed_starts, here_from}
use Rattle.zp_buddy.specs.Choices.{area_in, frames_in, front_of_order, half_free_of_order, claimable_of_order, IsFoundAs}
use Rattle.zp_buddy.specs.declared.choice.FreeBlock.{FreeBlock}
use Rattle.zp_buddy.proofs.Settled.{find_never}
use Rattle.zp_model.proofs.TypeNumbers.{list_number_below}

-- what is found where the last number comes first
first-append : {X Y : Type 0} → (f : X → Option Y) (xs ys : List X) → first_of f (xs ++ ys) ≡ option_or (first_of f xs) (first_of f ys)
first-append f [] ys = refl
first-append f (x ∷ xs) ys = rw (first-append f xs ys) (regroup (f x) (first_of f xs) (first_of f ys))
  where
    regroup : {Y : Type 0} → (a b c : Option Y) → option_or a (option_or b c) ≡ option_or (option_or a b) c
    regroup a b c = grind arith

back-suc : {Y : Type 0} → (f : ℕ → Option Y) (a n : ℕ) →
    first_of f (reverse (range_with_len a (suc n))) ≡ option_or (first_of f (reverse (range_with_len (a + 1) n))) (option_or (f a) None)
back-suc f a n = rw (reverse-append (a ∷ []) (range_with_len (a + 1) n)) (first-append f (reverse (range_with_len (a + 1) n)) (a ∷ []))

back_none : {Y : Type 0} → (f : ℕ → Option Y) (a n : ℕ) → ((i : ℕ) → a ≤ i → i < a + n → f i ≡ None) → first_of f (reverse (range_with_len a n)) ≡ None
back_none f a zero e = refl
back_none f a (suc n) e = rw (back-suc f a n, back_none f (a + 1) n (λ i p q. e i (omega arith) (omega arith)), e a (omega arith) (omega arith))

back_some : {Y : Type 0} → (f : ℕ → Option Y) (a n j : ℕ) (h : Y) → a ≤ j → j < a + n → f j ≡ Some h → ((i : ℕ) → j < i → i < a + n → f i ≡ None) →
    first_of f (reverse (range_with_len a n)) ≡ Some h
back_some f a zero j h p q e none = absurd (omega arith)
back_some f a (suc n) j h p q e none =
    elim (cases_eq a j) [
      | inl same ↦ rw (back-suc f a n, back_none f (a + 1) n (λ i x y. none i (omega arith) (omega arith)), same, e)
      | inr ne ↦ rw (back-suc f a n, back_some f (a + 1) n j h (omega arith) (omega arith) e (λ i x y. none i x (omega arith)))
    ]

-- a place from i on that answers, where it is the one at i
pub first_drop : {X Y : Type 0} → (f : X → Option Y) (xs : List X) (i : ℕ) (d : X) (y : Y) → i < length xs → f (get_or xs i d) ≡ Some y → first_of f (drop i xs) ≡ Some y
first_drop f xs i d y lt e = rw (drop-cons xs i d lt, e)

-- what is found stands on the list and passes, and where nothing is found nothing on it does
found_at : (p : ℕ → Bool) (xs : List ℕ) (h : ℕ) → find p xs ≡ Some h → (stands_in h xs ≡ true) × (p h ≡ true)
found_at p [] h e = cc
found_at p (x ∷ xs) h e =
    elim (cases_Bool (p x)) [
      | inl t ↦ let f : Some x ≡ Some h = rw t at e in let s : x ≡ h = cc in (rw (eq-eqb h x (sym s)), rw (← s) t)
      | inr n ↦ let r = found_at p xs h (rw n at e) in (stands_later h x xs r.0, r.1)
    ]

none_passes : (p : ℕ → Bool) (xs : List ℕ) (h : ℕ) → find p xs ≡ None → stands_in h xs ≡ true → p h ≡ true → ⊥
none_passes p [] h e on t = false≢true on
none_passes p (x ∷ xs) h e on t =
    elim (cases_Bool (p x)) [
      | inl u ↦ let f : Some x ≡ None = rw u at e in cc
      | inr n ↦ elim (stands_cases h x xs on) [ inl same ↦ both_ways (p h) (rw same n) t | inr later ↦ none_passes p xs h (rw n at e) later t ]
    ]

-- the free list of an order that blocks can have is a list of the area, and each one has no page twice
list_taken : (m : ℕ) (a : Blocks) (o : ℕ) (t : PageblockType) → o ≤ m → free_list_of m a o t ≡ list_at a.rows.lists (list_number o t)
list_taken m a o t le = get_or-take (lists_count m) a.rows.lists (list_number o t) [] (list_number_below m o t le)

pub taken_distinct : (m : ℕ) (a : Blocks) (o : ℕ) (t : PageblockType) → ((r : ℕ) → IsDistinct (λ x y. x == y) (list_at a.rows.lists r)) → IsDistinct (λ x y. x == y) (free_list_of m a o t)
unfolding IsDistinct
taken_distinct m a o t each =
    let r : ℕ = list_number o t in
    elim (cases_lt r (lists_count m)) [
      | inl lt ↦ rw (get_or-take (lists_count m) a.rows.lists r [] lt) (each r)
      | inr ge ↦ rw (get_or_past (take (lists_count m) a.rows.lists) r [] (omega (arith, length-take (lists_count m) a.rows.lists))) tt
    ]

-- what stands on a free list starts a block of the list's order
pub on_starts : (m : ℕ) (a : Blocks) (h o : ℕ) (t : PageblockType) → IsOneSet m a → stands_in h (free_list_of m a o t) ≡ true → Starts (block_set a) h o
on_starts m a h o t one on =
    elim (cases_lt m o) [
      | inl above ↦
          let past : length (take (lists_count m) a.rows.lists) ≤ list_number o t = omega (arith, length-take (lists_count m) a.rows.lists) in
          absurd (false≢true (rw (get_or_past (take (lists_count m) a.rows.lists) (list_number o t) [] past) at on))
      | inr le ↦ (listed_starts m a h o t one le (rw (list_taken m a o t le) at on)).0
    ]

-- in a pageblock of its type
pub on_typed : (m : ℕ) (a : Blocks) (h o : ℕ) (t : PageblockType) → IsOneSet m a → stands_in h (free_list_of m a o t) ≡ true → t ≡ kind_at m a.kinds h
on_typed m a h o t one on =
    elim (cases_lt m o) [
      | inl above ↦
          let past : length (take (lists_count m) a.rows.lists) ≤ list_number o t = omega (arith, length-take (lists_count m) a.rows.lists) in
          absurd (false≢true (rw (get_or_past (take (lists_count m) a.rows.lists) (list_number o t) [] past) at on))
      | inr le ↦ sym (listed_starts m a h o t one le (rw (list_taken m a o t le) at on)).1
    ]

pub list_of_frames : (m : ℕ) (a : Blocks) (f : Frames) (o : ℕ) (t : PageblockType) → frames_in m a ≡ f → free_list_of m a o t ≡ free_list f.area o t
list_of_frames m a f o t e = ap (λ (g : Frames). free_list g.area o t) e

pub own_fronts : (m : ℕ) (a : Blocks) (k : ℕ) (t : MigrateType) → first_of (λ o. front (free_list_of m a o (pageblock_type t))) (orders_from m k) ≡ own (area_in m a) k t
unfolding own
own_fronts m a k t = refl

pub borrow_fronts : (m : ℕ) (a : Blocks) (k : ℕ) (t : MigrateType) → first_of (front_of_order m a (foreign t)) (orders_from m k) ≡ borrow (area_in m a) k t
unfolding borrow
borrow_fronts m a k t = refl

-- what is first among the foreign types is of another type than the request's, and where there is none, there is none of any other type
found_foreign : (t : MigrateType) (g : MigrateType → Option ℕ) (h : ℕ) → first_of g (foreign t) ≡ Some h → (f : MigrateType) × (f ≢ t) × (g f ≡ Some h)
found_foreign t g h e = grind arith

none_foreign : (t : MigrateType) (g : MigrateType → Option ℕ) → first_of g (foreign t) ≡ None → (f : MigrateType) → f ≢ t → g f ≡ None
none_foreign t g e f ne = grind arith

-- where a claim by a block of this order is possible at all, the free pages of its pageblock decide
claim_half_free : (m : ℕ) (a : Blocks) (t : MigrateType) (o : ℕ) →
    (leb (least_movable_claim m) o || not (same_type t Movable)) ≡ true → half_free_of_order m a (foreign t) o ≡ claimable_of_order (area_in m a) t o
claim_half_free m a t o may =
    ap (λ (p : ℕ → Bool). first_of (λ f. find p (free_list_of m a o (pageblock_type f))) (foreign t)) (λ i h. sym may i && is_half_free m a h)

-- and where it is not, none may be claimed
claim_never : (a : Area) (t : MigrateType) (o : ℕ) → (leb (least_movable_claim a.largest) o || not (same_type t Movable)) ≡ false → claimable_of_order a t o ≡ None
claim_never a t o may =
    never (λ f. find (is_claimable a t o) (free_list a o (pageblock_type f))) (foreign t)
    (λ f. find_never (is_claimable a t o) (free_list a o (pageblock_type f)) (λ h. ap (λ b. b && leb (claim_pages a.largest) (size_in a.largest a.free (h / pageblock_pages a.largest))) may))
  where
    never : {X Y : Type 0} → (f : X → Option Y) (xs : List X) → ((x : X) → f x ≡ None) → first_of f xs ≡ None
    never f [] e = refl
    never f (x ∷ xs) e = rw (e x) (never f xs e)

-- no block may be claimed where none of any order may
claim_none : (a : Area) (k : ℕ) (t : MigrateType) → ((o : ℕ) → k ≤ o → o ≤ a.largest → claimable_of_order a t o ≡ None) → claim a k t ≡ None
unfolding claim
claim_none a k t none = back_none (claimable_of_order a t) k (a.largest + 1 - k) (λ o p q. none o p (omega arith))

module _ (m : ℕ) (a : Blocks) (t : MigrateType) (one : IsOneSet m a) where
  -- a block on a foreign list in whose pageblock half of the pages are free
  half_free_in : (o h : ℕ) → o ≤ m → half_free_of_order m a (foreign t) o ≡ Some h → IsInClaimable m a t h o
  half_free_in o h le e =
      let w = found_foreign t (λ f. find (is_half_free m a) (free_list_of m a o (pageblock_type f))) h e in
      let found = found_at (is_half_free m a) (free_list_of m a o (pageblock_type w.0)) h w.2 in
      let here = listed_starts m a h o (pageblock_type w.0) one le (rw (list_taken m a o (pageblock_type w.0) le) at found.0) in
      record { starts = here.0; other = (w.0, here.1, w.1); enough = found.1 }

  half_free_none : (o h : ℕ) → o ≤ m → half_free_of_order m a (foreign t) o ≡ None → IsInClaimable m a t h o → ⊥
  half_free_none o h le e y =
      let f : PageblockType = pageblock_type y.other.0 in
      let on = (one.listed (list_number o (kind_at m a.kinds h)) (list_number_below m o (kind_at m a.kinds h) le)).from h (here_from m (block_set a) a.kinds (list_number o (kind_at m a.kinds h)) h o refl y.starts) in
      none_passes (is_half_free m a) (free_list_of m a o f) h (none_foreign t (λ g. find (is_half_free m a) (free_list_of m a o (pageblock_type g))) e y.other.0 y.other.2)
      (rw (list_taken m a o f le) (rw y.other.1 at on)) y.enough

  -- no block of this order may be claimed where none is in a pageblock that may be
  order_unclaimed : (o : ℕ) → o ≤ m → ((h : ℕ) → IsInClaimable m a t h o → ⊥) → claimable_of_order (area_in m a) t o ≡ None
  order_unclaimed o le none =
      elim (cases_Bool (leb (least_movable_claim m) o || not (same_type t Movable))) [
        | inl may ↦ sym (claim_half_free m a t o may) ∙ by_find (half_free_of_order m a (foreign t) o) refl
        | inr never ↦ claim_never (area_in m a) t o never
      ]
    where
      by_find : (r : Option ℕ) → half_free_of_order m a (foreign t) o ≡ r → r ≡ None
      by_find None e = refl
      by_find (Some h) e = absurd (none h (half_free_in o h le e))

  pub nothing_claimed : (k : ℕ) → IsLargestClaimable m a t None → claim (area_in m a) k t ≡ None
  nothing_claimed k none = claim_none (area_in m a) k t (λ o p q. order_unclaimed o q (λ h. none h o))

  -- the largest order is less than the one asked for
  pub too_small : (k n : ℕ) → IsLargestClaimable m a t (Some n) → n < k → claim (area_in m a) k t ≡ None
  too_small k n y lt = claim_none (area_in m a) k t (λ o p q. order_unclaimed o q (λ h z. omega (arith, y.1 h o z)))

  -- no block of the largest order, and so none of a smaller one, may be claimed for this type at all
  pub may_not : (k n : ℕ) → IsLargestClaimable m a t (Some n) → (leb (least_movable_claim m) n || not (same_type t Movable)) ≡ false → claim (area_in m a) k t ≡ None
  may_not k n y never =
      claim_none (area_in m a) k t (λ o p q. elim (cases_lt n o) [
        | inl lt ↦ order_unclaimed o q (λ h z. omega (arith, y.1 h o z))
        | inr ge ↦ claim_never (area_in m a) t o (smaller (leb (least_movable_claim m) o) (leb (least_movable_claim m) n) _ (λ e. le-leb (least_movable_claim m) n (omega (arith, leb-true (least_movable_claim m) o e))) never)
      ])
    where
      smaller : (p q r : Bool) → (p ≡ true → q ≡ true) → (q || r) ≡ false → (p || r) ≡ false
      smaller p q r f e = grind arith

  -- the first block of the largest order that may be claimed is the one that is claimed
  claimed_largest : (k n : ℕ) (r : Option ℕ) → IsLargestClaimable m a t (Some n) → k ≤ n →
      (leb (least_movable_claim m) n || not (same_type t Movable)) ≡ true → half_free_of_order m a (foreign t) n ≡ r → claim (area_in m a) k t ≡ r
  unfolding claim
  claimed_largest k n None y up may e = absurd (half_free_none n y.0.0 (one.blocks.block _ _ y.0.1.starts).order e y.0.1)
  claimed_largest k n (Some h) y up may e =
      let le : n ≤ m = (one.blocks.block _ _ y.0.1.starts).order in
      back_some (claimable_of_order (area_in m a) t) k (m + 1 - k) n h up (omega arith) (sym (claim_half_free m a t n may) ∙ e)
      (λ o p q. order_unclaimed o (omega arith) (λ g z. omega (arith, y.1 g o z)))

  pub claimed_found : (k n : ℕ) (r : Option FreeBlock) → IsLargestClaimable m a t (Some n) → k ≤ n →
      (leb (least_movable_claim m) n || not (same_type t Movable)) ≡ true → IsFoundAs a n (half_free_of_order m a (foreign t) n) r → IsFoundAs a k (claim (area_in m a) k t) r
  claimed_found k n None y up may e = claimed_largest k n None y up may e
  claimed_found k n (Some b) y up may e = (claimed_largest k n (Some b.head) y up may e.0, record { enough = omega (arith, e.1.enough); starts = e.1.starts; typed = e.1.typed })

-- the list of one type alone
pub own_front : (m : ℕ) (a : Blocks) (k : ℕ) (t : MigrateType) → first_of (front_of_order m a (t ∷ [])) (orders_from m k) ≡ own (area_in m a) k t
unfolding own
own_front m a k t = alike (front_of_order m a (t ∷ [])) (λ o. front (free_list_of m a o (pageblock_type t))) (λ o. single (front (free_list_of m a o (pageblock_type t)))) (orders_from m k)
  where
    single : {X : Type 0} → (x : Option X) → option_or x None ≡ x
    single None = refl
    single (Some x) = refl

    alike : {X Y : Type 0} → (f g : X → Option Y) → ((x : X) → f x ≡ g x) → (xs : List X) → first_of f xs ≡ first_of g xs
    alike f g e [] = refl
    alike f g e (x ∷ xs) = rw (e x, alike f g e xs) refl
