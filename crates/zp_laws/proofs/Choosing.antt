-- What choosing gives: the head of a free block that is large enough.
use Rattle.std.proofs.Common.{ℕ, suc, ◌+◌, ◌-◌, ◌/◌, ◌%◌, ◌^◌, ◌≡◌, ◌≤◌, ◌<◌, ◌⊎◌, inl, inr, refl, sym, ◌∙◌, ap, arith, Bool, true, false, List, [], ◌∷◌, length, map, reverse, get_or, Option, Some, None, cond, leb}
use Rattle.std.specs.List.{All, find, range_with_len}
use Rattle.std.specs.Option.{option_or, option_map}
use Rattle.std.proofs.Math.Nat.{pow-le-pow_right}
use Rattle.std.proofs.lemmas.Nat.{pow_pos}
use Rattle.std.proofs.lemmas.Bool.{cases_lt, cases_Bool, and_parts, leb-true, eqb-true}
use Rattle.std.proofs.lemmas.Option.{none-some, same_Some}
use Rattle.std.proofs.lemmas.List.{get_or-reverse, length-reverse, get_or_past}
use Rattle.std.proofs.lemmas.List.FromFn.{get_or-range_with_len, length-range_with_len, get_or-map-range_with_len, length-map-range_with_len}
use Rattle.zp_model.specs.declared.migrate_type.MigrateType.{MigrateType}
use Rattle.zp_model.specs.declared.migrate_type.MigrateType.TheVariants.{Unmovable, Reclaimable, Movable}
use Rattle.zp_model.specs.declared.pageblock_type.PageblockType.{PageblockType}
use Rattle.zp_model.specs.MigrateType.{foreign}
use Rattle.zp_model.specs.PageblockType.{pageblock_types, pageblock_type, pageblock_type_number, is_isolate}
use Rattle.zp_model.specs.Block.{is_max, IsBlock}
use Rattle.zp_model.specs.BlockSet.{first_of, orders_from, max_blocks, lowest, block_if}
use Rattle.zp_model.specs.Rows.{stands_in, front}
use Rattle.zp_model.specs.Area.{Area, belongs, free_list, list_number, kind_at, is_isolated, available_blocks}
use Rattle.zp_model.specs.Choose.{Chosen, chosen_at, own, claim, borrow, choose, is_claimable}
use Rattle.zp_model.specs.Take.{blocks_at_hand, take_low_answer}
use Rattle.zp_model.specs.Lawful.{IsListedArea}
use Rattle.zp_model.proofs.Heads.{aligned_down}
use Rattle.zp_model.proofs.Normal.{Filled}
use Rattle.zp_model.proofs.Pages.{In, is_max-to}
use Rattle.zp_model.proofs.Covers.{has_below}
use Rattle.zp_model.proofs.RowLists.{front_stands}
use Rattle.zp_model.proofs.TypeNumbers.{number_below, number_one, list_number_below}
use Rattle.zp_laws.specs.Found.{IsFound}
use Rattle.zp_model.proofs.FirstFound.{find-passes}
pub use Rattle.zp_model.proofs.MaximalBlocks.{max_blocks-to}

or_Some : {Y : Type 0} (o p : Option Y) (y : Y) → option_or o p ≡ Some y → (o ≡ Some y) ⊎ (p ≡ Some y)
or_Some None p y e = inr e
or_Some (Some x) p y e = inl e

pub or_None : (o : Option ℕ) → option_or o None ≡ o
or_None None = refl
or_None (Some y) = refl

-- nothing, whether it is left out or not
pub none_either : (b : Bool) (o : Option ℕ) → o ≡ None → cond b None o ≡ None
none_either true o e = refl
none_either false o e = e

-- the first answer is given by some place
first_of-gives : {X Y : Type 0} (at : X → Option Y) (xs : List X) (d : X) (y : Y) → first_of at xs ≡ Some y → (i : ℕ) × (i < length xs) × (at (get_or xs i d) ≡ Some y)
first_of-gives at [] d y e = absurd (none-some y e)
first_of-gives at (x ∷ xs) d y e =
    elim (or_Some (at x) (first_of at xs) y e) [
      | inl here ↦ (0, omega arith, here)
      | inr later ↦ let r = first_of-gives at xs d y later in (suc r.0, omega (arith, r.1), r.2)
    ]

-- the orders from k on are from k on, and none is above the largest
orders_within : (m k : ℕ) → All (λ o. (k ≤ o) × (o ≤ m)) (orders_from m k)
orders_within m k i d lt =
    let n : length (orders_from m k) ≡ m + 1 - k = length-range_with_len k (m + 1 - k) in
    rw (get_or-range_with_len k (m + 1 - k) i d (omega arith)) (omega arith)

orders_back : (m k : ℕ) → All (λ o. (k ≤ o) × (o ≤ m)) (reverse (orders_from m k))
orders_back m k i d lt =
    let n : length (reverse (orders_from m k)) ≡ length (orders_from m k) = length-reverse (orders_from m k) in
    rw (get_or-reverse (orders_from m k) i d (omega arith)) (orders_within m k (length (orders_from m k) - 1 - i) d (omega arith))

pub list_order : (o : ℕ) (t : PageblockType) → list_number o t / pageblock_types ≡ o
list_order o t = omega (arith, number_below t)

pub list_type : (o : ℕ) (t : PageblockType) → list_number o t % pageblock_types ≡ pageblock_type_number t
list_type o t = omega (arith, number_below t)

-- no request's type is that of isolated pageblocks
pub asked-not_isolate : (t : MigrateType) → is_isolate (pageblock_type t) ≡ false
asked-not_isolate Unmovable = refl
asked-not_isolate Reclaimable = refl
asked-not_isolate Movable = refl

-- at page h starts a free block of order k or more, outside isolated pageblocks
abbrev pub IsAtHand : Area → ℕ → ℕ → Type 0
IsAtHand a k h = IsFound a.largest a.free k h × (is_isolated a.largest a.kinds h ≡ false)

module _ (a : Area) (l : IsListedArea a) (k : ℕ) where
  -- what stands on a free list that requests read is a free block of its order
  listed_found : (o h : ℕ) (f : MigrateType) → (k ≤ o) × (o ≤ a.largest) → stands_in h (free_list a o (pageblock_type f)) ≡ true → IsAtHand a k h
  unfolding belongs
  listed_found o h f within e =
      let t : PageblockType = pageblock_type f in
      let b : belongs a.largest a.free a.kinds (list_number o t) h ≡ true = sym (l.held (list_number o t) h (list_number_below a.largest o t within.1)) ∙ e in
      let p = and_parts _ _ b in
      let m : is_max a.largest a.free h (list_number o t / pageblock_types) ≡ true = p.0 in
      let s : kind_at a.largest a.kinds h ≡ t = number_one (kind_at a.largest a.kinds h) t (eqb-true _ _ p.1 ∙ list_type o t) in
      (record { order = o; enough = within.0; maximal = rw (list_order o t) at m }, rw s (asked-not_isolate f))

  module _ (t : MigrateType) (h : ℕ) where
    own_found : own a k t ≡ Some h → IsAtHand a k h
    unfolding own
    own_found e =
        let x = first_of-gives (λ o. front (free_list a o (pageblock_type t))) (orders_from a.largest k) 0 h e in
        listed_found (get_or (orders_from a.largest k) x.0 0) h t (orders_within a.largest k x.0 0 x.1) (front_stands _ (Some h) (sym x.2))

    claim_found : claim a k t ≡ Some h → IsAtHand a k h
    unfolding claim
    claim_found e =
        let x = first_of-gives (λ o. first_of (λ f. find (is_claimable a t o) (free_list a o (pageblock_type f))) (foreign t)) (reverse (orders_from a.largest k)) 0 h e in
        let o = get_or (reverse (orders_from a.largest k)) x.0 0 in
        let y = first_of-gives (λ f. find (is_claimable a t o) (free_list a o (pageblock_type f))) (foreign t) Movable h x.2 in
        listed_found o h (get_or (foreign t) y.0 Movable) (orders_back a.largest k x.0 0 x.1) (find-passes (is_claimable a t o) _ h y.2).1

    borrow_found : borrow a k t ≡ Some h → IsAtHand a k h
    unfolding borrow
    borrow_found e =
        let x = first_of-gives (λ o. first_of (λ f. front (free_list a o (pageblock_type f))) (foreign t)) (orders_from a.largest k) 0 h e in
        let o = get_or (orders_from a.largest k) x.0 0 in
        let y = first_of-gives (λ f. front (free_list a o (pageblock_type f))) (foreign t) Movable h x.2 in
        listed_found o h (get_or (foreign t) y.0 Movable) (orders_within a.largest k x.0 0 x.1) (front_stands _ (Some h) (sym y.2))

chosen-head : (claims : Bool) (o : Option ℕ) (c : Chosen) → chosen_at claims o ≡ Some c → o ≡ Some c.head
chosen-head claims None c e = absurd (none-some c e)
chosen-head claims (Some h) c e = ap (λ n. Some n) (ap (λ (x : Chosen). x.head) (same_Some _ c e))

choose_at_hand : (a : Area) (k : ℕ) (t : MigrateType) (c : Chosen) → IsListedArea a → choose a k t ≡ Some c → IsAtHand a k c.head
unfolding choose
choose_at_hand a k t c l e =
    elim (or_Some (chosen_at false (own a k t)) (option_or (chosen_at true (claim a k t)) (chosen_at false (borrow a k t))) c e) [
      | inl mine ↦ own_found a l k t c.head (chosen-head false (own a k t) c mine)
      | inr other ↦
          elim (or_Some (chosen_at true (claim a k t)) (chosen_at false (borrow a k t)) c other) [
            | inl claims ↦ claim_found a l k t c.head (chosen-head true (claim a k t) c claims)
            | inr borrows ↦ borrow_found a l k t c.head (chosen-head false (borrow a k t) c borrows)
          ]
    ]

-- what is chosen heads a free block that is large enough
pub choose_found : (a : Area) (k : ℕ) (t : MigrateType) (c : Chosen) → IsListedArea a → choose a k t ≡ Some c → IsFound a.largest a.free k c.head
choose_found a k t c l e = (choose_at_hand a k t c l e).0

-- and lies in no isolated pageblock
pub choose_passes : (a : Area) (k : ℕ) (t : MigrateType) (c : Chosen) → IsListedArea a → choose a k t ≡ Some c → is_isolated a.largest a.kinds c.head ≡ false
choose_passes a k t c l e = (choose_at_hand a k t c l e).1

-- the low run of order k of such a block is a block of the zone
pub found_block : (m : ℕ) (free : List Bool) (k h : ℕ) → IsFound m free k h → IsBlock m (length free) h k
found_block m free k h x =
    let n = is_max-to m free h x.order x.maximal in
    let up : k ≤ x.order = x.enough in
    let top : x.order ≤ m = n.order in
    let p : 2 ^ k ≤ 2 ^ x.order = pow-le-pow_right (omega arith) up in
    let q : 0 < 2 ^ k = pow_pos k in
    let last : h + 2 ^ k - 1 < length free = has_below free (h + 2 ^ k - 1) (n.inside (h + 2 ^ k - 1) (omega arith) (omega arith)) in
    record { order = omega arith; aligned = aligned_down k x.order h up n.aligned; inside = omega arith }

-- and its pages are free
pub found_free : (m : ℕ) (free : List Bool) (k h : ℕ) → IsFound m free k h → Filled (In free) h k
found_free m free k h x i lo hi =
    let n = is_max-to m free h x.order x.maximal in
    let p : 2 ^ k ≤ 2 ^ x.order = pow-le-pow_right (omega arith) x.enough in
    n.inside i lo (omega arith)

block_if-some : (test : ℕ → ℕ → Bool) (h : ℕ) (o : Option ℕ) (b : ℕ × ℕ) → block_if test h o ≡ Some b → (o ≡ Some b.1) × (h ≡ b.0) × (test h b.1 ≡ true)
block_if-some test h None b e = absurd (none-some b e)
block_if-some test h (Some j) b e =
    elim (cases_Bool (test h j)) [
      | inl t ↦ let s : (h, j) ≡ b = same_Some (h, j) b (rw t at e) in (ap (λ (x : ℕ × ℕ). Some x.1) s, ap (λ (x : ℕ × ℕ). x.0) s, ap (λ (x : ℕ × ℕ). test h x.1) (sym s) ∙ t)
      | inr f ↦ absurd (none-some b (rw f at e))
    ]

pub length-available_blocks : (m : ℕ) (kinds : List PageblockType) (s : List (Option ℕ)) → length (available_blocks m kinds s) ≡ length s
unfolding available_blocks
length-available_blocks m kinds s = length-map-range_with_len _ 0 (length s)

-- what the blocks outside isolated pageblocks say of a page
pub available_blocks-at : (m : ℕ) (kinds : List PageblockType) (s : List (Option ℕ)) (h : ℕ) →
    get_or (available_blocks m kinds s) h None ≡ cond (is_isolated m kinds h) None (get_or s h None)
unfolding available_blocks
available_blocks-at m kinds s h =
    let at : ℕ → Option ℕ = λ g. cond (is_isolated m kinds g) None (get_or s g None) in
    elim (cases_lt h (length s)) [
      | inl lt ↦ get_or-map-range_with_len at 0 (length s) h h None lt (omega arith)
      | inr ge ↦ get_or_past (map at (range_with_len 0 (length s))) h None (omega (arith, length-available_blocks m kinds s)) ∙ sym (none_either (is_isolated m kinds h) (get_or s h None) (get_or_past s h None ge))
    ]

pub available_blocks-to : (m : ℕ) (kinds : List PageblockType) (s : List (Option ℕ)) (h j : ℕ) → get_or (available_blocks m kinds s) h None ≡ Some j →
    (get_or s h None ≡ Some j) × (is_isolated m kinds h ≡ false)
available_blocks-to m kinds s h j e = elim (cases_Bool (is_isolated m kinds h)) [
  | inl shut ↦ absurd (none-some j (rw shut at (sym (available_blocks-at m kinds s h) ∙ e)))
  | inr apart ↦ (rw apart at (sym (available_blocks-at m kinds s h) ∙ e), apart)
]

take_low_at_hand : (a : Area) (k h : ℕ) → take_low_answer a k ≡ Some h → IsAtHand a k h
unfolding take_low_answer lowest
take_low_at_hand a k h e = go (lowest (blocks_at_hand a) k) refl e
  where
    go : (o : Option (ℕ × ℕ)) → lowest (blocks_at_hand a) k ≡ o → option_map (λ (b : ℕ × ℕ). b.0) o ≡ Some h → IsAtHand a k h
    go None q e = absurd (none-some h e)
    go (Some b) q e =
        let places = range_with_len 0 (length (blocks_at_hand a)) in
        let x = first_of-gives (λ g. block_if (λ f j. leb k j) g (get_or (blocks_at_hand a) g None)) places 0 b q in
        let g = get_or places x.0 0 in
        let s = block_if-some (λ f j. leb k j) g (get_or (blocks_at_hand a) g None) b x.2 in
        let y = available_blocks-to a.largest a.kinds (max_blocks a.largest a.free) g b.1 s.0 in
        let same : g ≡ h = s.1 ∙ same_Some b.0 h e in
        rw (← same) (record { order = b.1; enough = leb-true k b.1 s.2; maximal = max_blocks-to a.largest a.free g b.1 y.0 }, y.1)

-- the lowest block is a free one that is large enough
pub take_low_found : (a : Area) (k h : ℕ) → take_low_answer a k ≡ Some h → IsFound a.largest a.free k h
take_low_found a k h e = (take_low_at_hand a k h e).0

-- and lies in no isolated pageblock
pub take_low_passes : (a : Area) (k h : ℕ) → take_low_answer a k ≡ Some h → is_isolated a.largest a.kinds h ≡ false
take_low_passes a k h e = (take_low_at_hand a k h e).1
