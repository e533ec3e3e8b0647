-- A block is chosen wherever a free one is large enough.
use Rattle.std.proofs.Common.{ℕ, suc, zero, ◌+◌, ◌-◌, ◌%◌, ◌≡◌, ◌≤◌, ◌<◌, refl, sym, ◌∙◌, arith, Bool, true, false, List, [], ◌∷◌, length, get_or, leb, Option, Some, None, All}
use Rattle.std.specs.List.{range_with_len}
use Rattle.std.specs.Option.{option_map, option_or}
use Rattle.std.proofs.lemmas.Bool.{and_from, eq-eqb, false≢true, le-leb}
use Rattle.std.proofs.lemmas.Option.{none-some}
use Rattle.std.proofs.lemmas.List.FromFn.{get_or-range_with_len, length-range_with_len}
use Rattle.zp_model.specs.declared.migrate_type.MigrateType.{MigrateType}
use Rattle.zp_model.specs.declared.migrate_type.MigrateType.TheVariants.{Unmovable, Reclaimable, Movable}
use Rattle.zp_model.specs.declared.pageblock_type.PageblockType.{PageblockType}
use Rattle.zp_model.specs.declared.pageblock_type.PageblockType.TheVariants as kept
use Rattle.zp_model.specs.MigrateType.{foreign}
use Rattle.zp_model.specs.PageblockType.{is_isolate, pageblock_type, pageblock_type_number, pageblock_types}
use Rattle.zp_model.specs.BlockSet.{block_if, first_of, lowest, max_blocks, orders_from}
use Rattle.zp_model.specs.Block.{is_max}
use Rattle.zp_model.specs.Rows.{stands_in, front}
use Rattle.zp_model.specs.Area.{Area, belongs, free_list, list_number, kind_at, is_isolated}
use Rattle.zp_model.specs.Choose.{chosen_at, own, claim, borrow, choose}
use Rattle.zp_model.specs.Take.{blocks_at_hand, take_low_answer}
use Rattle.zp_model.specs.Lawful.{IsListedArea}
use Rattle.zp_model.proofs.Covers.{has_below}
use Rattle.zp_model.proofs.MaximalBlocks.{max_has, max_block_some, length-max}
use Rattle.zp_model.proofs.Pages.{is_max-to}
use Rattle.zp_laws.specs.Found.{IsFound}
use Rattle.zp_model.proofs.TypeNumbers.{list_number_below}
use Rattle.zp_laws.proofs.Choosing.{list_order, list_type, available_blocks-at, length-available_blocks}

or_None : {Y : Type 0} (o p : Option Y) → option_or o p ≡ None → (o ≡ None) × (p ≡ None)
or_None None p e = (refl, e)
or_None (Some x) p e = absurd (none-some x (sym e))

-- where no place answers, none of them does
first_of-none : {X Y : Type 0} (at : X → Option Y) (xs : List X) → first_of at xs ≡ None → All (λ x. at x ≡ None) xs
first_of-none at [] e i d lt = absurd (omega arith)
first_of-none at (x ∷ xs) e zero d lt = (or_None (at x) (first_of at xs) e).0
first_of-none at (x ∷ xs) e (suc i) d lt = first_of-none at xs (or_None (at x) (first_of at xs) e).1 i d (omega arith)

front-none : (xs : List ℕ) (h : ℕ) → front xs ≡ None → stands_in h xs ≡ false
front-none [] h e = refl
front-none (x ∷ xs) h e = absurd (none-some x (sym e))

chosen-none : (claims : Bool) (o : Option ℕ) → chosen_at claims o ≡ None → o ≡ None
chosen-none claims None e = refl
chosen-none claims (Some h) e = absurd (none-some _ (sym e))

-- each type of a pageblock that is not isolated is the one asked for or a foreign one
each_type : (P : PageblockType → Type 0) (t : MigrateType) (s : PageblockType) → is_isolate s ≡ false → P (pageblock_type t) → All (λ f. P (pageblock_type f)) (foreign t) → P s
each_type P t kept.Isolate n p f = absurd (false≢true (sym n))
each_type P Unmovable kept.Unmovable n p f = p
each_type P Unmovable kept.Reclaimable n p f = f 0 Movable (omega arith)
each_type P Unmovable kept.Movable n p f = f 1 Movable (omega arith)
each_type P Reclaimable kept.Unmovable n p f = f 0 Movable (omega arith)
each_type P Reclaimable kept.Reclaimable n p f = p
each_type P Reclaimable kept.Movable n p f = f 1 Movable (omega arith)
each_type P Movable kept.Unmovable n p f = f 1 Movable (omega arith)
each_type P Movable kept.Reclaimable n p f = f 0 Movable (omega arith)
each_type P Movable kept.Movable n p f = p

-- what holds of each order from k on holds of each order between k and the largest
each_order : (m : ℕ) (P : ℕ → Type 0) (k o : ℕ) → k ≤ o → o ≤ m → All P (orders_from m k) → P o
each_order m P k o up le all =
    let n : length (orders_from m k) ≡ m + 1 - k = length-range_with_len k (m + 1 - k) in
    let f : k + (o - k) ≡ o = omega arith in
    rw (get_or-range_with_len k (m + 1 - k) (o - k) 0 (omega arith), f) at (all (o - k) 0 (omega arith))

-- a free block stands on the list of its order and its pageblock's type
found_listed : (a : Area) (k h : ℕ) → IsListedArea a → (x : IsFound a.largest a.free k h) → stands_in h (free_list a x.order (kind_at a.largest a.kinds h)) ≡ true
unfolding belongs
found_listed a k h l x =
    let s = kind_at a.largest a.kinds h in
    let type : pageblock_type_number s ≡ list_number x.order s % pageblock_types = sym (list_type x.order s) in
    let b : belongs a.largest a.free a.kinds (list_number x.order s) h ≡ true = and_from _ _ (rw (list_order x.order s) x.maximal) (eq-eqb (pageblock_type_number s) (list_number x.order s % pageblock_types) type) in
    l.held (list_number x.order s) h (list_number_below a.largest x.order s (is_max-to a.largest a.free h x.order x.maximal).order) ∙ b

-- where none is chosen, no free block outside isolated pageblocks is large enough
pub choose_none : (a : Area) (k : ℕ) (t : MigrateType) (h : ℕ) → IsListedArea a → choose a k t ≡ None → is_isolated a.largest a.kinds h ≡ false → IsFound a.largest a.free k h → ⊥
unfolding choose own borrow
choose_none a k t h l e outside x =
    let s = kind_at a.largest a.kinds h in
    let c = or_None (chosen_at false (own a k t)) (option_or (chosen_at true (claim a k t)) (chosen_at false (borrow a k t))) e in
    let d = or_None (chosen_at true (claim a k t)) (chosen_at false (borrow a k t)) c.1 in
    let le : x.order ≤ a.largest = (is_max-to a.largest a.free h x.order x.maximal).order in
    let mine : front (free_list a x.order (pageblock_type t)) ≡ None =
    each_order a.largest (λ o. front (free_list a o (pageblock_type t)) ≡ None) k x.order x.enough le
    (first_of-none (λ o. front (free_list a o (pageblock_type t))) (orders_from a.largest k) (chosen-none false (own a k t) c.0)) in
    let others : first_of (λ f. front (free_list a x.order (pageblock_type f))) (foreign t) ≡ None =
    each_order a.largest (λ o. first_of (λ f. front (free_list a o (pageblock_type f))) (foreign t) ≡ None) k x.order x.enough le
    (first_of-none (λ o. first_of (λ f. front (free_list a o (pageblock_type f))) (foreign t)) (orders_from a.largest k) (chosen-none false (borrow a k t) d.1)) in
    let none : front (free_list a x.order s) ≡ None =
    each_type (λ f. front (free_list a x.order f) ≡ None) t s outside mine (first_of-none (λ f. front (free_list a x.order (pageblock_type f))) (foreign t) others) in
    false≢true (sym (front-none (free_list a x.order s) h none) ∙ found_listed a k h l x)

-- a free block outside isolated pageblocks is one of those of which the lowest is looked for
pub at_hand_some : (a : Area) (h o : ℕ) → h < length a.free → is_isolated a.largest a.kinds h ≡ false → is_max a.largest a.free h o ≡ true → get_or (blocks_at_hand a) h None ≡ Some o
at_hand_some a h o lt outside e =
    available_blocks-at a.largest a.kinds (max_blocks a.largest a.free) h ∙ rw outside (max_block_some a.largest a.free h o lt e)

-- where there is no lowest block, no free block outside isolated pageblocks is large enough
pub take_low_none : (a : Area) (k h : ℕ) → take_low_answer a k ≡ None → is_isolated a.largest a.kinds h ≡ false → IsFound a.largest a.free k h → ⊥
unfolding take_low_answer lowest
take_low_none a k h e outside x =
    let s = blocks_at_hand a in
    let lt : h < length a.free = has_below a.free h (max_has a.largest a.free h x.order x.maximal) in
    let n : length s ≡ length a.free = length-available_blocks a.largest a.kinds (max_blocks a.largest a.free) ∙ length-max a.largest a.free in
    let looks : ℕ → Option (ℕ × ℕ) = λ g. block_if (λ f j. leb k j) g (get_or s g None) in
    let all : All (λ g. looks g ≡ None) (range_with_len 0 (length s)) = first_of-none looks (range_with_len 0 (length s)) (unmapped (first_of looks (range_with_len 0 (length s))) e) in
    let at : get_or (range_with_len 0 (length s)) h 0 ≡ h = omega (arith, get_or-range_with_len 0 (length s) h 0 (omega arith)) in
    let here : looks h ≡ None = rw at at (all h 0 (omega (arith, length-range_with_len 0 (length s)))) in
    none-some (h, x.order) (sym here ∙ rw (at_hand_some a h x.order lt outside x.maximal, le-leb k x.order x.enough))
  where
    unmapped : (o : Option (ℕ × ℕ)) → option_map (λ (b : ℕ × ℕ). b.0) o ≡ None → o ≡ None
    unmapped None e = refl
    unmapped (Some b) e = absurd (none-some b.0 (sym e))
