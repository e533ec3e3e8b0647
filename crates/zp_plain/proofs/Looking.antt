-- Looking through orders, pages and lists, and what is found.
use Rattle.std.proofs.Common.{ℕ, suc, ◌+◌, ◌-◌, ◌^◌, ◌≡◌, ◌≤◌, ◌<◌, refl, sym, ◌∙◌, ap, arith, inl, inr, Bool, true, cond, map, [], ◌∷◌, reverse, Option, Some, None, List, length, get_or, IfSome}
use Rattle.std.specs.List.{range_with_len, find, count_by}
use Rattle.std.specs.Option.{option_or}
use Rattle.std.proofs.lemmas.List.{reverse-append}
use Rattle.std.proofs.lemmas.List.Sums.{sum_by-cons}
use Rattle.std.proofs.lemmas.Bool.{cases_eq, eq-eqb, ne_eqb}
use Rattle.zp_model.specs.BlockSet.{orders_from, first_of, block_if, greatest, larger, largest_in, lowest, max_blocks, order_of}
use Rattle.std.specs.Prelude.{leb}
use Rattle.zp_model.specs.Block.{is_max}
use Rattle.zp_model.specs.declared.pageblock_type.PageblockType.{PageblockType}
use Rattle.zp_model.specs.Area.{Area, available_blocks, is_isolated}
use Rattle.zp_model.specs.Take.{blocks_at_hand, leave, take_low_answer, take_low_after}
use Rattle.zp_model.specs.Rows.{stands_in, front, after}
use Rattle.zp_model.proofs.FirstFound.{range-snoc}
use Rattle.zp_model.proofs.MaximalBlocks.{length-max, max_block}
use Rattle.zp_model.proofs.Settles.{stands_first, stands_later}
use Rattle.zp_laws.proofs.Choosing.{available_blocks-at, length-available_blocks}

-- the numbers from i on, below e; those of orders_from m k are below m + 1
pub range_here : (i e : ℕ) → i < e → range_with_len i (e - i) ≡ i ∷ range_with_len (i + 1) (e - (i + 1))
range_here i e lt = let s : e - i ≡ suc (e - (i + 1)) = omega arith in rw s refl

pub range_none : (i e : ℕ) → e ≤ i → range_with_len i (e - i) ≡ []
range_none i e le = let s : e - i ≡ 0 = omega arith in rw s refl

-- the answers of those from k on below `left`, the last first
pub back_left : (f : ℕ → Option ℕ) (k left m : ℕ) → m ≡ left - 1 → k < left →
    first_of f (reverse (range_with_len k (left - k))) ≡ option_or (f m) (first_of f (reverse (range_with_len k (left - 1 - k))))
back_left f k left m e lt =
    let s : left - k ≡ suc (left - 1 - k) = omega arith in
    let t : k + (left - 1 - k) ≡ m = omega arith in
    rw (s, range-snoc k (left - 1 - k), reverse-append (range_with_len k (left - 1 - k)) ((k + (left - 1 - k)) ∷ []), t) refl

-- how many numbers of a range pass a test, one after another
pub count_step : (p : ℕ → Bool) (i e : ℕ) (b : Bool) → i < e → p i ≡ b → count_by p (range_with_len i (e - i)) ≡ cond b 1 0 + count_by p (range_with_len (i + 1) (e - (i + 1)))
count_step p i e b lt t = rw (range_here i e lt, ← t) (sum_by-cons (λ x. cond (p x) 1 0) i (range_with_len (i + 1) (e - (i + 1))))

pub count_end : (p : ℕ → Bool) (i e : ℕ) → e ≤ i → count_by p (range_with_len i (e - i)) ≡ 0
count_end p i e le = rw (range_none i e le) refl

-- the look at a page of a block set
abbrev pub look : List (Option ℕ) → ℕ → ℕ → Option (ℕ × ℕ)
look s k h = block_if (λ g j. leb k j) h (get_or s h None)

pub lowest_all : (s : List (Option ℕ)) (k n : ℕ) → length s ≡ n → lowest s k ≡ first_of (look s k) (range_with_len 0 (n - 0))
unfolding lowest
lowest_all s k n e = let f : length s ≡ n - 0 = omega arith in ap (λ q. first_of (look s k) (range_with_len 0 q)) f

-- the blocks of a zone outside isolated pageblocks: as many places as pages, and what is at each
abbrev pub blocks_open : ℕ → List Bool → List PageblockType → List (Option ℕ)
blocks_open m u kinds = available_blocks m kinds (max_blocks m u)

pub length-blocks_open : (m : ℕ) (u : List Bool) (kinds : List PageblockType) → length (blocks_open m u kinds) ≡ length u
length-blocks_open m u kinds = length-available_blocks m kinds (max_blocks m u) ∙ length-max m u

pub block_open : (m : ℕ) (u : List Bool) (kinds : List PageblockType) (h : ℕ) (b : Bool) (o : Option ℕ) → h < length u →
    b ≡ is_isolated m kinds h → o ≡ find (is_max m u h) (orders_from m 0) → cond b None o ≡ get_or (blocks_open m u kinds) h None
block_open m u kinds h b o lt e f =
    sym (available_blocks-at m kinds (max_blocks m u) h ∙ rw (← e, max_block m u h lt, ← f) refl)

-- what taking it answers and leaves
pub low_none : (a : Area) (k : ℕ) → lowest (blocks_at_hand a) k ≡ None → (None ≡ take_low_answer a k) × (a ≡ take_low_after a k)
unfolding take_low_answer take_low_after
low_none a k e = rw e (refl, refl)

pub low_some : (a : Area) (k : ℕ) (b : ℕ × ℕ) → lowest (blocks_at_hand a) k ≡ Some b → (Some b.0 ≡ take_low_answer a k) × (leave a b.0 k ≡ take_low_after a k)
unfolding take_low_answer take_low_after
low_some a k b e = rw e (refl, refl)

-- what was answered tells what is left
pub after_none : (a b : Area) (k : ℕ) → None ≡ take_low_answer a k → b ≡ take_low_after a k → b ≡ a
unfolding take_low_after
after_none a b k e f = f ∙ rw (← e) refl

pub after_some : (a b : Area) (h k : ℕ) → Some h ≡ take_low_answer a k → b ≡ take_low_after a k → b ≡ leave a h k
unfolding take_low_after
after_some a b h k e f = f ∙ rw (← e) refl

pub front_stands : (xs : List ℕ) → IfSome (front xs) (λ p. stands_in p xs ≡ true)
front_stands [] = tt
front_stands (x ∷ xs) = stands_first x xs

later : (x : ℕ) (o : Option ℕ) (xs : List ℕ) → IfSome o (λ p. stands_in p xs ≡ true) → IfSome o (λ p. stands_in p (x ∷ xs) ≡ true)
later x None xs n = tt
later x (Some p) xs n = stands_later p x xs n

pub after_stands : (p : ℕ) (xs : List ℕ) → IfSome (after p xs) (λ q. stands_in q xs ≡ true)
after_stands p [] = tt
after_stands p (x ∷ xs) =
    elim (cases_eq x p) [
      | inl same ↦ rw (eq-eqb x p same) (later x (front xs) xs (front_stands xs))
      | inr ne ↦ rw (ne_eqb x p ne) (later x (after p xs) xs (after_stands p xs))
    ]

-- the order of a block of a set that starts at a page, where it has no page from `end` on
abbrev pub order_before : List (Option ℕ) → ℕ → ℕ → Option ℕ
order_before s end h = order_of (block_if (λ g j. leb (g + 2 ^ j) end) h (get_or s h None))

-- the greatest order of those from a page on, by that of those after it
pub greatest_here : (s : List (Option ℕ)) (end i : ℕ) → i < end →
    greatest (map (order_before s end) (range_with_len i (end - i))) ≡ larger (order_before s end i) (greatest (map (order_before s end) (range_with_len (i + 1) (end - (i + 1)))))
greatest_here s end i lt = rw (range_here i end lt) refl

pub largest_of : (s : List (Option ℕ)) (a r end n : ℕ) → end ≡ a + 2 ^ r → n ≡ 2 ^ r → greatest (map (order_before s end) (range_with_len a n)) ≡ largest_in s a r
unfolding largest_in
largest_of s a r end n e f = rw (e, f) refl
