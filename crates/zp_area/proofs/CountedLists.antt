-- The blocks of an order are those on its four lists, each once.
use Rattle.std.proofs.Common.{ℕ, zero, suc, ◌+◌, ◌≡◌, ◌≢◌, ◌≤◌, ◌<◌, ◌==◌, ◌||◌, ◌⊎◌, inl, inr, refl, sym, ◌∙◌, ap, arith, Bool, true, List, [], ◌∷◌, ◌++◌, length, take, get_or, Option, Some, None, nat_eq}
use Rattle.std.specs.List.{filter, count_by, IsDistinct}
use Rattle.std.specs.Set.{is_member}
use Rattle.std.proofs.Math.Bool.{or-true}
use Rattle.std.proofs.lemmas.Bool.{false_from_ne_true, and_from, and_parts, or_cases, eqb-true, eq-eqb, lt-ltb}
use Rattle.std.proofs.lemmas.Cmp.{nat_eq_equiv}
use Rattle.std.proofs.lemmas.List.{length-append, take_all}
use Rattle.std.proofs.lemmas.List.Sums.{length-filter, sum_by-cons, sum_by_more}
use Rattle.std.proofs.lemmas.Map.Made.{length-from_same_keys}
use Rattle.zp_model.specs.declared.pageblock_type.PageblockType.{PageblockType}
use Rattle.zp_model.specs.declared.pageblock_type.PageblockType.TheVariants.{Unmovable, Reclaimable, Movable, Isolate}
use Rattle.zp_model.specs.BlockSet.{Starts, is_order}
use Rattle.zp_model.specs.Rows.{list_at, stands_in}
use Rattle.zp_model.specs.Area.{falling, kind_at, list_number}
use Rattle.zp_model.proofs.TypeNumbers.{list_number_below}
use Rattle.zp_laws.proofs.Counting.{one_if, same_tests}
use Rattle.zp_laws.proofs.Settling.{distinct-append, distinct-falling, distinct-filter, stands-append, stands-falling, stands-filter}
use Rattle.zp_area.specs.Blocks.{Blocks, block_set, count_of}
use Rattle.zp_area.specs.OneSet.{IsOneSet}
use Rattle.zp_area.proofs.OneBlock.{head_below}
use Rattle.zp_area.proofs.Listing.{listed_starts}
use Rattle.zp_area.proofs.Splitting.{block_on}

-- the pages at which a block of order k starts, counted downwards
heads_counted : (s : List (Option ℕ)) (k n : ℕ) → n ≤ length s → count_by (λ h. is_order k (get_or s h None)) (falling n) ≡ count_by (is_order k) (take n s)
heads_counted s k zero le = refl
heads_counted s k (suc n) le =
    let more : count_by (is_order k) (take (n + 1) s) ≡ count_by (is_order k) (take n s) + one_if (is_order k (get_or s n None)) = sum_by_more (λ o. one_if (is_order k o)) s n None (omega arith) in
    let here : count_by (λ h. is_order k (get_or s h None)) (falling (suc n)) ≡ one_if (is_order k (get_or s n None)) + count_by (λ h. is_order k (get_or s h None)) (falling n) = sum_by-cons (λ h. one_if (is_order k (get_or s h None))) n (falling n) in
    let up : n + 1 ≡ suc n = omega arith in
    here ∙ omega (arith, heads_counted s k n (omega arith), more) ∙ ap (λ q. count_by (is_order k) (take q s)) up

starts-to : (o : Option ℕ) (k : ℕ) → is_order k o ≡ true → o ≡ Some k
starts-to None k e = absurd cc
starts-to (Some j) k e = ap (λ n. Some n) (eqb-true j k e)

-- a set that has no block of an order counts none
none_counted : (k : ℕ) (s : List (Option ℕ)) → ((h : ℕ) → get_or s h None ≡ Some k → ⊥) → count_by (is_order k) s ≡ 0
none_counted k [] absent = refl
none_counted k (o ∷ s) absent =
    sum_by-cons (λ o. one_if (is_order k o)) o s
    ∙ rw (none_counted k s (λ h e. absent (suc h) e), false_from_ne_true (is_order k o) (λ e. absent 0 (starts-to o k e))) refl

-- there is no block of an order above the largest
pub count_above : (m : ℕ) (a : Blocks) (k : ℕ) → IsOneSet m a → m < k → count_of (block_set a) k ≡ 0
count_above m a k x lt = none_counted k (block_set a) (λ h e. omega (arith, (x.blocks.block h k e).order))

module _ (m : ℕ) (a : Blocks) (k : ℕ) (x : IsOneSet m a) (le : k ≤ m) where
  abbrev row : PageblockType → List ℕ
  row t = list_at a.rows.lists (list_number k t)

  -- a page stands on the list of one type alone
  apart : (s t : PageblockType) → s ≢ t → (h : ℕ) → stands_in h (row s) ≡ true → stands_in h (row t) ≡ true → ⊥
  apart s t ne h p q = ne (sym (listed_starts m a h k s x le p).1 ∙ (listed_starts m a h k t x le q).1)

  abbrev all : List ℕ
  all = row Unmovable ++ (row Reclaimable ++ (row Movable ++ row Isolate))

  abbrev is_head : ℕ → Bool
  is_head h = is_order k (get_or (block_set a) h None)

  abbrev heads : List ℕ
  heads = filter is_head (falling (length (block_set a)))

  alone : (t : PageblockType) → IsDistinct (λ y z. y == z) (row t)
  alone t = (x.listed (list_number k t) (list_number_below m k t le)).distinct

  -- what stands on one of the last two lists, or of the last three
  on_two : (h : ℕ) → stands_in h (row Movable ++ row Isolate) ≡ true → (stands_in h (row Movable) ≡ true) ⊎ (stands_in h (row Isolate) ≡ true)
  on_two h q = or_cases _ _ (sym (stands-append h (row Movable) (row Isolate)) ∙ q)

  on_three : (h : ℕ) → stands_in h (row Reclaimable ++ (row Movable ++ row Isolate)) ≡ true → (stands_in h (row Reclaimable) ≡ true) ⊎ (stands_in h (row Movable ++ row Isolate) ≡ true)
  on_three h q = or_cases _ _ (sym (stands-append h (row Reclaimable) (row Movable ++ row Isolate)) ∙ q)

  distinct_all : IsDistinct (λ y z. y == z) all
  distinct_all =
      distinct-append (row Unmovable) (row Reclaimable ++ (row Movable ++ row Isolate)) (alone Unmovable)
      (distinct-append (row Reclaimable) (row Movable ++ row Isolate) (alone Reclaimable)
      (distinct-append (row Movable) (row Isolate) (alone Movable) (alone Isolate) (apart Movable Isolate (λ e. cc)))
      (λ h p q. elim (on_two h q) [ inl r ↦ apart Reclaimable Movable (λ e. cc) h p r | inr r ↦ apart Reclaimable Isolate (λ e. cc) h p r ]))
      (λ h p q. elim (on_three h q) [
        | inl r ↦ apart Unmovable Reclaimable (λ e. cc) h p r
        | inr w ↦ elim (on_two h w) [ inl r ↦ apart Unmovable Movable (λ e. cc) h p r | inr r ↦ apart Unmovable Isolate (λ e. cc) h p r ]
      ])

  same_heads : (h : ℕ) → is_member nat_eq all h ≡ is_member nat_eq heads h
  same_heads h =
      same_tests (stands_in h all) (stands_in h heads)
      (λ on. stands-filter is_head h (falling (length (block_set a))) ∙ and_from _ _ (from_starts (on_one on)) (stands-falling h (length (block_set a)) ∙ lt-ltb h _ (below (on_one on))))
      (λ on.
      let e = and_parts _ _ (sym (stands-filter is_head h (falling (length (block_set a)))) ∙ on) in
      on_all (kind_at m a.kinds h) (block_on m a h k x (starts-to (get_or (block_set a) h None) k e.0)))
    where
      below : Starts (block_set a) h k → h < length (block_set a)
      below st = head_below m _ h k (x.blocks.block h k st)

      from_starts : Starts (block_set a) h k → is_order k (get_or (block_set a) h None) ≡ true
      from_starts st = rw st (eq-eqb k k refl)

      on_one : stands_in h all ≡ true → Starts (block_set a) h k
      on_one on = elim (or_cases _ _ (sym (stands-append h (row Unmovable) (row Reclaimable ++ (row Movable ++ row Isolate))) ∙ on)) [
        | inl u ↦ (listed_starts m a h k Unmovable x le u).0
        | inr w ↦ elim (on_three h w) [
          | inl u ↦ (listed_starts m a h k Reclaimable x le u).0
          | inr v ↦ elim (on_two h v) [ inl u ↦ (listed_starts m a h k Movable x le u).0 | inr u ↦ (listed_starts m a h k Isolate x le u).0 ]
        ]
      ]

      parts : stands_in h all ≡ (stands_in h (row Unmovable) || (stands_in h (row Reclaimable) || (stands_in h (row Movable) || stands_in h (row Isolate))))
      parts =
          stands-append h (row Unmovable) (row Reclaimable ++ (row Movable ++ row Isolate))
          ∙ ap (λ b. stands_in h (row Unmovable) || b) (stands-append h (row Reclaimable) (row Movable ++ row Isolate) ∙ ap (λ b. stands_in h (row Reclaimable) || b) (stands-append h (row Movable) (row Isolate)))

      on_all : (t : PageblockType) → stands_in h (row t) ≡ true → stands_in h all ≡ true
      on_all Unmovable on = parts ∙ rw on refl
      on_all Reclaimable on = parts ∙ rw on (or-true _)
      on_all Movable on = parts ∙ rw (on, or-true (stands_in h (row Reclaimable))) (or-true _)
      on_all Isolate on = parts ∙ rw (on, or-true (stands_in h (row Movable)), or-true (stands_in h (row Reclaimable))) (or-true _)

  -- so they are as many as the lists are long together
  pub counted_lists : length (row Unmovable) + length (row Reclaimable) + length (row Movable) + length (row Isolate) ≡ count_of (block_set a) k
  counted_lists =
      let s : List (Option ℕ) = block_set a in
      let same : length all ≡ length heads = length-from_same_keys nat_eq_equiv all heads distinct_all (distinct-filter is_head (falling (length s)) (distinct-falling (length s))) same_heads in
      let long : length all ≡ length (row Unmovable) + (length (row Reclaimable) + (length (row Movable) + length (row Isolate))) =
      length-append (row Unmovable) (row Reclaimable ++ (row Movable ++ row Isolate))
      ∙ ap (λ n. length (row Unmovable) + n) (length-append (row Reclaimable) (row Movable ++ row Isolate) ∙ ap (λ n. length (row Reclaimable) + n) (length-append (row Movable) (row Isolate))) in
      let counted : length heads ≡ count_of s k = length-filter is_head (falling (length s)) ∙ heads_counted s k (length s) (omega arith) ∙ ap (count_by (is_order k)) (take_all (length s) s (omega arith)) in
      omega (arith, same, long, counted)
