-- A further list that changes leaves the free blocks, where no page of the new one is free.
use Rattle.std.proofs.Common.{ℕ, ◌+◌, ◌-◌, ◌/◌, ◌^◌, ◌≡◌, ◌≤◌, ◌<◌, ◌++◌, ◌⊎◌, inl, inr, sym, ◌∙◌, ap, arith, true, false, List, [], ◌∷◌, length, drop, set, length-set, get_or-set_same, get_or-set_other, Option, Some, None, IfSome}
use Rattle.std.proofs.lemmas.Bool.{cases_lt, cases_eq, both_ways, false_from_ne_true, false≢true, or_cases}
use Rattle.std.proofs.lemmas.List.{get_or-drop, length-drop, take-set-le, drop-set-add, get_or_past}
use Rattle.zp_model.specs.Block.{has, in_run}
use Rattle.zp_model.specs.BlockSet.{cover}
use Rattle.zp_model.specs.Frames.{Frames, IsClear}
use Rattle.zp_model.specs.PageblockType.{pageblock_types}
use Rattle.zp_model.specs.Rows.{list_at, stands_in, with_list, front, rest, IsLoose}
use Rattle.zp_model.specs.Area.{lists_count}
use Rattle.zp_model.proofs.Settles.{stands_later, stands_cases}
use Rattle.zp_laws.proofs.Counting.{in_run-yes}
use Rattle.zp_laws.proofs.Settling.{stands-append}
use Rattle.zp_area.specs.Blocks.{Blocks, block_set}
use Rattle.zp_buddy.specs.Choices.{frames_in}
use Rattle.zp_buddy.specs.Held.{IsHeld}
use Rattle.zp_buddy.proofs.Settled.{start_in}
use Rattle.zp_buddy.proofs.Walks.{next_front}

-- with other pages on a further list
abbrev pub with_side : ℕ → Blocks → ℕ → List ℕ → Blocks
with_side m a q v = record a { rows = with_list a.rows (lists_count m + q) v }

-- no page of the list is free
abbrev pub IsUsed : Blocks → List ℕ → Type 0
IsUsed a xs = (p : ℕ) → stands_in p xs ≡ true → has (cover (block_set a)) p ≡ false

-- the pages of a list with one more at its end
end_cases : (p h : ℕ) (xs : List ℕ) → stands_in p (xs ++ h ∷ []) ≡ true → (stands_in p xs ≡ true) ⊎ (p ≡ h)
end_cases p h xs e =
    elim (or_cases _ _ (sym (stands-append p xs (h ∷ [])) ∙ e)) [
      | inl old ↦ inl old
      | inr last ↦ elim (stands_cases p h [] last) [ inl same ↦ inr same | inr none ↦ absurd (false≢true none) ]
    ]

-- those of a list without its front stood on it
rest_on : (p : ℕ) (xs : List ℕ) → stands_in p (rest xs) ≡ true → stands_in p xs ≡ true
rest_on p [] e = e
rest_on p (x ∷ xs) e = stands_later p x xs e

module _ (m : ℕ) (a : Blocks) (q : ℕ) where
  -- a further list is found by its number, which is that of a list of the area
  pub side_at : list_at a.rows.lists (lists_count m + q) ≡ list_at (frames_in m a).sides q
  side_at = sym (get_or-drop (lists_count m) a.rows.lists q [])

  pub side_below : q < length (frames_in m a).sides → lists_count m + q < length a.rows.lists
  side_below lt = omega (arith, length-drop (lists_count m) a.rows.lists)

  pub frames_side : (v : List ℕ) → frames_in m (with_side m a q v) ≡ record (frames_in m a) { sides = set (frames_in m a).sides q v }
  frames_side v = cc (take-set-le (lists_count m) a.rows.lists (lists_count m + q) v (omega arith), drop-set-add (lists_count m) a.rows.lists q v)

-- what is held with another further list
module _ {m : ℕ} {a : Blocks} {free : ℕ} (x : IsHeld m a free) where
  -- no page of a further list is free
  side_used : (q : ℕ) → IsUsed a (list_at a.rows.lists (lists_count m + q))
  side_used q p e = false_from_ne_true _ (x.sound.aside (lists_count m + q) p (omega arith) e)

  pub held_side : (q : ℕ) (v : List ℕ) → lists_count m + q < length a.rows.lists → IsUsed a v → IsHeld m (with_side m a q v) free
  held_side q v lt used =
      let n : ℕ = lists_count m + q in
      record {
        sound = record {
          pages = x.sound.pages;
          table = rw (length-set a.rows.lists n v) x.sound.table;
          normal = x.sound.normal;
          listed = λ r below. rw (get_or-set_other a.rows.lists n r v [] (omega arith)) (x.sound.listed r below);
          aside = λ r p ge on free. elim (cases_eq r n) [
            | inl same ↦ both_ways _ (used p (rw (same, get_or-set_same a.rows.lists n v [] lt) at on)) free
            | inr other ↦ x.sound.aside r p ge (rw (get_or-set_other a.rows.lists n r v [] other) at on) free
          ];
        };
        typed = x.typed;
        counted = x.counted;
      }

  -- a page that is not free and on no further list is on no list at all
  pub loose_all : (p : ℕ) → has (cover (block_set a)) p ≡ false → IsLoose (frames_in m a).sides p → IsLoose a.rows.lists p
  loose_all p used loose r =
      elim (cases_lt r (lists_count m)) [
        | inl lt ↦ false_from_ne_true _ (λ on. both_ways _ used (start_in m a x.sound p (r / pageblock_types) ((x.sound.listed r lt).to p on).0))
        | inr ge ↦ let n : lists_count m + (r - lists_count m) ≡ r = omega arith in rw (← n) (rw (side_at m a (r - lists_count m)) (loose (r - lists_count m)))
      ]

  -- what is put on a further list, and what is left of one, is not free
  pub pushed_used : (q p : ℕ) → has (cover (block_set a)) p ≡ false → IsUsed a (list_at a.rows.lists (lists_count m + q) ++ p ∷ [])
  pushed_used q p used i on = elim (end_cases i p (list_at a.rows.lists (lists_count m + q)) on) [ inl old ↦ side_used q i old | inr same ↦ rw same used ]

  pub popped_used : (q : ℕ) → IsUsed a (rest (list_at a.rows.lists (lists_count m + q)))
  popped_used q i on = side_used q i (rest_on i (list_at a.rows.lists (lists_count m + q)) on)

  -- the page in front is one of the zone that is not free
  pub popped_head : (n q : ℕ) (o : Option ℕ) → o ≡ front (list_at a.rows.lists (lists_count m + q)) → IfSome o (λ p. p < n) → IfSome o (λ p. (p < n) × (has (cover (block_set a)) p ≡ false))
  popped_head n q o e lt = go o (rw e (next_front (list_at a.rows.lists (lists_count m + q)))) lt
    where
      go : (o : Option ℕ) → IfSome o (λ p. stands_in p (list_at a.rows.lists (lists_count m + q)) ≡ true) → IfSome o (λ p. p < n) →
          IfSome o (λ p. (p < n) × (has (cover (block_set a)) p ≡ false))
      go None on lt = tt
      go (Some p) on lt = (lt, side_used q p on)

-- a block of which no page comes to a further list stays clear
clear_side : (f : Frames) (q : ℕ) (v : List ℕ) (h k : ℕ) → ((i : ℕ) → h ≤ i → i < h + 2 ^ k → stands_in i v ≡ true → stands_in i (list_at f.sides q) ≡ true) → IsClear f h k →
    IsClear (record f { sides = set f.sides q v }) h k
clear_side f q v h k sub x = record {
  block = x.block;
  free = x.free;
  aside = λ r i lo hi. elim (cases_eq r q) [
    | inl same ↦ elim (cases_lt q (length f.sides)) [
      | inl lt ↦ rw (same, get_or-set_same f.sides q v [] lt) (false_from_ne_true _ (λ on. both_ways _ (x.aside q i lo hi) (sub i lo hi on)))
      | inr ge ↦ ap (stands_in i) (get_or_past (set f.sides q v) r [] (omega (arith, length-set f.sides q v)))
    ]
    | inr other ↦ rw (get_or-set_other f.sides q r v [] other) (x.aside r i lo hi)
  ];
}

pub clear_pushed : (f : Frames) (q p h k : ℕ) → in_run h k p ≡ false → IsClear f h k → IsClear (record f { sides = set f.sides q (list_at f.sides q ++ p ∷ []) }) h k
clear_pushed f q p h k out x =
    clear_side f q (list_at f.sides q ++ p ∷ []) h k
    (λ i lo hi on. elim (end_cases i p (list_at f.sides q) on) [ inl old ↦ old | inr same ↦ absurd (both_ways _ out (rw same at (in_run-yes h k i lo hi))) ]) x

pub clear_popped : (f : Frames) (q h k : ℕ) → IsClear f h k → IsClear (record f { sides = set f.sides q (rest (list_at f.sides q)) }) h k
clear_popped f q h k x = clear_side f q (rest (list_at f.sides q)) h k (λ i lo hi on. rest_on i (list_at f.sides q) on) x

pub popped_loose : (m : ℕ) (l : List (List ℕ)) (o : Option ℕ) → IfSome o (IsLoose l) → IfSome o (IsLoose (drop (lists_count m) l))
popped_loose m l None x = tt
popped_loose m l (Some p) x = λ r. rw (get_or-drop (lists_count m) l r []) (x (lists_count m + r))
