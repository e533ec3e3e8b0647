-- A block of which so many pages leave the free area: what is left of it comes back, and is as the definition of a leaving says.
use Rattle.std.proofs.Common.{ℕ, suc, zero, ◌+◌, ◌-◌, ◌^◌, ◌≡◌, ◌≤◌, ◌<◌, ◌==◌, ◌⊎◌, inl, inr, refl, sym, ◌∙◌, ap, subst, arith, false, not, List, [], ◌∷◌, drop, length, set, get_or, get_or-set_same, get_or-set_other, length-set, Option, None, Some}
use Rattle.std.proofs.lemmas.Nat.{pow_pos}
use Rattle.std.proofs.lemmas.Bool.{cases_eq, cases_lt, eq-eqb, ne_eqb, both_ways}
use Rattle.std.proofs.lemmas.List.{get_or_past, length-map, map-set, set-get_or, set-set}
use Rattle.zp_model.specs.declared.state.State.{State}
use Rattle.zp_model.specs.declared.state.State.TheVariants.{Free, Tail}
use Rattle.zp_model.specs.Area.{Area, kind_at, lists_count}
use Rattle.zp_model.specs.BlockSet.{Starts}
use Rattle.zp_model.specs.Frames.{Frames, restated}
use Rattle.zp_model.specs.Rows.{list_at, state_at, stands_in, without_page}
use Rattle.zp_model.specs.Runs.{leave_run}
use Rattle.zp_model.proofs.RunGiven.{leave_block, leave_more, listed}
use Rattle.zp_model.proofs.Settles.{filter_all}
use Rattle.zp_model.proofs.TypeNumbers.{list_number_below}
use Rattle.zp_area.specs.Blocks.{Blocks, block_set, added, list_of_block, removed}
use Rattle.zp_area.specs.Chains.{halves_added, pages_split_off, rest_added, split_off}
use Rattle.zp_area.specs.NotedBlocks.{free_order}
use Rattle.zp_area.specs.OneSet.{IsOneSet}
use Rattle.zp_area.proofs.Adding.{IsComing, added_starts, coming_loose, coming_new}
use Rattle.zp_area.proofs.Halves.{halves_coming, high_coming}
use Rattle.zp_area.proofs.NotedBlocks.{starts-to}
use Rattle.zp_area.proofs.OneBlock.{new_none}
use Rattle.zp_area.proofs.SameLargest.{largest-halves}
use Rattle.zp_area.proofs.SplitPages.{halves-last, no_block, removed_coming, rest_high, rest_low, rest_none}
use Rattle.zp_buddy.specs.Choices.{area_in}
use Rattle.zp_buddy.specs.Sound.{IsSound}
use Rattle.zp_buddy.proofs.Runs.{IsLeftAs, sound_listed}
use Rattle.zp_buddy.proofs.Settled.{IsRestated, restated_all, restated_same, starts_block}
use Rattle.zp_buddy.proofs.SplitBlocks.{left_split}

-- b and a differ in what is noted of pages that head no block, and in nothing else
record IsAlike (a b : Blocks) : Type 0 where
  largest : b.largest ≡ a.largest
  kinds : b.kinds ≡ a.kinds
  lists : b.rows.lists ≡ a.rows.lists
  blocks : block_set b ≡ block_set a

alike_added : (m : ℕ) (a b : Blocks) (h k : ℕ) → IsAlike a b → IsAlike (added m a h k) (added m b h k)
alike_added m a b h k x = record {
  largest = x.largest;
  kinds = x.kinds;
  lists = rw (x.kinds, x.lists) refl;
  blocks = map-set free_order b.rows.states h (Free k) ∙ ap (λ s. set s h (Some k)) x.blocks ∙ sym (map-set free_order a.rows.states h (Free k));
}

alike_rest : (o m : ℕ) (a b : Blocks) (h n : ℕ) → IsAlike a b → IsAlike (rest_added m a h o n) (rest_added m b h o n)
alike_rest zero m a b h zero x = alike_added m a b h zero x
alike_rest zero m a b h (suc n) x = x
alike_rest (suc o) m a b h zero x = alike_added m a b h (suc o) x
alike_rest (suc o) m a b h (suc n) x = elim (cases_lt (suc n) (2 ^ o)) [
  | inl low ↦
      rw (rest_low m a h o (suc n) (omega arith) low, rest_low m b h o (suc n) (omega arith) low)
      (alike_rest o m (added m a (h + 2 ^ o) o) (added m b (h + 2 ^ o) o) h (suc n) (alike_added m a b (h + 2 ^ o) o x))
  | inr high ↦ rw (rest_high m a h o (suc n) high, rest_high m b h o (suc n) high) (alike_rest o m a b (h + 2 ^ o) (suc n - 2 ^ o) x)
]

-- a page in front of a list on which it did not stand, and taken off it
off_front : (h : ℕ) (xs : List ℕ) → stands_in h xs ≡ false → without_page h (h ∷ xs) ≡ xs
off_front h xs off =
    rw (eq-eqb h h refl) (filter_all (λ g. not (g == h)) xs (λ g on. rw (ne_eqb g h (λ e. both_ways _ off (rw e at on))) refl))

on_table : (m : ℕ) (a : Blocks) (h k : ℕ) → IsComing m a h k → list_of_block m a h k < length a.rows.lists
on_table m a h k x = omega (arith, list_number_below m k (kind_at m a.kinds h) x.block.order, x.one.table)

-- a block that comes and leaves again
alike_back : (m : ℕ) (a : Blocks) (h k : ℕ) → IsComing m a h k → list_of_block m a h k < length a.rows.lists → IsAlike a (removed m (added m a h k) h k)
alike_back m a h k x lt =
    let r : ℕ = list_of_block m a h k in
    let s : List (Option ℕ) = block_set a in
    let xs : List ℕ = list_at a.rows.lists r in
    let front : list_at (set a.rows.lists r (h ∷ xs)) r ≡ h ∷ xs = get_or-set_same a.rows.lists r (h ∷ xs) [] lt in
    let none : get_or s h None ≡ None = no_block (get_or s h None) (new_none m s h k x.one.blocks (coming_new x)) in
    record {
      largest = refl;
      kinds = refl;
      lists =
          ap (λ ys. set (set a.rows.lists r (h ∷ xs)) r (without_page h ys)) front
          ∙ ap (set (set a.rows.lists r (h ∷ xs)) r) (off_front h xs (coming_loose x r))
          ∙ set-set a.rows.lists r (h ∷ xs) xs
          ∙ set-get_or a.rows.lists r [];
      blocks =
          map-set free_order (set a.rows.states h (Free k)) h Tail
          ∙ ap (λ t. set t h None) (map-set free_order a.rows.states h (Free k))
          ∙ set-set s h (Some k) None
          ∙ ap (set s h) (sym none)
          ∙ set-get_or s h None;
    }

-- the n pages from h on have left the area of a, which leaves that of y
record IsAreaLeft (m : ℕ) (a : Blocks) (h n : ℕ) (y : Blocks) : Type 0 where
  sound : IsSound m y.rows.states y.kinds y.rows.lists
  largest : y.largest ≡ a.largest
  pages : length y.rows.states ≡ length a.rows.states
  kinds : y.kinds ≡ a.kinds
  sides : drop (lists_count m) y.rows.lists ≡ drop (lists_count m) a.rows.lists
  area : area_in m y ≡ leave_run (area_in m a) h n

-- the same of an area that is alike
area_alike : (m : ℕ) (a : Blocks) (h n : ℕ) (y z : Blocks) → IsAlike y z → IsAreaLeft m a h n z → IsAreaLeft m a h n y
area_alike m a h n y z e x = record {
  sound = record {
    pages = omega (arith, x.sound.pages, same);
    table = rw (← e.lists) x.sound.table;
    normal = rw (← e.blocks) x.sound.normal;
    listed = λ r lt. rw (← e.blocks, ← e.kinds, ← e.lists) (x.sound.listed r lt);
    aside = λ r p ge on u. x.sound.aside r p ge (rw e.lists on) (rw e.blocks u);
  };
  largest = sym e.largest ∙ x.largest;
  pages = same ∙ x.pages;
  kinds = sym e.kinds ∙ x.kinds;
  sides = ap (drop (lists_count m)) (sym e.lists) ∙ x.sides;
  area = rw (← e.blocks, ← e.kinds, ← e.lists) x.area;
}
  where
    same : length y.rows.states ≡ length z.rows.states
    same = sym (length-map y.rows.states free_order) ∙ ap length (sym e.blocks) ∙ length-map z.rows.states free_order

-- the low run of a block has left
left_low : (m : ℕ) (a : Blocks) (h o k : ℕ) → IsSound m a.rows.states a.kinds a.rows.lists → Starts (block_set a) h o → k ≤ o → IsAreaLeft m a h (2 ^ k) (split_off m a h o k)
left_low m a h o k s st le =
    let y = left_split m a h k o s st le in
    record {
      sound = y.sound;
      largest = largest-halves m (removed m a h o) h k (o - k);
      pages = y.pages;
      kinds = y.kinds;
      sides = ap (λ (f : Frames). f.sides) y.after;
      area = ap (λ (f : Frames). f.area) y.after ∙ leave_block (area_in m a) h k;
    }

-- and then pages behind it
left_then : (m : ℕ) (a b : Blocks) (h c d : ℕ) (y : Blocks) → IsSound m a.rows.states a.kinds a.rows.lists → IsAreaLeft m a h c b → IsAreaLeft m b (h + c) d y → IsAreaLeft m a h (c + d) y
left_then m a b h c d y s x z = record {
  sound = z.sound;
  largest = z.largest ∙ x.largest;
  pages = z.pages ∙ x.pages;
  kinds = z.kinds ∙ x.kinds;
  sides = z.sides ∙ x.sides;
  area = z.area ∙ ap (λ q. leave_run q (h + c) d) x.area ∙ leave_more (area_in m a) h c d (listed (area_in m a) (sound_listed m a s));
}

-- the halves above order k have come: what then leaves the low part of this order
left_by : (k m : ℕ) (a : Blocks) (h o n : ℕ) → IsSound m a.rows.states a.kinds a.rows.lists → IsOneSet m a → Starts (block_set a) h o → k ≤ o → 0 < n → n ≤ 2 ^ k →
    IsAreaLeft m a h n (rest_added m (halves_added m (removed m a h o) h k (o - k)) h k n)
left_by zero m a h o n s one st le some few = let e : n ≡ 1 = omega arith in rw e (left_low m a h o 0 s st le)
left_by (suc k) m a h o n s one st le some few =
    let r : Blocks = removed m a h o in
    let b : Blocks = halves_added m (removed m a h o) h (k + 1) (o - (k + 1)) in
    let g : ℕ = h + 2 ^ k in
    let up : suc k ≡ k + 1 = omega arith in
    let here : halves_added m r h (suc k) (o - suc k) ≡ b = ap (λ j. halves_added m r h j (o - j)) up in
    let steps : o - k ≡ suc (o - (k + 1)) = omega arith in
    let last : added m b (h + 2 ^ k) k ≡ split_off m a h o k = sym (halves-last (o - (k + 1)) m r h k) ∙ ap (halves_added m r h k) (sym steps) in
    let double : 2 ^ suc k ≡ 2 ^ k + 2 ^ k = omega arith in
    rw here (elim (cases_lt n (2 ^ k)) [
      | inl low ↦ rw (rest_low m b h k n some low, last) (left_by k m a h o n s one st (omega arith) some (omega arith))
      | inr high ↦ rw (rest_high m b h k n high) (elim (cases_eq n (2 ^ k)) [
        | inl all ↦ let none : n - 2 ^ k ≡ 0 = omega arith in rw (none, rest_none m b (h + 2 ^ k) k, last, all) (left_low m a h o k s st (omega arith))
        | inr ne ↦
            let first : IsAreaLeft m a h (2 ^ k) (split_off m a h o k) = left_low m a h o k s st (omega arith) in
            let whole : IsComing m r h o = removed_coming m a h o one st in
            let above : o ≡ k + 1 + (o - (k + 1)) = omega arith in
            let below : o ≡ k + (o - k) = omega arith in
            let coming : IsComing m b (h + 2 ^ k) k = high_coming k (halves_coming (o - (k + 1)) m r h (k + 1) (subst (λ q. IsComing m r h q) above whole)) in
            let after : IsOneSet m (split_off m a h o k) = (halves_coming (o - k) m r h k (subst (λ q. IsComing m r h q) below whole)).one in
            let starts : Starts (block_set (split_off m a h o k)) (h + 2 ^ k) k = subst (λ (q : Blocks). Starts (block_set q) (h + 2 ^ k) k) last (added_starts coming) in
            let none : k - k ≡ 0 = omega arith in
            let rest = rw none at (left_by k m (split_off m a h o k) (h + 2 ^ k) k (n - 2 ^ k) first.sound after starts (omega arith) (omega arith) (omega arith)) in
            let back : IsAlike b (removed m (split_off m a h o k) (h + 2 ^ k) k) = subst (λ q. IsAlike b (removed m q (h + 2 ^ k) k)) last (alike_back m b (h + 2 ^ k) k coming (on_table m b (h + 2 ^ k) k coming)) in
            let count : 2 ^ k + (n - 2 ^ k) ≡ n = omega arith in
            rw count at (left_then m a (split_off m a h o k) h (2 ^ k) (n - 2 ^ k) (rest_added m b (h + 2 ^ k) k (n - 2 ^ k)) s first
            (area_alike m (split_off m a h o k) (h + 2 ^ k) (n - 2 ^ k) (rest_added m b (h + 2 ^ k) k (n - 2 ^ k)) (rest_added m (removed m (split_off m a h o k) (h + 2 ^ k) k) (h + 2 ^ k) k (n - 2 ^ k))
            (alike_rest k m b (removed m (split_off m a h o k) (h + 2 ^ k) k) (h + 2 ^ k) (n - 2 ^ k) back) rest))
      ])
    ])

-- what is noted of a page when a block comes
abbrev IsNotedFree : State → State → Type 0
IsNotedFree before now = ((k : ℕ) × (now ≡ Free k)) ⊎ (now ≡ before)

noted_added : (m : ℕ) (a : Blocks) (h k g : ℕ) → IsNotedFree (state_at a.rows.states g) (state_at (added m a h k).rows.states g)
noted_added m a h k g = elim (cases_eq g h) [
  | inr ne ↦ inr (get_or-set_other a.rows.states h g (Free k) Tail ne)
  | inl same ↦ elim (cases_lt h (length a.rows.states)) [
    | inl lt ↦ inl (k, rw same (get_or-set_same a.rows.states h (Free k) Tail lt))
    | inr ge ↦ inr (rw same (get_or_past (set a.rows.states h (Free k)) h Tail (omega (arith, length-set a.rows.states h (Free k))) ∙ sym (get_or_past a.rows.states h Tail ge)))
  ]
]

noted_then : (x y z : State) → IsNotedFree x y → IsNotedFree y z → IsNotedFree x z
noted_then x y z p (inl q) = inl q
noted_then x y z (inl p) (inr q) = inl (p.0, q ∙ p.1)
noted_then x y z (inr p) (inr q) = inr (q ∙ p)

noted_rest : (o m : ℕ) (a : Blocks) (h n g : ℕ) → IsNotedFree (state_at a.rows.states g) (state_at (rest_added m a h o n).rows.states g)
noted_rest zero m a h zero g = noted_added m a h zero g
noted_rest zero m a h (suc n) g = inr refl
noted_rest (suc o) m a h zero g = noted_added m a h (suc o) g
noted_rest (suc o) m a h (suc n) g = elim (cases_lt (suc n) (2 ^ o)) [
  | inl low ↦
      rw (rest_low m a h o (suc n) (omega arith) low)
      (noted_then _ _ _ (noted_added m a (h + 2 ^ o) o g) (noted_rest o m (added m a (h + 2 ^ o) o) h (suc n) g))
  | inr high ↦ rw (rest_high m a h o (suc n) high) (noted_rest o m a (h + 2 ^ o) (suc n - 2 ^ o) g)
]

-- the block's head heads none then, and what is noted of any other page stays, but of the heads that come
restated_pages : (m : ℕ) (a : Blocks) (h o n : ℕ) → Starts (block_set a) h o → h < length a.rows.states → (g : ℕ) → IsRestated (state_at a.rows.states g) (state_at (pages_split_off m a h o n).rows.states g)
restated_pages m a h o n st lt g = elim (noted_rest o m (removed m a h o) h n g) [
  | inl free ↦ rw free.1 refl
  | inr stays ↦ elim (cases_eq g h) [
    | inl same ↦
        let now : state_at (pages_split_off m a h o n).rows.states g ≡ Tail = stays ∙ rw same (get_or-set_same a.rows.states h Tail Tail lt) in
        let free : state_at a.rows.states g ≡ Free o = rw same (starts-to a.rows.states h o st) in
        rw (now, free) refl
    | inr ne ↦ rw (stays ∙ get_or-set_other a.rows.states h g Tail Tail ne) (restated_same _)
  ]
]

-- so many pages of a block have left
pub left_pages : (a : Blocks) (h o n : ℕ) → IsSound a.largest a.rows.states a.kinds a.rows.lists → IsOneSet a.largest a → Starts (block_set a) h o → 0 < n → n ≤ 2 ^ o →
    IsLeftAs a h n (pages_split_off a.largest a h o n)
left_pages a h o n s one st some few =
    let y : Blocks = pages_split_off a.largest a h o n in
    let none : o - o ≡ 0 = omega arith in
    let x : IsAreaLeft a.largest a h n (pages_split_off a.largest a h o n) = rw none at (left_by o a.largest a h o n s one st (omega arith) some few) in
    let states = restated_all a.largest a.rows.states y.rows.states x.sound.normal x.pages (restated_pages a.largest a h o n st (omega (arith, (starts_block a.largest a h o s st).inside, pow_pos o)))
    ∙ ap (λ (q : Area). restated q.largest q.free a.rows.states) x.area in
    record {
      largest = x.largest;
      sound = x.sound;
      pages = x.pages;
      typed = ap length x.kinds;
      after = λ i. record { area = x.area i; states = states i; sides = x.sides i };
    }
