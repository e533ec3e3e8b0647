-- A block that leaves the free area and is split: its high halves come back, and what is left is as the definition of a leaving says.
use Rattle.std.proofs.Common.{ℕ, suc, zero, ◌+◌, ◌-◌, ◌*◌, ◌/◌, ◌^◌, ◌≡◌, ◌≤◌, ◌<◌, ◌≢◌, ◌⊎◌, ◌==◌, inl, inr, sym, ◌∙◌, ap, refl, arith, true, not, List, [], ◌∷◌, length, get_or-set_same, get_or-set_other, length-set}
use Rattle.std.proofs.lemmas.Nat.{pow_pos, pow_below}
use Rattle.std.proofs.lemmas.Bool.{and_parts, both_ways, cases_lt, cases_eq, eq-eqb, ne_eqb, not-true}
use Rattle.std.proofs.lemmas.List.{length-map}
use Rattle.zp_model.specs.declared.pageblock_type.PageblockType.{PageblockType}
use Rattle.zp_model.specs.declared.state.State.{State}
use Rattle.zp_model.specs.declared.state.State.TheVariants.{Free, Tail}
use Rattle.zp_model.specs.Block.{IsBlock, without}
use Rattle.zp_model.specs.BlockSet.{Starts, cover}
use Rattle.zp_model.specs.Frames.{with_area}
use Rattle.zp_model.specs.PageblockType.{pageblock_type_number, pageblock_types}
use Rattle.zp_model.specs.Rows.{Rows, list_at, state_at, without_page}
use Rattle.zp_model.specs.Area.{kind_at, list_number, lists_count, settled}
use Rattle.zp_model.specs.Take.{leave}
use Rattle.zp_model.proofs.Normal.{IsNormal}
use Rattle.zp_model.proofs.Pages.{In}
use Rattle.zp_model.proofs.Split.{High, AfterSplit, high_lies}
use Rattle.zp_model.proofs.Covers.{cover-split}
use Rattle.zp_laws.proofs.Counting.{has-without_any}
use Rattle.zp_area.specs.Blocks.{Blocks, block_set, added, removed, list_of_block}
use Rattle.zp_area.specs.Chains.{halves_added, split_off}
use Rattle.zp_area.specs.NotedBlocks.{free_order, blocks_of}
use Rattle.zp_model.proofs.TypeNumbers.{number_below, list_number_below}
use Rattle.zp_area.proofs.NotedBlocks.{starts-to, starts-from}
use Rattle.zp_buddy.specs.Choices.{frames_in}
use Rattle.zp_buddy.specs.Sound.{IsSound}
use Rattle.zp_buddy.proofs.Settled.{IsRestated, IsSettled, kind_inside, removed_list, restated_same, settled_filter, settled_frames, settled_front, settled_sound, starts_block, starts_row}
use Rattle.zp_model.specs.Lawful.{Here}

-- s' and l' are s and l with the high halves of (h, o) down to order k, each free and in front of its list
record IsSplit (h k o : ℕ) (t : PageblockType) (s s' : List State) (l l' : List (List ℕ)) : Type 0 where
  high : (j : ℕ) → k ≤ j → j < o → state_at s' (h + 2 ^ j) ≡ Free j
  other : (g : ℕ) → ((j : ℕ) → k ≤ j → j < o → g ≡ h + 2 ^ j → ⊥) → state_at s' g ≡ state_at s g
  listed : (j : ℕ) → k ≤ j → j < o → list_at l' (list_number j t) ≡ (h + 2 ^ j) ∷ list_at l (list_number j t)
  unlisted : (r : ℕ) → ((j : ℕ) → k ≤ j → j < o → r ≡ list_number j t → ⊥) → list_at l' r ≡ list_at l r
  pages : length s' ≡ length s
  table : length l' ≡ length l

-- no half is added yet
split_none : (h o : ℕ) (t : PageblockType) (s : List State) (l : List (List ℕ)) → IsSplit h o o t s s l l
split_none h o t s l = record {
  high = λ j lo hi. absurd (omega arith);
  other = λ g f. refl;
  listed = λ j lo hi. absurd (omega arith);
  unlisted = λ r f. refl;
  pages = refl;
  table = refl;
}

-- the high half of order j is added to those of the orders above
split_added : (m : ℕ) (a : Blocks) (h j o : ℕ) (s : List State) (l : List (List ℕ)) (kinds : List PageblockType) →
    IsSplit h (j + 1) o (kind_at m kinds h) s a.rows.states l a.rows.lists → a.kinds ≡ kinds → j + 1 ≤ o → IsBlock m (length s) h o → lists_count m ≤ length l →
    IsSplit h j o (kind_at m kinds h) s (added m a (h + 2 ^ j) j).rows.states l (added m a (h + 2 ^ j) j).rows.lists
split_added m a h j o s l kinds x ek le block table =
    let t : PageblockType = kind_at m kinds h in
    let g : ℕ = h + 2 ^ j in
    let q : ℕ = list_number j t in
    let v : List ℕ = g ∷ list_at a.rows.lists q in
    let less : 2 ^ j < 2 ^ o = pow_below j o (omega arith) in
    let pos : 0 < 2 ^ j = pow_pos j in
    let same : kind_at m a.kinds g ≡ t = rw ek (kind_inside m kinds h o g block.aligned block.order (omega arith) (omega arith)) in
    let in_table : q < lists_count m = list_number_below m j t (omega arith) in
    rw same (record {
      high = λ i p below. elim (cases_eq i j) [
        | inl e ↦ rw e (get_or-set_same a.rows.states g (Free j) Tail (omega arith))
        | inr ne ↦ get_or-set_other a.rows.states g _ _ Tail (omega (arith, pow_below j i (omega arith))) ∙ x.high i (omega arith) below
      ];
      other = λ i f. get_or-set_other a.rows.states g i _ Tail (f j (omega arith) (omega arith)) ∙ x.other i (λ i p q. f i (omega arith) q);
      listed = λ i p below. elim (cases_eq i j) [
        | inl e ↦ rw e (get_or-set_same a.rows.lists q v [] (omega arith) ∙ ap (λ xs. g ∷ xs) (x.unlisted q (λ n p lt e. omega arith)))
        | inr ne ↦ get_or-set_other a.rows.lists q (list_number i t) v [] (omega arith) ∙ x.listed i (omega arith) below
      ];
      unlisted = λ r f. get_or-set_other a.rows.lists q r v [] (f j (omega arith) (omega arith)) ∙ x.unlisted r (λ i p q. f i (omega arith) q);
      pages = length-set a.rows.states g (Free j) ∙ x.pages;
      table = length-set a.rows.lists q v ∙ x.table;
    })

-- all halves are added
split_halves : (d m : ℕ) (a : Blocks) (h k o : ℕ) (s : List State) (l : List (List ℕ)) (kinds : List PageblockType) → IsSplit h (k + d) o (kind_at m kinds h) s a.rows.states l a.rows.lists → a.kinds ≡ kinds → k + d ≤ o →
    IsBlock m (length s) h o → lists_count m ≤ length l → IsSplit h k o (kind_at m kinds h) s (halves_added m a h k d).rows.states l (halves_added m a h k d).rows.lists × ((halves_added m a h k d).kinds ≡ kinds)
split_halves zero m a h k o s l kinds x ek le block table = let here : k + 0 ≡ k = omega arith in (rw here at x, ek)
split_halves (suc d) m a h k o s l kinds x ek le block table =
    let up : k + suc d ≡ k + d + 1 = omega arith in
    split_halves d m (added m a (h + 2 ^ (k + d)) (k + d)) h k o s l kinds (split_added m a h (k + d) o s l kinds (rw up at x) ek (omega arith) block table) ek (omega arith) block table

-- which high half begins at g, or that none does
find_high : (h k o g : ℕ) → ((i : ℕ) × High h k o g i) ⊎ ((i : ℕ) → High h k o g i → ⊥)
find_high h k zero g = inr (λ i y. omega arith)
find_high h k (suc o) g =
    elim (find_high h k o g) [
      | inl x ↦ inl (x.0, (x.1.0, omega arith, x.1.2))
      | inr none ↦
          elim (cases_eq g (h + 2 ^ o)) [
            | inl e ↦ elim (cases_lt o k) [ inl below ↦ inr (λ i y. omega arith) | inr le ↦ inl (o, (le, omega arith, e)) ]
            | inr ne ↦ inr (λ i y. elim (cases_eq i o) [ inl same ↦ ne (y.2 ∙ ap (λ n. h + 2 ^ n) same) | inr other ↦ none i (y.0, omega arith, y.2) ])
          ]
    ]

-- which high half's list this one is, or that it is of none
find_row : (k o r : ℕ) (t : PageblockType) → ((i : ℕ) × (k ≤ i) × (i < o) × (r ≡ list_number i t)) ⊎ ((i : ℕ) → k ≤ i → i < o → r ≡ list_number i t → ⊥)
find_row k zero r t = inr (λ i p q e. omega arith)
find_row k (suc o) r t =
    elim (find_row k o r t) [
      | inl x ↦ inl (x.0, x.1, omega arith, x.3)
      | inr none ↦
          elim (cases_eq r (list_number o t)) [
            | inl e ↦ elim (cases_lt o k) [ inl below ↦ inr (λ i p q f. omega arith) | inr le ↦ inl (o, le, omega arith, e) ]
            | inr ne ↦ inr (λ i p q f. elim (cases_eq i o) [ inl same ↦ ne (f ∙ ap (λ n. list_number n t) same) | inr other ↦ none i p (omega arith) f ])
          ]
    ]

-- the block (h, o) of the set has left its list, and been split down to order k
record IsTaken (m h k o : ℕ) (a : Blocks) (w : Rows) : Type 0 where
  sound : IsSound m a.rows.states a.kinds a.rows.lists
  starts : Starts (block_set a) h o
  down : k ≤ o
  split : IsSplit h k o (kind_at m a.kinds h) (removed m a h o).rows.states w.states (removed m a h o).rows.lists w.lists

module _ {m h k o : ℕ} {a : Blocks} {w : Rows} (x : IsTaken m h k o a w) where
  -- a block that starts in it is the block
  alone : (g j : ℕ) → Starts (block_set a) g j → h ≤ g → g < h + 2 ^ o → (g ≡ h) × (j ≡ o)
  alone g j st lo hi = x.sound.normal.apart g j h o g st x.starts (omega arith) (omega (arith, pow_pos j)) lo hi

  -- the states after the taking have the blocks of a split
  taken-to : (g j : ℕ) → Starts (blocks_of w.states) g j → AfterSplit (Starts (block_set a)) h k o g j
  taken-to g j st =
      let now : state_at w.states g ≡ Free j = starts-to w.states g j st in
      elim (find_high h k o g) [
        | inl y ↦
            let e : g ≡ h + 2 ^ y.0 = y.1.2 in
            let high : state_at w.states (h + 2 ^ y.0) ≡ Free y.0 = x.split.high y.0 y.1.0 y.1.1 in
            let same : y.0 ≡ j = cc in
            inr (rw same at y.1)
        | inr none ↦
            let was = x.split.other g (λ i p q e. none i (p, q, e)) in
            elim (cases_eq g h) [
              | inl same ↦
                  let b : IsBlock m (length a.rows.states) h o = starts_block m a h o x.sound x.starts in
                  let tail : state_at (removed m a h o).rows.states h ≡ Tail = get_or-set_same a.rows.states h Tail Tail (omega (arith, pow_pos o)) in
                  cc
              | inr ne ↦ inl (starts-from a.rows.states g j (sym (get_or-set_other a.rows.states h g Tail Tail ne) ∙ sym was ∙ now), ne)
            ]
      ]

  taken-from : (g j : ℕ) → AfterSplit (Starts (block_set a)) h k o g j → Starts (blocks_of w.states) g j
  taken-from g j (inr y) = starts-from w.states g j (rw y.2 (x.split.high j y.0 y.1))
  taken-from g j (inl y) =
      starts-from w.states g j (x.split.other g (λ i p q e.
      let lies = high_lies h k o g i (p, q, e) in
      y.1 (alone g j y.0 (omega arith) (omega (arith, pow_pos i))).0)
      ∙ get_or-set_other a.rows.states h g Tail Tail y.1 ∙ starts-to a.rows.states g j y.0)

  taken_cover : (IsNormal m (Starts (blocks_of w.states)) (In (cover (blocks_of w.states)))) × (cover (blocks_of w.states) ≡ without (cover (block_set a)) h k)
  taken_cover =
      cover-split m (block_set a) (blocks_of w.states) h o k x.sound.normal x.starts x.down
      (length-map w.states free_order ∙ x.split.pages ∙ length-set a.rows.states h Tail ∙ sym (length-map a.rows.states free_order)) taken-to taken-from

  -- the free list of the block's order and type loses the block, and those of its halves get them
  taken_list : (r : ℕ) → r < lists_count m → settled m (cover (blocks_of w.states)) a.kinds r (list_at a.rows.lists r) ≡ list_at w.lists r
  taken_list r below =
      let t : PageblockType = kind_at m a.kinds h in
      let b : pageblock_type_number t < pageblock_types = number_below t in
      let top : o ≤ m = x.sound.normal.order h o x.starts in
      let al = x.sound.normal.aligned h o x.starts in
      let old = x.sound.listed r below in
      let other : (g : ℕ) → not (g == h) ≡ true → g ≢ h = λ g f e. both_ways (g == h) (not-true (g == h) f) (eq-eqb g h e) in
      let gone : list_at (removed m a h o).rows.lists r ≡ without_page h (list_at a.rows.lists r) =
      removed_list m a h o r (λ on. starts_row m a h o r x.sound x.starts below on) (omega (arith, list_number_below m o t top)) in
      let stays : (g : ℕ) → Here m (block_set a) a.kinds r g → not (g == h) ≡ true → Here m (blocks_of w.states) a.kinds r g =
      λ g here f. (taken-from g (r / pageblock_types) (inl (here.0, other g f)), here.1) in
      let high : (g i : ℕ) → High h k o g i → pageblock_type_number (kind_at m a.kinds g) ≡ pageblock_type_number t = λ g i y.
      let lies = high_lies h k o g i y in
      ap pageblock_type_number (kind_inside m a.kinds h o g al top (omega arith) (omega (arith, pow_pos i))) in
      elim (find_row k o r t) [
        | inl y ↦
            let i : ℕ = y.0 in
            let e : r ≡ pageblock_types * i + pageblock_type_number t = y.3 in
            let d : r / pageblock_types ≡ i = omega arith in
            let hi : High h k o (h + 2 ^ i) (r / pageblock_types) = rw d (y.1, y.2, refl) in
            let lies = high_lies h k o (h + 2 ^ i) (r / pageblock_types) hi in
            let more : list_at w.lists r ≡ (h + 2 ^ i) ∷ list_at (removed m a h o).rows.lists r = rw y.3 (x.split.listed i y.1 y.2) in
            settled_front (blocks_of w.states) taken_cover.0 old (λ g. not (g == h)) stays (h + 2 ^ i)
            (taken-from (h + 2 ^ i) (r / pageblock_types) (inr hi), high _ _ hi ∙ omega arith)
            (λ here. let z = alone (h + 2 ^ i) (r / pageblock_types) here.0 (omega arith) (omega (arith, pow_pos (r / pageblock_types))) in omega (arith, pow_pos i))
            (λ g here. elim (taken-to g (r / pageblock_types) here.0) [
              | inl z ↦ inr ((z.0, here.1), rw (ne_eqb g h z.1) refl)
              | inr z ↦ inl (z.2 ∙ ap (λ n. h + 2 ^ n) d)
            ])
            ∙ sym (more ∙ ap (λ xs. (h + 2 ^ i) ∷ xs) gone)
        | inr none ↦
            settled_filter (blocks_of w.states) taken_cover.0 old (λ g. not (g == h)) stays
            (λ g here. elim (taken-to g (r / pageblock_types) here.0) [
              | inl z ↦ ((z.0, here.1), rw (ne_eqb g h z.1) refl)
              | inr z ↦ absurd (none (r / pageblock_types) z.0 z.1 (omega (arith, here.1, high _ _ z)))
            ])
            ∙ sym (x.split.unlisted r none ∙ gone)
      ]

  -- each page of a high half heads a free block, the block's head none, and what is noted of any other stays
  taken_state : (g : ℕ) → IsRestated (state_at a.rows.states g) (state_at w.states g)
  taken_state g =
      elim (find_high h k o g) [
        | inl y ↦ let e : state_at w.states g ≡ Free y.0 = rw y.1.2 (x.split.high y.0 y.1.0 y.1.1) in rw e refl
        | inr none ↦
            let was = x.split.other g (λ i p q e. none i (p, q, e)) in
            elim (cases_eq g h) [
              | inl same ↦
                  let b : IsBlock m (length a.rows.states) h o = starts_block m a h o x.sound x.starts in
                  let now : state_at w.states g ≡ Tail = was ∙ rw same (get_or-set_same a.rows.states h Tail Tail (omega (arith, pow_pos o))) in
                  let free : state_at a.rows.states g ≡ Free o = rw same (starts-to a.rows.states h o x.starts) in
                  rw (now, free) refl
              | inr ne ↦ rw (was ∙ get_or-set_other a.rows.states h g Tail Tail ne) (restated_same _)
            ]
      ]

  taken : IsSettled m (without (cover (block_set a)) h k) a.rows.states w.states a.kinds a.rows.lists w.lists
  taken =
      let t : PageblockType = kind_at m a.kinds h in
      let top : o ≤ m = x.sound.normal.order h o x.starts in
      let below : list_number o t < lists_count m = list_number_below m o t top in
      record {
        normal = taken_cover.0;
        free = taken_cover.1;
        restates = taken_state;
        distinct = λ r lt. (x.sound.listed r lt).distinct;
        settles = taken_list;
        stays = λ r ge. x.split.unlisted r (λ j p q e. omega (arith, list_number_below m j t (omega arith))) ∙ get_or-set_other a.rows.lists (list_number o t) r _ [] (omega arith);
        aside = λ r p ge on u. x.sound.aside r p ge on (and_parts _ _ (sym (has-without_any _ h k p) ∙ u)).0;
        most = x.sound.pages;
        enough = x.sound.table;
        pages = x.split.pages ∙ length-set a.rows.states h Tail;
        table = x.split.table ∙ length-set a.rows.lists _ _;
      }

-- what the taking leaves of a
pub record IsLeft (m h k : ℕ) (a n : Blocks) : Type 0 where
  pub sound : IsSound m n.rows.states n.kinds n.rows.lists
  pub pages : length n.rows.states ≡ length a.rows.states
  pub kinds : n.kinds ≡ a.kinds
  pub after : frames_in m n ≡ with_area (frames_in m a) (leave (frames_in m a).area h k)

pub left_split : (m : ℕ) (a : Blocks) (h k o : ℕ) → IsSound m a.rows.states a.kinds a.rows.lists → Starts (block_set a) h o → k ≤ o → IsLeft m h k a (split_off m a h o k)
unfolding leave
left_split m a h k o x s le =
    let r : Blocks = removed m a h o in
    let down : k + (o - k) ≡ o = omega arith in
    let block : IsBlock m (length r.rows.states) h o = rw (length-set a.rows.states h Tail) (starts_block m a h o x s) in
    let w = split_halves (o - k) m r h k o r.rows.states r.rows.lists a.kinds (rw down (split_none h o (kind_at m a.kinds h) r.rows.states r.rows.lists)) refl (omega arith) block
    (rw (length-set a.rows.lists (list_of_block m a h o) (without_page h (list_at a.rows.lists (list_of_block m a h o)))) x.table) in
    let y : IsTaken m h k o a (split_off m a h o k).rows = record { sound = x; starts = s; down = le; split = w.0 } in
    record {
      sound = rw w.1 (settled_sound (taken y));
      pages = w.0.pages ∙ length-set a.rows.states h Tail;
      kinds = w.1;
      after = rw w.1 (settled_frames (taken y));
    }
