-- Page states, types and lists that agree with a normal set of free blocks are what settling makes of those before.
use Rattle.std.proofs.Common.{ℕ, ◌+◌, ◌-◌, ◌/◌, ◌%◌, ◌^◌, ◌≡◌, ◌≤◌, ◌<◌, ◌==◌, ◌⊎◌, inl, inr, refl, sym, ◌∙◌, ap, arith, Bool, true, false, not, List, [], ◌∷◌, length, take, get_or, get_or-set_same, get_or-set_other, get_or-take, length-set, Option, Some, None}
use Rattle.std.specs.List.{find, filter, IsDistinct}
use Rattle.std.proofs.lemmas.Nat.{pow_pos}
use Rattle.std.proofs.lemmas.Bool.{cases_eq, false_from_ne_true, ne_eqb}
use Rattle.std.proofs.lemmas.List.{ext_get_or, length-map}
use Rattle.std.proofs.lemmas.List.FromFn.{fill_by_all, get_or-map-range_with_len, length-map-range_with_len}
use Rattle.zp_model.specs.declared.constants.TheConstants.{MAX_PAGES}
use Rattle.zp_model.specs.declared.pageblock_type.PageblockType.{PageblockType}
use Rattle.zp_model.specs.declared.pageblock_type.PageblockType.TheVariants.{Movable}
use Rattle.zp_model.specs.declared.state.State.{State}
use Rattle.zp_model.specs.declared.state.State.TheVariants.{Tail}
use Rattle.zp_model.specs.Block.{is_max, IsBlock}
use Rattle.zp_model.specs.BlockSet.{Starts, cover, max_blocks, orders_from}
use Rattle.zp_model.specs.PageblockType.{pageblock_types}
use Rattle.zp_model.specs.Rows.{list_at, state_at, without_page, IsOn}
use Rattle.zp_model.specs.Area.{belongs, kind_at, lists_count, settled, settle}
use Rattle.zp_model.specs.Frames.{restate, restated, with_area}
use Rattle.zp_model.proofs.Heads.{number_around}
use Rattle.zp_model.proofs.Normal.{IsNormal}
use Rattle.zp_model.proofs.Pages.{In, is_max-to}
use Rattle.zp_model.proofs.Maximal.{maximal-apart}
use Rattle.zp_model.proofs.MaximalBlocks.{max-unique}
use Rattle.zp_model.proofs.Covers.{has_below, length-cover}
use Rattle.zp_model.proofs.Settles.{belongs-to, belongs-from, filter_all, settled_kept, settled_new}
use Rattle.zp_laws.proofs.Counting.{same_tests}
use Rattle.zp_laws.proofs.Settling.{distinct-settled, held-settled}
use Rattle.zp_area.specs.Blocks.{Blocks, block_set, list_of_block, noted, removed}
use Rattle.zp_area.specs.NotedBlocks.{free_order, blocks_of}
use Rattle.zp_area.proofs.Filters.{filter_same}
use Rattle.zp_area.proofs.OneBlock.{one_at}
use Rattle.zp_area.proofs.NotedBlocks.{block_at, free_lists, sides_same}
use Rattle.zp_buddy.specs.Sound.{area_of, frames_of, IsSound}
use Rattle.zp_model.proofs.FirstFound.{find_only}
use Rattle.zp_model.specs.Lawful.{Here, IsListed}

-- a set of pages says of as many pages as are noted whether it has them
pub length-pages : (s : List State) → length (cover (blocks_of s)) ≡ length s
length-pages s = length-cover (blocks_of s) ∙ length-map s free_order

-- a block of a sound area lies in the zone
pub starts_block : (m : ℕ) (a : Blocks) (h o : ℕ) → IsSound m a.rows.states a.kinds a.rows.lists → Starts (block_set a) h o → IsBlock m (length a.rows.states) h o
starts_block m a h o x st =
    let p : 0 < 2 ^ o = pow_pos o in
    let last : h + 2 ^ o - 1 < length (cover (block_set a)) = has_below _ _ (x.normal.inside h o st (h + 2 ^ o - 1) (omega arith) (omega arith)) in
    record { order = x.normal.order h o st; aligned = x.normal.aligned h o st; inside = omega (arith, length-pages a.rows.states) }

-- a free list on which its head stands is that of its order and its pageblock's type
pub starts_row : (m : ℕ) (a : Blocks) (h o r : ℕ) → IsSound m a.rows.states a.kinds a.rows.lists → Starts (block_set a) h o → r < lists_count m → IsOn a.rows.lists r h → r ≡ list_of_block m a h o
starts_row m a h o r x st lt on =
    let here : Here m (block_set a) a.kinds r h = (x.listed r lt).to h on in
    let j : r / pageblock_types ≡ o = one_at (block_set a) h o (r / pageblock_types) st here.0 in
    omega (arith, here.1)

-- without a block, its head is on no list that it was on
pub removed_list : (m : ℕ) (a : Blocks) (h o r : ℕ) → (IsOn a.rows.lists r h → r ≡ list_of_block m a h o) → list_of_block m a h o < length a.rows.lists →
    list_at (removed m a h o).rows.lists r ≡ without_page h (list_at a.rows.lists r)
removed_list m a h o r only lt =
    let q : ℕ = list_of_block m a h o in
    let hs : List ℕ = without_page h (list_at a.rows.lists q) in
    elim (cases_eq r q) [
      | inl e ↦ rw e (get_or-set_same a.rows.lists q hs [] lt)
      | inr ne ↦ get_or-set_other a.rows.lists q r hs [] ne ∙ sym (filter_all (λ g. not (g == h)) (list_at a.rows.lists r) (λ g on. rw (ne_eqb g h (λ e. ne (only (rw e at on)))) refl))
    ]

-- the head of a block of the set is a page of it
pub start_in : (m : ℕ) (a : Blocks) → IsSound m a.rows.states a.kinds a.rows.lists → (g i : ℕ) → Starts (block_set a) g i → In (cover (block_set a)) g
start_in m a x g i w = x.normal.inside g i w g (omega arith) (omega (arith, pow_pos i))

-- another note of a page that heads no free block leaves the area sound
pub noted_sound : (m : ℕ) (a : Blocks) (p : ℕ) (n : State) → block_set (noted a p n) ≡ block_set a → IsSound m a.rows.states a.kinds a.rows.lists →
    IsSound m (noted a p n).rows.states a.kinds a.rows.lists
noted_sound m a p n e x = record {
  pages = rw (length-set a.rows.states p n) x.pages;
  table = x.table;
  normal = rw e x.normal;
  listed = λ r lt. rw e (x.listed r lt);
  aside = λ r q ge on u. x.aside r q ge on (rw e at u);
}

-- a page of a block lies in the pageblock of its head
pub kind_inside : (m : ℕ) (kinds : List PageblockType) (h o i : ℕ) → h % 2 ^ o ≡ 0 → o ≤ m → h ≤ i → i < h + 2 ^ o → kind_at m kinds i ≡ kind_at m kinds h
kind_inside m kinds h o i al le a b = ap (λ n. get_or kinds n Movable) (number_around h i o m le al a b)

pub find_never : {X : Type 0} (p : X → Bool) (xs : List X) → ((x : X) → p x ≡ false) → find p xs ≡ None
find_never p [] f = refl
find_never p (x ∷ xs) f = rw (f x) (find_never p xs f)

pub one_order : (m : ℕ) (u : List Bool) (h k j : ℕ) → is_max m u h k ≡ true → is_max m u h j ≡ true → j ≡ k
one_order m u h k j a b =
    (maximal-apart m (In u) h j h k h (is_max-to m u h j b) (is_max-to m u h k a)
    (omega arith) (omega (arith, pow_pos j)) (omega arith) (omega (arith, pow_pos k))).1

module _ (m : ℕ) (s : List (Option ℕ)) (n : IsNormal m (Starts s) (In (cover s))) where
  max_block_at : (h : ℕ) → h < length s → (o : Option ℕ) → get_or s h None ≡ o → get_or (max_blocks m (cover s)) h None ≡ o
  unfolding max_blocks
  max_block_at h lt o e =
      get_or-map-range_with_len (λ h. find (is_max m (cover s) h) (orders_from m 0)) 0 (length (cover s)) h h None (omega (arith, length-cover s)) (omega arith) ∙ found o e
    where
      found : (o : Option ℕ) → get_or s h None ≡ o → find (is_max m (cover s) h) (orders_from m 0) ≡ o
      found (Some k) e =
          let le : k ≤ m = n.order h k e in
          let top = (max-unique m (Starts s) (cover s) n h k).0 e in
          find_only (is_max m (cover s) h) 0 (m + 1 - 0) k (omega arith) (omega arith) top (λ i f. one_order m (cover s) h k i top f)
      found None e = find_never _ _ (λ k. false_from_ne_true _ (λ t. let st : Starts s h k = (max-unique m (Starts s) (cover s) n h k).1 t in cc))

  -- a normal set of blocks is that of the maximal blocks of its pages
  pub set_maximal : s ≡ max_blocks m (cover s)
  unfolding max_blocks
  set_maximal =
      ext_get_or None s (max_blocks m (cover s)) (sym (length-map-range_with_len _ 0 (length (cover s)) ∙ length-cover s)) (λ h lt. sym (max_block_at h lt (get_or s h None) refl))

-- a state that is what the one before is restated to, where its own free block is the one there
abbrev pub IsRestated : State → State → Type 0
IsRestated before now = now ≡ restate (free_order now) before

pub restated_same : (s : State) → IsRestated s s
restated_same s = grind arith

pub restated_none : (s : State) → IsRestated s (restate None s)
restated_none s = grind arith

-- states in which each page is restated are what the ones before are restated to
pub restated_all : (m : ℕ) (s s' : List State) → IsNormal m (Starts (blocks_of s')) (In (cover (blocks_of s'))) → length s' ≡ length s →
    ((g : ℕ) → IsRestated (state_at s g) (state_at s' g)) → s' ≡ restated m (cover (blocks_of s')) s
unfolding restated
restated_all m s s' n len each =
    fill_by_all (λ h. restate (get_or (max_blocks m (cover (blocks_of s'))) h None) (state_at s h)) s' (length s) Tail len
    (λ g lt. each g ∙ ap (λ o. restate o (state_at s g)) (sym (block_at s' g) ∙ ap (λ b. get_or b g None) (set_maximal m (blocks_of s') n)))

-- the states, types and lists that are left where these pages are free now, and what they come from
pub record IsSettled (m : ℕ) (u : List Bool) (s s' : List State) (kinds : List PageblockType) (l l' : List (List ℕ)) : Type 0 where
  pub normal : IsNormal m (Starts (blocks_of s')) (In (cover (blocks_of s')))
  pub free : cover (blocks_of s') ≡ u
  pub restates : (g : ℕ) → IsRestated (state_at s g) (state_at s' g)
  pub distinct : (r : ℕ) → r < lists_count m → IsDistinct (λ x y. x == y) (list_at l r)
  pub settles : (r : ℕ) → r < lists_count m → settled m (cover (blocks_of s')) kinds r (list_at l r) ≡ list_at l' r
  pub stays : (r : ℕ) → lists_count m ≤ r → list_at l' r ≡ list_at l r
  pub aside : (r p : ℕ) → lists_count m ≤ r → IsOn l r p → In u p → ⊥
  pub most : length s ≤ MAX_PAGES
  pub enough : lists_count m ≤ length l
  pub pages : length s' ≡ length s
  pub table : length l' ≡ length l

module _ {m : ℕ} {u : List Bool} {s s' : List State} {kinds : List PageblockType} {l l' : List (List ℕ)} (x : IsSettled m u s s' kinds l l') where
  settled_listed : (r : ℕ) → r < lists_count m → IsListed m (blocks_of s') kinds r (list_at l' r)
  settled_listed r lt =
      let held = held-settled m (cover (blocks_of s')) kinds r in
      rw (← x.settles r lt) (record {
        distinct = distinct-settled m _ kinds r _ (x.distinct r lt);
        to = λ h e. belongs-to m _ kinds r h x.normal (sym (held h _) ∙ e);
        from = λ h w. held h _ ∙ belongs-from m _ kinds r h x.normal w;
      })

  pub settled_sound : IsSound m s' kinds l'
  settled_sound = record {
    pages = omega arith;
    table = omega arith;
    normal = x.normal;
    listed = settled_listed;
    aside = λ r p ge on v. x.aside r p ge (rw (x.stays r ge) at on) (rw x.free at v);
  }

  pub settled_frames : frames_of m s' kinds l' ≡ with_area (frames_of m s kinds l) (settle (record (area_of m s kinds l) { free = u }))
  unfolding settle
  settled_frames =
      let len : lists_count m ≤ length l' = omega arith in
      let each : (r : ℕ) → r < lists_count m → list_at l' r ≡ settled m u kinds r (list_at (take (lists_count m) l) r) =
      λ r lt. sym (x.settles r lt) ∙ ap (λ v. settled m v kinds r (list_at l r)) x.free ∙ ap (settled m u kinds r) (sym (get_or-take (lists_count m) l r [] lt)) in
      let states = restated_all m s s' x.normal x.pages x.restates ∙ ap (λ v. restated m v s) x.free in
      cc (x.free, free_lists m l' _ len each, states, sides_same m l l' x.table x.stays)

-- a list that loses what does not pass a test, and gets at most one head
module _ {m r : ℕ} {kinds : List PageblockType} {xs : List ℕ} {s : List (Option ℕ)} (t : List (Option ℕ)) (n : IsNormal m (Starts t) (In (cover t))) (old : IsListed m s kinds r xs) (p : ℕ → Bool)
    (stays : (g : ℕ) → Here m s kinds r g → p g ≡ true → Here m t kinds r g) where
  kept : ((g : ℕ) → Here m s kinds r g → Here m t kinds r g → p g ≡ true) → filter (belongs m (cover t) kinds r) xs ≡ filter p xs
  kept f = filter_same _ p xs (λ g on. same_tests _ _ (λ b. f g (old.to g on) (belongs-to m t kinds r g n b)) (λ b. belongs-from m t kinds r g n (stays g (old.to g on) b)))

  pub settled_filter : ((g : ℕ) → Here m t kinds r g → Here m s kinds r g × (p g ≡ true)) → settled m (cover t) kinds r xs ≡ filter p xs
  settled_filter f = settled_kept m t kinds r xs _ n (kept (λ g a b. (f g b).1)) (λ g w. old.from g (f g w).0)

  pub settled_front : (b : ℕ) → Here m t kinds r b → (Here m s kinds r b → ⊥) →
      ((g : ℕ) → Here m t kinds r g → (g ≡ b) ⊎ (Here m s kinds r g × (p g ≡ true))) → settled m (cover t) kinds r xs ≡ b ∷ filter p xs
  settled_front b here new f =
      settled_new m t kinds r b xs _ n
      (kept (λ g a w. elim (f g w) [ inl same ↦ absurd (new (rw same at a)) | inr y ↦ y.1 ])) here (λ on. new (old.to b on))
      (λ g w. elim (f g w) [ inl same ↦ inl same | inr y ↦ inr (old.from g y.0) ])
