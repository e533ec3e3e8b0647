-- A run that comes back: its free buddies leave the free area to join it, and what is left is as the definition of a giving back says.
use Rattle.std.proofs.Common.{ℕ, suc, zero, ◌+◌, ◌-◌, ◌*◌, ◌/◌, ◌%◌, ◌^◌, ◌≡◌, ◌≤◌, ◌<◌, ◌==◌, ◌≢◌, ◌⊎◌, inl, inr, refl, sym, ◌∙◌, ap, arith, Bool, true, not, ◌&&◌, List, [], ◌∷◌, length, get_or-set_same, get_or-set_other, length-set, None}
use Rattle.std.specs.List.{filter}
use Rattle.std.proofs.lemmas.Nat.{pow_pos}
use Rattle.std.proofs.lemmas.Bool.{cases_eq, not-true, and_parts, and_from, eq-eqb, ne_eqb, false≢true, both_ways}
use Rattle.std.proofs.lemmas.List.{get_or-drop, length-map}
use Rattle.std.proofs.lemmas.List.Sums.{count_by-le-length}
use Rattle.std.proofs.Math.Seq.{map-set_same}
use Rattle.zp_model.specs.declared.state.State.{State}
use Rattle.zp_model.specs.declared.state.State.TheVariants.{Tail, Free}
use Rattle.zp_model.specs.Block.{head, in_run, size, with_run, IsBlock, IsBuddy}
use Rattle.zp_model.specs.BlockSet.{Starts, cover}
use Rattle.zp_model.specs.Frames.{IsClear, given, restate}
use Rattle.zp_model.specs.PageblockType.{pageblock_type_number, pageblock_types}
use Rattle.zp_model.specs.Rows.{list_at, state_at, IsOn}
use Rattle.zp_model.specs.Area.{kind_at, lists_count, settled}
use Rattle.zp_model.specs.Take.{give}
use Rattle.zp_model.proofs.Heads.{two, head_le, lt_head, head_aligned, head_of, head_self}
use Rattle.zp_model.proofs.Normal.{Filled, IsNormal}
use Rattle.zp_model.proofs.Pages.{In, run_cases}
use Rattle.zp_model.proofs.Join.{AfterJoin, IsGrown, Joined}
use Rattle.zp_model.proofs.Covers.{cover-join, has_below, length-with, with-decides}
use Rattle.zp_model.proofs.Settles.{filter_all}
use Rattle.zp_laws.proofs.Counting.{in_run-no, in_run-yes, same_tests, size-without, without-with_run}
use Rattle.zp_area.specs.Blocks.{Blocks, block_set, added, noted, removed, list_of_block}
use Rattle.zp_area.specs.Chains.{IsJoinedUp}
use Rattle.zp_area.specs.NotedBlocks.{free_order, blocks_of}
use Rattle.zp_area.proofs.Filters.{filter_same, filter_twice, stands_filter-to}
use Rattle.zp_model.proofs.TypeNumbers.{number_below, list_number_below}
use Rattle.zp_area.proofs.NotedBlocks.{starts-to, starts-from}
use Rattle.zp_buddy.specs.Choices.{frames_in}
use Rattle.zp_buddy.specs.Sound.{frames_of, IsSound}
use Rattle.zp_buddy.proofs.Settled.{IsRestated, IsSettled, length-pages, noted_sound, removed_list, restated_none, restated_same, settled_filter, settled_frames, settled_front, settled_sound, start_in, starts_block, starts_row}
use Rattle.zp_model.specs.Lawful.{Here}

past : (b j i : ℕ) → (b ≤ i → i < b + 2 ^ j → ⊥) → (i < b) ⊎ (b + 2 ^ j ≤ i)
past b j i f = elim (run_cases b j i) [ inl w ↦ absurd (f w.0 w.1) | inr out ↦ out ]

-- whether a head stands outside the run (b, j)
abbrev pub is_outside : ℕ → ℕ → ℕ → Bool
is_outside b j x = not (in_run b j x)

outside-to : (b j x : ℕ) → is_outside b j x ≡ true → (x < b) ⊎ (b + 2 ^ j ≤ x)
outside-to b j x e = past b j x (λ lo hi. both_ways (in_run b j x) (not-true (in_run b j x) e) (in_run-yes b j x lo hi))

outside-from : (b j x : ℕ) → (x < b) ⊎ (b + 2 ^ j ≤ x) → is_outside b j x ≡ true
outside-from b j x w = rw (in_run-no b j x w) refl

-- what stays past the double is what stays past the run and isn't the buddy
outside_both : (b j c d x : ℕ) → IsBuddy b j c d → (c ≤ x → x < c + 2 ^ j → x ≡ c) → (is_outside b j x && not (x == c)) ≡ is_outside d (j + 1) x
outside_both b j c d x y only =
    same_tests _ _
    (λ e.
    let a = and_parts _ _ e in
    let out = outside-to b j x a.0 in
    outside-from d (j + 1) x (past d (j + 1) x (λ lo hi. both_ways (x == c) (not-true (x == c) a.1) (eq-eqb x c (only (omega (arith, two j)) (omega (arith, two j)))))))
    (λ e.
    let out = outside-to d (j + 1) x e in
    and_from _ _ (outside-from b j x (past b j x (omega (arith, two j)))) (rw (ne_eqb x c (omega (arith, two j, pow_pos j))) refl))

-- what is known of the run that comes back
pub record IsBack (m h k : ℕ) (a : Blocks) : Type 0 where
  pub sound : IsSound m a.rows.states a.kinds a.rows.lists
  pub block : IsBlock m (length a.rows.states) h k
  pub clear : (i : ℕ) → h ≤ i → i < h + 2 ^ k → In (cover (block_set a)) i → ⊥
  pub aside : (r i : ℕ) → lists_count m ≤ r → h ≤ i → i < h + 2 ^ k → IsOn a.rows.lists r i → ⊥

-- the run (h, k) has grown to (b, j): no state of that run says free, and the heads in it are gone from the lists
pub record IsJoining (m h k b j : ℕ) (f a : Blocks) : Type 0 where
  pub back : IsBack m h k f
  pub up : k ≤ j
  pub order : j ≤ m
  pub at : b ≡ head h j
  pub filled : Filled (Joined (In (cover (block_set f))) h k) b j
  pub within : (g : ℕ) → b ≤ g → g < b + 2 ^ j → state_at a.rows.states g ≡ restate None (state_at f.rows.states g)
  pub others : (g : ℕ) → (g < b) ⊎ (b + 2 ^ j ≤ g) → state_at a.rows.states g ≡ state_at f.rows.states g
  pub listed : (r : ℕ) → r < lists_count m → list_at a.rows.lists r ≡ filter (is_outside b j) (list_at f.rows.lists r)
  pub sides : (r : ℕ) → lists_count m ≤ r → list_at a.rows.lists r ≡ list_at f.rows.lists r
  pub pages : length a.rows.states ≡ length f.rows.states
  pub table : length a.rows.lists ≡ length f.rows.lists
  pub kinds : a.kinds ≡ f.kinds

no_order : (p : State) → ((k : ℕ) → p ≡ Free k → ⊥) → free_order p ≡ None
no_order p f = grind arith

-- what a state that is not free is restated to where no free block starts
restated_other : (p : State) → ((k : ℕ) → p ≡ Free k → ⊥) → p ≡ restate None p
restated_other p f = restated_same p ∙ ap (λ o. restate o p) (no_order p f)

pub joining_none : (m h k : ℕ) (f : Blocks) → IsBack m h k f → IsJoining m h k h k f f
joining_none m h k f x = record {
  back = x;
  up = omega arith;
  order = x.block.order;
  at = sym (head_self h k x.block.aligned);
  filled = λ i a b. inr (a, b);
  within = λ g a b. restated_other _ (λ i e. x.clear g a b (start_in m f x.sound g i (starts-from f.rows.states g i e)));
  others = λ g w. refl;
  listed = λ r lt. sym (filter_all (is_outside h k) (list_at f.rows.lists r) (λ g e.
      outside-from h k g (past h k g (λ lo hi. x.clear g lo hi (start_in m f x.sound g (r / pageblock_types) ((x.sound.listed r lt).to g e).0)))));
  sides = λ r ge. refl;
  pages = refl;
  table = refl;
  kinds = refl;
}

module _ {m h k b j : ℕ} {f a : Blocks} (z : IsJoining m h k b j f a) where
  head_in : (b ≤ h) × (h < b + 2 ^ j)
  head_in = rw z.at (head_le h j, lt_head h j)

  -- what has grown is a block of the zone
  grown_block : IsBlock m (length a.rows.states) b j
  grown_block =
      let pos : 0 < 2 ^ j = pow_pos j in
      let inside : h + 2 ^ k ≤ length f.rows.states = z.back.block.inside in
      record {
        order = z.order;
        aligned = rw z.at (head_aligned h j);
        inside = elim (z.filled (b + 2 ^ j - 1) (omega arith) (omega arith)) [
          | inl w ↦ let below : b + 2 ^ j - 1 < length (cover (block_set f)) = has_below _ _ w in omega (arith, length-pages f.rows.states)
          | inr w ↦ omega arith
        ];
      }

  -- a free buddy leaves the area
  joining_more : (c d : ℕ) → IsBuddy b j c d → j < m → state_at a.rows.states c ≡ Free j → IsJoining m h k d (j + 1) f (removed m a c j)
  joining_more c d y lt free =
      let x = z.back in
      let pos : 0 < 2 ^ j = pow_pos j in
      let t : 2 ^ (j + 1) ≡ 2 ^ j + 2 ^ j = two j in
      let hi : (b ≤ h) × (h < b + 2 ^ j) = head_in in
      let w : Starts (block_set f) c j = starts-from f.rows.states c j (sym (z.others c (past b j c (omega arith))) ∙ free) in
      let block : IsBlock m (length f.rows.states) c j = starts_block m f c j x.sound w in
      let below : c < length a.rows.states = omega (arith, block.inside) in
      let q : list_of_block m a c j < lists_count m = list_number_below m j _ z.order in
      let table : lists_count m ≤ length a.rows.lists = omega (arith, x.sound.table) in
      -- another head in the buddy's run is the buddy
      let only : (g i : ℕ) → Starts (block_set f) g i → c ≤ g → g < c + 2 ^ j → (g ≡ c) × (i ≡ j) =
      λ g i u p q. x.sound.normal.apart g i c j g u w (omega arith) (omega (arith, pow_pos i)) p q in
      record {
        back = x;
        up = omega arith;
        order = omega arith;
        at = sym (head_of d h (j + 1) y.double (omega arith) (omega arith));
        filled = λ i p q. elim (run_cases b j i) [ inl r ↦ z.filled i r.0 r.1 | inr out ↦ inl (x.sound.normal.inside c j w i (omega arith) (omega arith)) ];
        within = λ g p q.
            elim (cases_eq g c) [
              | inl same ↦ rw (same, starts-to f.rows.states c j w) (get_or-set_same a.rows.states c Tail Tail below)
              | inr ne ↦
                  get_or-set_other a.rows.states c g Tail Tail ne ∙ elim (run_cases b j g) [
                    | inl r ↦ z.within g r.0 r.1
                    | inr out ↦ z.others g out ∙ restated_other _ (λ i e. ne (only g i (starts-from f.rows.states g i e) (omega arith) (omega arith)).0)
                  ]
            ];
        others = λ g out. get_or-set_other a.rows.states c g Tail Tail (omega arith) ∙ z.others g (past b j g (omega arith));
        listed = λ r lt.
            let xs : List ℕ = list_at f.rows.lists r in
            removed_list m a c j r
            (λ on.
            let was = stands_filter-to (is_outside b j) c xs (rw (z.listed r lt) at on) in
            rw z.kinds (starts_row m f c j r x.sound w lt was.0))
            (omega arith)
            ∙ ap (filter (λ g. not (g == c))) (z.listed r lt)
            ∙ filter_twice (λ g. not (g == c)) (is_outside b j) xs
            ∙ filter_same _ (is_outside d (j + 1)) xs (λ g on. outside_both b j c d g y (λ p q. (only g (r / pageblock_types) ((x.sound.listed r lt).to g on).0 p q).0));
        sides = λ r ge. get_or-set_other a.rows.lists (list_of_block m a c j) r _ [] (omega arith) ∙ z.sides r ge;
        pages = length-set a.rows.states c Tail ∙ z.pages;
        table = length-set a.rows.lists (list_of_block m a c j) _ ∙ z.table;
        kinds = z.kinds;
      }

-- the joining has stopped, and the block that has grown is added
module _ {m h k b j : ℕ} {f a : Blocks} (z : IsJoining m h k b j f a) (stop : (c d : ℕ) → j < m → IsBuddy b j c d → state_at a.rows.states c ≡ Free j → ⊥) where
  grown : IsGrown m (Starts (block_set f)) (In (cover (block_set f))) h k b j
  grown = record {
    aligned = z.back.block.aligned;
    clear = z.back.clear h (omega arith) (omega (arith, pow_pos k));
    up = z.up;
    order = z.order;
    at = z.at;
    filled = z.filled;
    low = λ lt al w. stop (b + 2 ^ j) b lt (record { double = al; halves = inl (refl, refl) }) (z.others (b + 2 ^ j) (inr (omega arith)) ∙ starts-to f.rows.states (b + 2 ^ j) j w);
    high = λ g lt al e w. stop g g lt (record { double = al; halves = inr (refl, e) }) (z.others g (inl (omega (arith, pow_pos j))) ∙ starts-to f.rows.states g j w);
  }

  now_free : state_at (added m a b j).rows.states b ≡ Free j
  now_free = get_or-set_same a.rows.states b (Free j) Tail (omega (arith, (grown_block z).inside, pow_pos j))

  added_other : (g : ℕ) → g ≢ b → state_at (added m a b j).rows.states g ≡ state_at a.rows.states g
  added_other g ne = get_or-set_other a.rows.states b g (Free j) Tail ne

  -- each page of the joined block but its head is noted as no head, and all else is noted as before
  ended_state : (g : ℕ) → IsRestated (state_at f.rows.states g) (state_at (added m a b j).rows.states g)
  ended_state g =
      elim (cases_eq g b) [
        | inl same ↦ rw (same, now_free) refl
        | inr ne ↦ elim (run_cases b j g) [
          | inl w ↦ rw (added_other g ne ∙ z.within g w.0 w.1) (restated_none _)
          | inr out ↦ rw (added_other g ne ∙ z.others g out) (restated_same _)
        ]
      ]

  ended-to : (g i : ℕ) → Starts (block_set (added m a b j)) g i → AfterJoin (Starts (block_set f)) b j g i
  ended-to g i w =
      let e : state_at (added m a b j).rows.states g ≡ Free i = starts-to (added m a b j).rows.states g i w in
      elim (cases_eq g b) [
        | inl same ↦ let now : Free j ≡ Free i = sym now_free ∙ (rw same at e) in inr (same, cc)
        | inr ne ↦ elim (run_cases b j g) [
          | inl within ↦ absurd (not_free _ i (sym (added_other g ne ∙ z.within g within.0 within.1) ∙ e))
          | inr out ↦ inl (starts-from f.rows.states g i (sym (added_other g ne ∙ z.others g out) ∙ e), omega arith)
        ]
      ]
    where
      not_free : (s : State) (k : ℕ) → restate None s ≡ Free k → ⊥
      not_free s k e = grind arith

  ended-from : (g i : ℕ) → AfterJoin (Starts (block_set f)) b j g i → Starts (block_set (added m a b j)) g i
  ended-from g i (inr w) = starts-from (added m a b j).rows.states g i (rw (w.0, w.1) now_free)
  ended-from g i (inl w) =
      let ne : g ≢ b = λ e. w.1 (omega arith) (omega (arith, pow_pos j)) in
      starts-from (added m a b j).rows.states g i (added_other g ne ∙ z.others g (past b j g w.1) ∙ starts-to f.rows.states g i w.0)

  ended_cover : (IsNormal m (Starts (block_set (added m a b j))) (In (cover (block_set (added m a b j))))) × (cover (block_set (added m a b j)) ≡ with_run (cover (block_set f)) h k)
  ended_cover =
      let ls : length (block_set f) ≡ length f.rows.states = length-map f.rows.states free_order in
      cover-join m (block_set f) (block_set (added m a b j)) h k b j z.back.sound.normal (omega (arith, z.back.block.inside)) grown
      (length-map (added m a b j).rows.states free_order ∙ length-set a.rows.states b (Free j) ∙ z.pages ∙ sym ls) ended-to ended-from

  ended_list : (r : ℕ) → r < lists_count m → settled m (cover (block_set (added m a b j))) f.kinds r (list_at f.rows.lists r) ≡ list_at (added m a b j).rows.lists r
  ended_list r below =
      let q : ℕ = list_of_block m a b j in
      let v : List ℕ = b ∷ list_at a.rows.lists q in
      let t : pageblock_type_number (kind_at m f.kinds b) < pageblock_types = number_below _ in
      let number : q ≡ pageblock_types * j + pageblock_type_number (kind_at m f.kinds b) = rw z.kinds refl in
      let table : lists_count m ≤ length a.rows.lists = omega (arith, z.back.sound.table) in
      let in_table : q < lists_count m = list_number_below m j _ z.order in
      let stays : (g : ℕ) → Here m (block_set f) f.kinds r g → is_outside b j g ≡ true → Here m (block_set (added m a b j)) f.kinds r g =
      λ g here o. let out = outside-to b j g o in (ended-from g (r / pageblock_types) (inl (here.0, omega arith)), here.1) in
      let front = settled_front (block_set (added m a b j)) ended_cover.0 (z.back.sound.listed r below) (is_outside b j) stays in
      let filtered = settled_filter (block_set (added m a b j)) ended_cover.0 (z.back.sound.listed r below) (is_outside b j) stays in
      elim (cases_eq r q) [
        | inl same ↦
            let d : r / pageblock_types ≡ j = omega arith in
            let now : list_at (added m a b j).rows.lists r ≡ b ∷ list_at a.rows.lists r = rw same (get_or-set_same a.rows.lists q v [] (omega arith)) in
            front b (ended-from b (r / pageblock_types) (inr (refl, d)), omega arith)
            (λ here. z.back.clear h (omega arith) (omega (arith, pow_pos k)) (z.back.sound.normal.inside b j (rw d at here.0) h (head_in z).0 (head_in z).1))
            (λ g here. elim (ended-to g (r / pageblock_types) here.0) [ inl u ↦ inr ((u.0, here.1), outside-from b j g (past b j g u.1)) | inr u ↦ inl u.0 ])
            ∙ sym (now ∙ ap (λ xs. b ∷ xs) (z.listed r below))
        | inr other ↦
            filtered (λ g here. elim (ended-to g (r / pageblock_types) here.0) [
              | inl u ↦ ((u.0, here.1), outside-from b j g (past b j g u.1))
              | inr u ↦
                  let typed : pageblock_type_number (kind_at m f.kinds b) ≡ r % pageblock_types = rw u.0 at here.1 in
                  absurd (other (omega (arith, u.1)))
            ])
            ∙ sym (get_or-set_other a.rows.lists q r v [] other ∙ z.listed r below)
      ]

  ended : IsSettled m (with_run (cover (block_set f)) h k) f.rows.states (added m a b j).rows.states f.kinds f.rows.lists (added m a b j).rows.lists
  ended =
      let in_table : list_of_block m a b j < lists_count m = list_number_below m j _ z.order in
      let u : List Bool = cover (block_set f) in
      record {
        normal = ended_cover.0;
        free = ended_cover.1;
        restates = ended_state;
        distinct = λ r lt. (z.back.sound.listed r lt).distinct;
        settles = ended_list;
        stays = λ r ge. get_or-set_other a.rows.lists (list_of_block m a b j) r _ [] (omega arith) ∙ z.sides r ge;
        aside = λ r p ge on v.
            let lt : p < length (with_run (cover (block_set f)) h k) = has_below _ p v in
            elim ((with-decides u h k p (omega (arith, length-with u h k))).0 v) [
              | inl free ↦ z.back.sound.aside r p ge on free
              | inr run ↦ z.back.aside r p ge run.0 run.1 on
            ];
        most = z.back.sound.pages;
        enough = z.back.sound.table;
        pages = length-set a.rows.states b (Free j) ∙ z.pages;
        table = length-set a.rows.lists (list_of_block m a b j) _ ∙ z.table;
      }

-- what is noted of the head of a clear block may be forgotten
forgotten : (m h k : ℕ) (a : Blocks) → IsSound m a.rows.states a.kinds a.rows.lists → IsClear (frames_in m a) h k → block_set (noted a h Tail) ≡ block_set a
forgotten m h k a x y =
    map-set_same free_order a.rows.states h Tail Tail (sym (no_order _ (λ j e.
    false≢true (sym (y.free h (omega arith) (omega (arith, pow_pos k))) ∙ start_in m a x h j (starts-from a.rows.states h j e)))))

-- a clear block comes back, and its head is noted as a tail
pub back_noted : (m h k : ℕ) (a : Blocks) → IsSound m a.rows.states a.kinds a.rows.lists → IsClear (frames_in m a) h k → IsBack m h k (noted a h Tail)
back_noted m h k a x y =
    let e = forgotten m h k a x y in
    let len : length (noted a h Tail).rows.states ≡ length a.rows.states = length-set a.rows.states h Tail in
    let some : h + 2 ^ k ≤ length (cover (block_set a)) = y.block.inside in
    record {
      sound = noted_sound m a h Tail e x;
      block = record { order = y.block.order; aligned = y.block.aligned; inside = omega (arith, length-pages a.rows.states) };
      clear = λ i lo hi u. false≢true (sym (y.free i lo hi) ∙ (rw e at u));
      aside = λ r i ge lo hi on.
          let r2 : lists_count m + (r - lists_count m) ≡ r = omega arith in
          let there = get_or-drop (lists_count m) a.rows.lists (r - lists_count m) [] in
          both_ways _ (y.aside (r - lists_count m) i lo hi) (rw there (rw r2 on));
    }

-- what giving the block (h, k) back leaves of a
pub record IsGiven (m h k : ℕ) (a n : Blocks) : Type 0 where
  pub sound : IsSound m n.rows.states n.kinds n.rows.lists
  pub pages : length n.rows.states ≡ length a.rows.states
  pub kinds : n.kinds ≡ a.kinds
  pub size : size (cover (block_set n)) ≡ size (cover (block_set a)) + 2 ^ k
  pub after : frames_in m n ≡ given (frames_in m a) h k

given_added : (m h k g j : ℕ) (a b : Blocks) → IsSound m a.rows.states a.kinds a.rows.lists → IsClear (frames_in m a) h k → IsJoining m h k g j (noted a h Tail) b →
    ((c d : ℕ) → j < m → IsBuddy g j c d → state_at b.rows.states c ≡ Free j → ⊥) → IsGiven m h k a (added m b g j)
unfolding give
given_added m h k g j a b x clear z stop =
    let e = forgotten m h k a x clear in
    let y = rw e at (ended z stop) in
    let u : List Bool = cover (block_set a) in
    let back = without-with_run u h k clear.block.inside (λ i lo hi v. false≢true (sym (clear.free i lo hi) ∙ v)) in
    let inside : h + 2 ^ k ≤ length (cover (block_set a)) = clear.block.inside in
    record {
      sound = rw (← z.kinds) at (settled_sound y);
      pages = y.pages ∙ length-set a.rows.states h Tail;
      kinds = z.kinds;
      size = ap size y.free ∙ size-without (with_run u h k) h k (omega (arith, length-with u h k)) back.0 ∙ ap (λ q. size q + 2 ^ k) back.1;
      after = ap (λ q. frames_of m (added m b g j).rows.states q (added m b g j).rows.lists) z.kinds ∙ settled_frames y;
    }

-- the run is joined with buddies, and what it has grown to is added
pub given_joined : (i m h k g j : ℕ) (a b n : Blocks) → IsSound m a.rows.states a.kinds a.rows.lists → IsClear (frames_in m a) h k → IsJoining m h k g j (noted a h Tail) b → IsJoinedUp i m b g j n → IsGiven m h k a n
given_joined zero m h k g j a b n x clear z w = rw w.0 (given_added m h k g j a b x clear z (λ c d lt y f. w.1 c d (record { order = lt; buddy = y; free = f })))
given_joined (suc i) m h k g j a b n x clear z w = given_joined i m h k w.1 (j + 1) a (removed m b w.0 j) n x clear (joining_more z w.0 w.1 w.2.buddy w.2.order w.2.free) w.3

-- the head of a clear block is a page of the zone
pub clear_below : (m h k : ℕ) (a : Blocks) → IsClear (frames_in m a) h k → h < length a.rows.states
clear_below m h k a y = omega (arith, y.block.inside, length-pages a.rows.states, pow_pos k)

-- no more pages are free than there are
pub size-le : (s : List State) → size (cover (blocks_of s)) ≤ length s
unfolding size
size-le s = omega (arith, length-pages s, count_by-le-length (λ b. b) (cover (blocks_of s)))
