-- How the lists stand when a free block leaves whole, and when a block comes that is joined with none: its head leaves its list, or comes to the front.
use Rattle.std.proofs.Common.{ℕ, ◌+◌, ◌%◌, ◌/◌, ◌^◌, ◌≡◌, ◌≢◌, ◌≤◌, ◌<◌, ◌==◌, ◌&&◌, ◌⊎◌, ◌↔◌, inl, inr, refl, sym, ◌∙◌, ap, arith, Bool, true, false, not, List, [], ◌∷◌, ◌++◌, length, cond, get_or, Option, Some, None}
use Rattle.std.specs.List.{filter}
use Rattle.std.proofs.lemmas.Nat.{pow_pos}
use Rattle.std.proofs.lemmas.Bool.{and_parts, and_from, both_ways, cases_eq, eqb-true, eq-eqb, false_from_ne_true, ne_eqb, not-true}
use Rattle.std.proofs.lemmas.List.FromFn.{get_or-map-range_with_len}
use Rattle.zp_model.specs.PageblockType.{pageblock_type_number, pageblock_types}
use Rattle.zp_model.specs.Block.{has, head, with_run, without, IsBlock}
use Rattle.zp_model.specs.Area.{Area, belongs, kind_at, list_number, lists_count, settle, settled}
use Rattle.zp_model.specs.Take.{give, leave}
use Rattle.zp_model.specs.BlockSet.{max_blocks}
use Rattle.zp_model.specs.Frames.{restate, restated}
use Rattle.zp_model.specs.declared.state.State.{State}
use Rattle.zp_model.specs.declared.state.State.TheVariants.{Free, Tail}
use Rattle.zp_model.specs.Rows.{list_at, stands_in, state_at, without_page}
use Rattle.std.specs.Prelude.{slice_set}
use Rattle.std.proofs.lemmas.List.{ext_get_or, get_or-set_other, get_or-set_same, length-set}
use Rattle.zp_model.proofs.Covers.{has_below, length-with, length-without, with-decides, without-decides}
use Rattle.zp_model.proofs.Heads.{head_aligned, head_le, head_room, lt_head}
use Rattle.zp_model.proofs.Maximal.{Max, max-normal, maximal-apart}
use Rattle.zp_model.proofs.MaximalBlocks.{length-restated, max-unique, max_block_some, max_blocks-to, max_has, one_order, state-restated}
use Rattle.zp_model.proofs.Normal.{Filled, IsNormal, run_in_block}
use Rattle.zp_model.proofs.Pages.{In, is_max-to, is_max-from}
use Rattle.zp_model.proofs.RunGiven.{IsHeld, belongs_by, max_of}
use Rattle.zp_model.proofs.RunLists.{settled_parts}
use Rattle.zp_model.proofs.RunParts.{smaller_max}
use Rattle.zp_model.proofs.Settles.{falling_none, falling_one, filter_all, filter_same}
use Rattle.zp_model.proofs.Split.{AfterSplit, split-normal}
use Rattle.zp_model.proofs.TypeNumbers.{number_below}

-- the maximal blocks once the low run of one of them has left
pub max_split : (m : ℕ) (u : List Bool) (h o k : ℕ) → Max m u h o → k ≤ o → (g j : ℕ) → AfterSplit (Max m u) h k o g j ↔ Max m (without u h k) g j
max_split m u h o k s le g j = max-unique m (AfterSplit (Max m u) h k o) (without u h k) left g j
  where
    left : IsNormal m (AfterSplit (Max m u) h k o) (In (without u h k))
    left =
        let z = split-normal m (Max m u) (In u) (max-normal m u) h o k s le in
        record {
          order = z.order;
          aligned = z.aligned;
          apart = z.apart;
          unjoined = z.unjoined;
          covers = λ i x. z.covers i ((without-decides u h k i (omega (arith, has_below (without u h k) i x, length-without u h k))).0 x);
          inside = λ g j y i a b. let w = z.inside g j y i a b in (without-decides u h k i (has_below u i w.0)).1 w;
        }

-- the same block starts at a page in two sets, where of each order one does in both or in none
same_block : (m : ℕ) (u v : List Bool) (g : ℕ) → ((k : ℕ) → Max m u g k → Max m v g k) → ((k : ℕ) → Max m v g k → Max m u g k) → get_or (max_blocks m v) g None ≡ get_or (max_blocks m u) g None
same_block m u v g to from = go (get_or (max_blocks m u) g None) refl (get_or (max_blocks m v) g None) refl
  where
    at : (w : List Bool) (k : ℕ) → Max m w g k → get_or (max_blocks m w) g None ≡ Some k
    at w k x = max_block_some m w g k (has_below w g (max_has m w g k x)) x

    go : (p : Option ℕ) → get_or (max_blocks m u) g None ≡ p → (q : Option ℕ) → get_or (max_blocks m v) g None ≡ q → get_or (max_blocks m v) g None ≡ get_or (max_blocks m u) g None
    go (Some k) e q f = at v k (to k (max_blocks-to m u g k e)) ∙ sym e
    go None e None f = f ∙ sym e
    go None e (Some k) f = at v k (max_blocks-to m v g k f) ∙ sym (at u k (from k (max_blocks-to m v g k f)))

-- a free block leaves whole
module _ (a : Area) (h o : ℕ) (l : IsHeld a) (s : Max a.largest a.free h o) where
  abbrev v : List Bool
  v = without a.free h o

  left_max : (g j : ℕ) → Max a.largest v g j → Max a.largest a.free g j × (g ≢ h)
  left_max g j x = elim ((max_split a.largest a.free h o o s (omega arith) g j).1 x) [ inl y ↦ y | inr y ↦ absurd (omega (arith, y.0, y.1)) ]

  left_belongs : (r g : ℕ) → belongs a.largest v a.kinds r g ≡ true → (belongs a.largest a.free a.kinds r g ≡ true) × (g ≢ h)
  left_belongs r g e =
      let w = left_max g (r / pageblock_types) (max_of a.largest a.kinds r v g e) in
      (belongs_by a.largest a.kinds r a.free v g e w.0, w.1)

  left_keeps : (r g : ℕ) → belongs a.largest a.free a.kinds r g ≡ true → g ≢ h → belongs a.largest v a.kinds r g ≡ true
  left_keeps r g e ne =
      belongs_by a.largest a.kinds r v a.free g e ((max_split a.largest a.free h o o s (omega arith) g (r / pageblock_types)).0 (inl (max_of a.largest a.kinds r a.free g e, ne)))

  -- each list loses its head, where it stands there
  pub list-left : (r : ℕ) → r < lists_count a.largest → list_at (leave a h o).lists r ≡ without_page h (list_at a.lists r)
  unfolding leave settle
  list-left r lt =
      let old : List ℕ = list_at a.lists r in
      let p : ℕ → Bool = belongs a.largest v a.kinds r in
      get_or-map-range_with_len (λ q. settled a.largest v a.kinds q (list_at a.lists q)) 0 (lists_count a.largest) r r [] lt (omega arith)
      ∙ settled_parts a.largest v a.kinds r old
      ∙ (λ i. falling_none (λ g. p g && not (stands_in g old)) (length v) (λ g below. false_from_ne_true _ (λ e.
      let w = and_parts _ _ e in
      both_ways (stands_in g old) (not-true _ w.1) (l.held r g lt ∙ (left_belongs r g w.0).0))) i ++ filter p old)
      ∙ filter_same p (λ g. not (g == h)) old (λ g on. same_tests (p g) (not (g == h))
      (λ e. rw (ne_eqb g h (left_belongs r g e).1) refl)
      (λ e. left_keeps r g (sym (l.held r g lt) ∙ on) (λ q. both_ways (g == h) (not-true _ e) (eq-eqb g h q))))
    where
      same_tests : (a b : Bool) → (a ≡ true → b ≡ true) → (b ≡ true → a ≡ true) → a ≡ b
      same_tests a b f g = grind arith

  -- and it is noted of its head that it heads none
  pub notes-left : (ss : List State) → length ss ≡ length a.free → state_at ss h ≡ Free o → restated a.largest v ss ≡ slice_set (restated a.largest a.free ss) h Tail
  notes-left ss len free =
      let was : List State = restated a.largest a.free ss in
      let inside : h < length a.free = has_below a.free h (max_has a.largest a.free h o s) in
      let places : length was ≡ length ss = length-restated a.largest a.free ss in
      let now : length (restated a.largest v ss) ≡ length ss = length-restated a.largest v ss in
      let gone : get_or (max_blocks a.largest v) h None ≡ None = none_at (get_or (max_blocks a.largest v) h None) refl in
      ext_get_or Tail (restated a.largest v ss) (slice_set was h Tail) (now ∙ sym places ∙ sym (length-set was h Tail)) (λ g below.
      state-restated a.largest v ss g (omega arith) ∙ elim (cases_eq g h) [
        | inl same ↦ ap (λ i. restate (get_or (max_blocks a.largest v) i None) (state_at ss i)) same ∙ rw (gone, free) (sym (ap (state_at (slice_set was h Tail)) same ∙ get_or-set_same was h Tail Tail (omega arith)))
        | inr other ↦
            ap (λ b. restate b (state_at ss g)) (same_block a.largest a.free v g (λ k x. (max_split a.largest a.free h o o s (omega arith) g k).0 (inl (x, other))) (λ k x. (left_max g k x).0))
            ∙ sym (get_or-set_other was h g Tail Tail other ∙ state-restated a.largest a.free ss g (omega arith))
      ])
    where
      none_at : (q : Option ℕ) → get_or (max_blocks a.largest v) h None ≡ q → get_or (max_blocks a.largest v) h None ≡ None
      none_at None e = e
      none_at (Some k) e = absurd ((left_max h k (max_blocks-to a.largest v h k e)).1 refl)

-- a block comes of which no page was free, and whose double is not free with it
module _ (a : Area) (y j : ℕ) (l : IsHeld a) (block : IsBlock a.largest (length a.free) y j) (clear : (i : ℕ) → y ≤ i → i < y + 2 ^ j → has a.free i ≡ false)
    (alone : j < a.largest → Filled (In (with_run a.free y j)) (head y (j + 1)) (j + 1) → ⊥) where
  abbrev u : List Bool
  u = with_run a.free y j

  u-to : (i : ℕ) → In u i → In a.free i ⊎ ((y ≤ i) × (i < y + 2 ^ j))
  u-to i e = (with-decides a.free y j i (omega (arith, has_below u i e, length-with a.free y j))).0 e

  more : (i : ℕ) → In a.free i → In u i
  more i e = (with-decides a.free y j i (has_below a.free i e)).1 (inl e)

  come : Max a.largest u y j
  come = is_max-from a.largest u y j (record {
    order = block.order;
    aligned = block.aligned;
    inside = λ i p q. (with-decides a.free y j i (omega (arith, block.inside))).1 (inr (p, q));
    alone = alone;
  })

  come-to : (g i : ℕ) → Max a.largest u g i → (g ≢ y) → Max a.largest a.free g i
  come-to g i x ne = smaller_max a.largest a.free u g i more (λ n p q. elim (u-to n ((is_max-to a.largest u g i x).inside n p q)) [
    | inl old ↦ old
    | inr new ↦ absurd (ne (maximal-apart a.largest (In u) g i y j n (is_max-to a.largest u g i x) (is_max-to a.largest u y j come) p q new.0 new.1).0)
  ]) x

  come-from : (g i : ℕ) → Max a.largest a.free g i → Max a.largest u g i
  come-from g i x =
      let w = is_max-to a.largest a.free g i x in
      let d : ℕ = head g (i + 1) in
      is_max-from a.largest u g i (record {
        order = w.order;
        aligned = w.aligned;
        inside = λ n p q. more n (w.inside n p q);
        alone = λ lt full. w.alone lt (λ n p q. elim (u-to n (full n p q)) [
          | inl old ↦ old
          | inr new ↦
              let c = run_in_block a.largest (Max a.largest u) (In u) (max-normal a.largest u) (i + 1) (omega arith) d (head_aligned g (i + 1)) full in
              let top : ℕ = head d c.0 in
              let low : top ≤ d = head_le d c.0 in
              let room : d + 2 ^ (i + 1) ≤ top + 2 ^ c.0 = head_room d (i + 1) c.0 c.1 (head_aligned g (i + 1)) in
              let same = maximal-apart a.largest (In u) top c.0 y j n (is_max-to a.largest u top c.0 c.2) (is_max-to a.largest u y j come) (omega arith) (omega arith) new.0 new.1 in
              let size : 2 ^ c.0 ≡ 2 ^ j = ap (λ k. 2 ^ k) same.1 in
              absurd (both_ways (has a.free g) (clear g (omega (arith, same.0, head_le g (i + 1))) (omega (arith, same.0, lt_head g (i + 1)))) (w.inside g (omega arith) (omega (arith, pow_pos i))))
        ]);
      })

  not_before : (r : ℕ) → belongs a.largest a.free a.kinds r y ≡ true → ⊥
  not_before r e =
      both_ways (has a.free y) (clear y (omega arith) (omega (arith, pow_pos j)))
      ((is_max-to a.largest a.free y (r / pageblock_types) (max_of a.largest a.kinds r a.free y e)).inside y (omega arith) (omega (arith, pow_pos (r / pageblock_types))))

  -- the number of the list on which it belongs
  abbrev row : ℕ
  row = list_number j (kind_at a.largest a.kinds y)

  row-is : (r : ℕ) → belongs a.largest u a.kinds r y ≡ true → r ≡ row
  unfolding belongs
  row-is r e =
      let w = and_parts _ _ e in
      let order : j ≡ r / pageblock_types = one_order a.largest u y (r / pageblock_types) j w.0 come in
      let type : pageblock_type_number (kind_at a.largest a.kinds y) ≡ r % pageblock_types = eqb-true _ _ w.1 in
      omega arith

  row-belongs : belongs a.largest u a.kinds row y ≡ true
  unfolding belongs
  row-belongs =
      let b : pageblock_type_number (kind_at a.largest a.kinds y) < pageblock_types = number_below (kind_at a.largest a.kinds y) in
      let order : row / pageblock_types ≡ j = omega arith in
      let type : pageblock_type_number (kind_at a.largest a.kinds y) ≡ row % pageblock_types = omega arith in
      and_from _ _ (rw order come) (eq-eqb _ _ type)

  -- each other list stays as it was, and it comes to the front of that one
  pub list-come : (r : ℕ) → r < lists_count a.largest → list_at (give a y j).lists r ≡ cond (r == row) (y ∷ list_at a.lists r) (list_at a.lists r)
  unfolding give settle
  list-come r lt =
      let old : List ℕ = list_at a.lists r in
      let p : ℕ → Bool = belongs a.largest u a.kinds r in
      let fresh : ℕ → Bool = λ g. p g && not (stands_in g old) in
      let kept : filter p old ≡ old = filter_all p old (λ g on.
      let was = sym (l.held r g lt) ∙ on in
      belongs_by a.largest a.kinds r u a.free g was (come-from g (r / pageblock_types) (max_of a.largest a.kinds r a.free g was))) in
      let only : (g : ℕ) → fresh g ≡ true → g ≡ y = λ g e.
      let w = and_parts _ _ e in
      elim (cases_eq g y) [
        | inl same ↦ same
        | inr other ↦
            absurd (both_ways (stands_in g old) (not-true _ w.1)
            (l.held r g lt ∙ belongs_by a.largest a.kinds r a.free u g w.0 (come-to g (r / pageblock_types) (max_of a.largest a.kinds r u g w.0) other)))
      ] in
      get_or-map-range_with_len (λ q. settled a.largest u a.kinds q (list_at a.lists q)) 0 (lists_count a.largest) r r [] lt (omega arith)
      ∙ settled_parts a.largest u a.kinds r old
      ∙ elim (cases_eq r row) [
        | inl same ↦
            let on : p y ≡ true = rw same row-belongs in
            let off : stands_in y old ≡ false = false_from_ne_true (stands_in y old) (λ e. not_before r (sym (l.held r y lt) ∙ e)) in
            let here : fresh y ≡ true = and_from (p y) (not (stands_in y old)) on (rw off refl) in
            let inside : y < length u = omega (arith, length-with a.free y j, block.inside, pow_pos j) in
            (λ i. falling_one fresh (length u) y inside here only i ++ kept i) ∙ rw (eq-eqb r row same) refl
        | inr other ↦
            (λ i. falling_none fresh (length u) (λ g below. false_from_ne_true (fresh g) (λ e.
            let at : g ≡ y = only g e in
            other (row-is r (ap p (sym at) ∙ (and_parts _ _ e).0)))) i ++ kept i)
            ∙ rw (ne_eqb r row other) refl
      ]

  -- and it is noted of its head that it heads a free block
  pub notes-come : (ss : List State) → length ss ≡ length a.free → restated a.largest u ss ≡ slice_set (restated a.largest a.free ss) y (Free j)
  notes-come ss len =
      let was : List State = restated a.largest a.free ss in
      let inside : y < length a.free = omega (arith, block.inside, pow_pos j) in
      let places : length was ≡ length ss = length-restated a.largest a.free ss in
      let now : length (restated a.largest u ss) ≡ length ss = length-restated a.largest u ss in
      let here : get_or (max_blocks a.largest u) y None ≡ Some j = max_block_some a.largest u y j (omega (arith, length-with a.free y j)) come in
      ext_get_or Tail (restated a.largest u ss) (slice_set was y (Free j)) (now ∙ sym places ∙ sym (length-set was y (Free j))) (λ g below.
      state-restated a.largest u ss g (omega arith) ∙ elim (cases_eq g y) [
        | inl same ↦ ap (λ i. restate (get_or (max_blocks a.largest u) i None) (state_at ss i)) same ∙ rw here (sym (ap (state_at (slice_set was y (Free j))) same ∙ get_or-set_same was y (Free j) Tail (omega arith)))
        | inr other ↦
            ap (λ b. restate b (state_at ss g)) (same_block a.largest a.free u g (λ k x. come-from g k x) (λ k x. come-to g k x other))
            ∙ sym (get_or-set_other was y g (Free j) Tail other ∙ state-restated a.largest a.free ss g (omega arith))
      ])
