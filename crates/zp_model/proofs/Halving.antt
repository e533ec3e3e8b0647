-- A block that leaves from the middle of a free one: the free block leaves whole, and each half beside the block comes back.
use Rattle.std.proofs.Common.{ℕ, suc, zero, ◌+◌, ◌-◌, ◌%◌, ◌/◌, ◌^◌, ◌≡◌, ◌≤◌, ◌<◌, ◌==◌, inl, inr, refl, sym, ◌∙◌, ap, arith, Bool, false, List, ◌∷◌, length, Option, cond, max}
use Rattle.std.proofs.Math.Nat.{add-mod_right}
use Rattle.std.proofs.lemmas.Nat.{pow_pos}
use Rattle.std.proofs.lemmas.Bool.{both_ways, cases_lt, cases_eq, cases_order, eq-eqb, false_from_ne_true, ne_eqb}
use Rattle.zp_model.specs.Block.{has, head, with_run, without, IsBlock, IsBuddy}
use Rattle.zp_model.specs.BlockSet.{Starts, cover}
use Rattle.zp_model.specs.PageblockType.{pageblock_types}
use Rattle.zp_model.specs.Area.{Area, kind_at, list_number, lists_count, settle}
use Rattle.zp_model.specs.Take.{give, leave}
use Rattle.zp_model.specs.Frames.{restated}
use Rattle.zp_model.specs.declared.state.State.{State}
use Rattle.zp_model.specs.declared.state.State.TheVariants.{Free}
use Rattle.std.specs.Prelude.{slice_set}
use Rattle.zp_model.specs.Rows.{list_at}
use Rattle.zp_model.specs.RunLaws.{give_halves, half_beside, LeftByHalving}
use Rattle.zp_model.proofs.Covers.{cover-join, has_below, length-with, length-without, same_pages, with-decides, without-decides}
use Rattle.zp_model.proofs.Heads.{two, half, head_aligned, head_head, head_le, head_of, head_room, head_same, head_self, lt_head, aligned_down}
use Rattle.zp_model.proofs.Maximal.{Max}
use Rattle.zp_model.proofs.Normal.{Filled, IsNormal}
use Rattle.zp_model.proofs.Pages.{In, is_max-to, is_max-from}
use Rattle.zp_model.proofs.RunGiven.{IsHeld, belongs_by, listed, max_of, not_max, settle_held, settle_through}
use Rattle.zp_model.proofs.BlockLists.{list-come, notes-come}
use Rattle.zp_model.proofs.Join.{AfterJoin, Joined}
use Rattle.zp_model.proofs.RunLists.{settled_rising}
use Rattle.zp_model.proofs.RunParts.{smaller_max}

-- an aligned run that has a page of a larger one lies in it
nested : (g i c n p : ℕ) → i ≤ n → g % 2 ^ i ≡ 0 → c % 2 ^ n ≡ 0 → g ≤ p → p < g + 2 ^ i → c ≤ p → p < c + 2 ^ n → (c ≤ g) × (g + 2 ^ i ≤ c + 2 ^ n)
nested g i c n p le ag ac a b d e =
    let around : head g n ≡ c = sym (head_same g p i n le ag a b) ∙ head_of c p n ac d e in
    (omega (arith, head_le g n, around), omega (arith, head_room g i n le ag, around))

-- so does its double, where the run is smaller
nested_double : (g i c n p : ℕ) → i < n → g % 2 ^ i ≡ 0 → c % 2 ^ n ≡ 0 → g ≤ p → p < g + 2 ^ i → c ≤ p → p < c + 2 ^ n →
    (c ≤ head g (i + 1)) × (head g (i + 1) + 2 ^ (i + 1) ≤ c + 2 ^ n)
nested_double g i c n p lt ag ac a b d e =
    let same : head p (i + 1) ≡ head g (i + 1) = head_same g p i (i + 1) (omega arith) ag a b in
    nested (head g (i + 1)) (i + 1) c n p (omega arith) (head_aligned g (i + 1)) ac (omega (arith, head_le p (i + 1), same)) (omega (arith, lt_head p (i + 1), same)) d e

-- the half in which h lies, and the one beside it
pub beside_buddy : (h j : ℕ) → IsBuddy (head h j) j (half_beside h j) (head h (j + 1))
beside_buddy h j =
    let up : head (head h j) (j + 1) ≡ head h (j + 1) = head_head h j (j + 1) (omega arith) in
    record {
      double = head_aligned h (j + 1);
      halves = elim (half (head h j) j (head_aligned h j)) [
        | inl low ↦ let e : head h j ≡ head h (j + 1) = low ∙ up in inl (e, rw (eq-eqb (head h j) (head h (j + 1)) e) (omega arith))
        | inr high ↦
            let e : head h j ≡ head h (j + 1) + 2 ^ j = high ∙ ap (λ d. d + 2 ^ j) up in
            let ne : head h j ≡ head h (j + 1) → ⊥ = λ s. omega (arith, e, s, pow_pos j) in
            inr (rw (ne_eqb (head h j) (head h (j + 1)) ne) refl, e)
      ];
    }

-- an aligned run of order j + 1 of the pages f, at c, has left; of its halves that at y comes back, and that at x stays away
module _ (m : ℕ) (f : List Bool) (c x y j : ℕ) (lt : j < m) (full : Filled (In f) c (j + 1)) (b : IsBuddy x j y c) where
  abbrev u : List Bool
  u = without f c (j + 1)

  abbrev v : List Bool
  v = without f x j

  -- where the halves lie
  lies : (c ≤ x) × (c ≤ y) × (x + 2 ^ j ≤ c + 2 ^ (j + 1)) × (y + 2 ^ j ≤ c + 2 ^ (j + 1)) × ((i : ℕ) → c ≤ i → i < c + 2 ^ (j + 1) → (x ≤ i → i < x + 2 ^ j → ⊥) → (y ≤ i) × (i < y + 2 ^ j))
      × ((i : ℕ) → x ≤ i → i < x + 2 ^ j → y ≤ i → i < y + 2 ^ j → ⊥)
  lies = elim b.halves [
    | inl e ↦ (
      omega (arith, e.0),
      omega (arith, e.1),
      omega (arith, e.0, two j),
      omega (arith, e.1, two j),
      λ i p q out. elim (cases_lt i (c + 2 ^ j)) [ inl low ↦ absurd (out (omega (arith, e.0)) (omega (arith, e.0))) | inr high ↦ (omega (arith, e.1), omega (arith, e.1, two j)) ],
      λ i p q r s. omega (arith, e.0, e.1),
    )
    | inr e ↦ (
      omega (arith, e.1),
      omega (arith, e.0),
      omega (arith, e.1, two j),
      omega (arith, e.0, two j),
      λ i p q out. elim (cases_lt i (c + 2 ^ j)) [ inl low ↦ (omega (arith, e.0), omega (arith, e.0)) | inr high ↦ absurd (out (omega (arith, e.1)) (omega (arith, e.1, two j))) ],
      λ i p q r s. omega (arith, e.0, e.1),
    )
  ]

  pub beside_aligned : y % 2 ^ j ≡ 0
  beside_aligned =
      let al : c % 2 ^ j ≡ 0 = aligned_down j (j + 1) c (omega arith) b.double in
      elim b.halves [ inl e ↦ rw e.1 (add-mod_right c (2 ^ j) ∙ al) | inr e ↦ rw e.0 al ]

  -- what is in the sets
  u-to : (i : ℕ) → In u i → In f i × (c ≤ i → i < c + 2 ^ (j + 1) → ⊥)
  u-to i e = (without-decides f c (j + 1) i (omega (arith, has_below u i e, length-without f c (j + 1)))).0 e

  u-from : (i : ℕ) → In f i → (c ≤ i → i < c + 2 ^ (j + 1) → ⊥) → In u i
  u-from i e out = (without-decides f c (j + 1) i (has_below f i e)).1 (e, out)

  v-to : (i : ℕ) → In v i → In f i × (x ≤ i → i < x + 2 ^ j → ⊥)
  v-to i e = (without-decides f x j i (omega (arith, has_below v i e, length-without f x j))).0 e

  v-from : (i : ℕ) → In f i → (x ≤ i → i < x + 2 ^ j → ⊥) → In v i
  v-from i e out = (without-decides f x j i (has_below f i e)).1 (e, out)

  less : (i : ℕ) → In u i → In v i
  less i e = let w = u-to i e in v-from i w.0 (λ p q. w.1 (omega (arith, lies.0)) (omega (arith, lies.2)))

  -- v is u with the half at y
  pub halves_left : with_run u y j ≡ v
  halves_left =
      let len : length (with_run u y j) ≡ length f = length-with u y j ∙ length-without f c (j + 1) in
      same_pages (with_run u y j) v (len ∙ sym (length-without f x j))
      (λ i e. elim ((with-decides u y j i (omega (arith, has_below (with_run u y j) i e, length-with u y j))).0 e) [
        | inl old ↦ less i old
        | inr new ↦ v-from i (full i (omega (arith, new.0, lies.1)) (omega (arith, new.1, lies.3))) (λ p q. lies.5 i p q new.0 new.1)
      ])
      (λ i e.
      let w = v-to i e in
      let below : i < length u = omega (arith, has_below f i w.0, length-without f c (j + 1)) in
      (with-decides u y j i below).1 (elim (cases_lt i c) [
        | inl low ↦ inl (u-from i w.0 (λ p q. omega arith))
        | inr late ↦ elim (cases_lt i (c + 2 ^ (j + 1))) [ inr high ↦ inl (u-from i w.0 (λ p q. omega arith)) | inl inside ↦ inr (lies.4 i late inside w.1) ]
      ]))

  -- a block of f that is maximal still when x is away has no page of c
  apart_c : (g i : ℕ) → Max m f g i → Max m v g i → (p : ℕ) → g ≤ p → p < g + 2 ^ i → c ≤ p → p < c + 2 ^ (j + 1) → ⊥
  apart_c g i s t p q r d e =
      let z = is_max-to m f g i s in
      let w = is_max-to m v g i t in
      elim (cases_lt i (j + 1)) [
        | inl small ↦
            let k = nested_double g i c (j + 1) p small z.aligned b.double q r d e in
            z.alone (omega arith) (λ n lo hi. full n (omega (arith, k.0)) (omega (arith, k.1)))
        | inr large ↦
            let k = nested c (j + 1) g i p large b.double z.aligned d e q r in
            (v-to x (w.inside x (omega (arith, k.0, lies.0)) (omega (arith, k.1, lies.2, pow_pos j)))).1 (omega arith) (omega (arith, pow_pos j))
      ]

  stays : (g i : ℕ) → Max m f g i → Max m v g i → Max m u g i
  stays g i s t =
      smaller_max m u f g i (λ n e. (u-to n e).0)
      (λ n lo hi. u-from n ((is_max-to m f g i s).inside n lo hi) (λ p q. apart_c g i s t n lo hi p q)) s

  -- a maximal block that is new when y has come is of y's order
  new_order : (g i : ℕ) → Max m v g i → (Max m u g i → ⊥) → i ≡ j
  new_order g i t out =
      let w = is_max-to m v g i t in
      let apart : ((n : ℕ) → g ≤ n → n < g + 2 ^ i → y ≤ n → n < y + 2 ^ j → ⊥) → ⊥ = λ none. out (smaller_max m u v g i less (λ n lo hi.
      let q = v-to n (w.inside n lo hi) in
      u-from n q.0 (λ d e. let r = lies.4 n d e q.1 in none n lo hi r.0 r.1)) t) in
      let meet : (n : ℕ) → g ≤ n → n < g + 2 ^ i → y ≤ n → n < y + 2 ^ j → i ≡ j = λ n lo hi p q. elim (cases_order i j) [
        | inl same ↦ same
        | inr (inl small) ↦
            let k = nested_double g i y j n small w.aligned beside_aligned lo hi p q in
            absurd (w.alone (omega arith) (λ r d e. v-from r (full r (omega (arith, k.0, lies.1)) (omega (arith, k.1, lies.3))) (λ s z. lies.5 r s z (omega (arith, k.0)) (omega (arith, k.1)))))
        | inr (inr large) ↦
            let k = nested c (j + 1) g i n (omega arith) b.double w.aligned (omega (arith, lies.1)) (omega (arith, lies.3)) lo hi in
            absurd ((v-to x (w.inside x (omega (arith, k.0, lies.0)) (omega (arith, k.1, lies.2, pow_pos j)))).1 (omega arith) (omega (arith, pow_pos j)))
      ] in
      elim (cases_lt g (y + 2 ^ j)) [
        | inr past ↦ absurd (apart (λ n lo hi p q. omega arith))
        | inl low ↦ elim (cases_lt y (g + 2 ^ i)) [
          | inr past ↦ absurd (apart (λ n lo hi p q. omega arith))
          | inl high ↦ meet (max g y) (omega arith) (omega (arith, pow_pos i)) (omega arith) (omega (arith, pow_pos j))
        ]
      ]

  -- and none of that order was new when c left
  none_new : (g : ℕ) → Max m u g j → (Max m f g j → ⊥) → ⊥
  none_new g t out =
      let w = is_max-to m u g j t in
      let d : ℕ = head g (j + 1) in
      out (is_max-from m f g j (record {
        order = w.order;
        aligned = w.aligned;
        inside = λ n lo hi. (u-to n (w.inside n lo hi)).0;
        alone = λ below filled. elim (cases_eq d c) [
          | inl same ↦ (u-to g (w.inside g (omega arith) (omega (arith, pow_pos j)))).1 (omega (arith, head_le g (j + 1))) (omega (arith, lt_head g (j + 1)))
          | inr other ↦ w.alone below (λ n lo hi. u-from n (filled n lo hi) (λ p q.
              other (sym (head_of d n (j + 1) (head_aligned g (j + 1)) lo hi) ∙ head_of c n (j + 1) b.double p q)))
        ];
      }))

  pub half_double : head y (j + 1) ≡ c
  half_double = head_of c y (j + 1) b.double lies.1 (omega (arith, lies.3, pow_pos j))

  -- what comes back is clear, and its double is not free with it
  pub half_clear : (i : ℕ) → y ≤ i → i < y + 2 ^ j → has u i ≡ false
  half_clear i p q = false_from_ne_true (has u i) (λ e. (u-to i e).1 (omega (arith, lies.1)) (omega (arith, lies.3)))

  pub half_alone : j < m → Filled (In (with_run u y j)) (head y (j + 1)) (j + 1) → ⊥
  half_alone _ filled =
      let at : head y (j + 1) ≡ c = half_double in
      let here : In (with_run u y j) x = filled x (omega (arith, at, lies.0)) (omega (arith, at, lies.2, pow_pos j)) in
      (v-to x (rw halves_left at here)).1 (omega arith) (omega (arith, pow_pos j))

  pub half_block : IsBlock m (length f) y j
  half_block = record {
    order = omega arith;
    aligned = beside_aligned;
    inside = let last : In f (y + 2 ^ j - 1) = full (y + 2 ^ j - 1) (omega (arith, lies.1, pow_pos j)) (omega (arith, lies.3, pow_pos j)) in omega (arith, has_below f (y + 2 ^ j - 1) last, pow_pos j);
  }

-- the same of an area
module _ (a : Area) (c x y j : ℕ) (l : IsHeld a) (lt : j < a.largest) (full : Filled (In a.free) c (j + 1)) (b : IsBuddy x j y c) where
  abbrev first : List Bool
  first = without a.free c (j + 1)

  abbrev last : List Bool
  last = without a.free x j

  -- on each list stands what would stand there had x alone left
  pub halve : give (leave a c (j + 1)) y j ≡ leave a x j
  unfolding leave give settle
  halve =
      let m : ℕ = a.largest in
      let f : List Bool = a.free in
      ap (λ w. settle (record (settle (record a { free = first })) { free = w })) (halves_left m f c x y j lt full b)
      ∙ settle_through a first last (λ r below. settled_rising m first last a.kinds r (list_at a.lists r) (length-without f c (j + 1) ∙ sym (length-without f x j))
      (λ g on e. belongs_by m a.kinds r first last g e
      (stays m f c x y j lt full b g (r / pageblock_types) (max_of m a.kinds r f g (sym (l.held r g below) ∙ on)) (max_of m a.kinds r last g e)))
      (λ g h vg ug uh off vh.
      let i : ℕ = r / pageblock_types in
      let same : i ≡ j = new_order m f c x y j lt full b g i (max_of m a.kinds r last g vg) (not_max m a.kinds r first last g vg ug) in
      absurd (none_new m f c x y j lt full b h (rw same at (max_of m a.kinds r first h uh)) (λ z. not_max m a.kinds r f last h vh (sym (l.held r h below) ∙ off) (rw (← same) at z)))))

  left_held : IsHeld (leave a c (j + 1))
  unfolding leave
  left_held = settle_held (record a { free = without a.free c (j + 1) })

  comes : (r : ℕ) → r < lists_count a.largest → list_at (give (leave a c (j + 1)) y j).lists r ≡
      cond (r == list_number j (kind_at a.largest a.kinds y)) (y ∷ list_at (leave a c (j + 1)).lists r) (list_at (leave a c (j + 1)).lists r)
  unfolding leave settle
  comes r below =
      let block : IsBlock a.largest (length a.free) y j = half_block a.largest a.free c x y j lt full b in
      list-come (leave a c (j + 1)) y j left_held (record { order = block.order; aligned = block.aligned; inside = omega (arith, block.inside, length-without a.free c (j + 1)) })
      (half_clear a.largest a.free c x y j lt full b) (half_alone a.largest a.free c x y j lt full b) r below

  -- so y comes to the front of its list, and each other list stays
  pub half_comes : (r : ℕ) → r < lists_count a.largest → list_at (leave a x j).lists r ≡
      cond (r == list_number j (kind_at a.largest a.kinds y)) (y ∷ list_at (leave a c (j + 1)).lists r) (list_at (leave a c (j + 1)).lists r)
  half_comes r below = ap (λ (d : Area). list_at d.lists r) (sym halve) ∙ comes r below

  notes : (ss : List State) → length ss ≡ length a.free → restated a.largest (with_run first y j) ss ≡ slice_set (restated a.largest first ss) y (Free j)
  unfolding leave settle
  notes ss len =
      let block : IsBlock a.largest (length a.free) y j = half_block a.largest a.free c x y j lt full b in
      notes-come (leave a c (j + 1)) y j left_held (record { order = block.order; aligned = block.aligned; inside = omega (arith, block.inside, length-without a.free c (j + 1)) })
      (half_clear a.largest a.free c x y j lt full b) (half_alone a.largest a.free c x y j lt full b) ss (len ∙ sym (length-without a.free c (j + 1)))

  -- and of the notes only that of y changes: it heads a free block
  pub half_notes : (ss : List State) → length ss ≡ length a.free → restated a.largest last ss ≡ slice_set (restated a.largest first ss) y (Free j)
  half_notes ss len = ap (λ w. restated a.largest w ss) (sym (halves_left a.largest a.free c x y j lt full b)) ∙ notes ss len

-- and of a set of blocks that has the pages of f without the run at c: with the half at y, which is joined with none, it has those without the half at x
pub cover-half : (m : ℕ) (f : List Bool) (s t : List (Option ℕ)) (c x y j : ℕ) → j < m → Filled (In f) c (j + 1) → IsBuddy x j y c → length f ≡ length s →
    IsNormal m (Starts s) (In (cover s)) → cover s ≡ without f c (j + 1) → length t ≡ length s → ((g i : ℕ) → Starts t g i → AfterJoin (Starts s) y j g i) →
    ((g i : ℕ) → AfterJoin (Starts s) y j g i → Starts t g i) → (IsNormal m (Starts t) (In (cover t))) × (cover t ≡ without f x j)
cover-half m f s t c x y j lt full b pages z has_pages len to from =
    let block : IsBlock m (length f) y j = half_block m f c x y j lt full b in
    let off : (i : ℕ) → y ≤ i → i < y + 2 ^ j → In (cover s) i → ⊥ = λ i p q e. both_ways (has (cover s) i) (ap (λ w. has w i) has_pages ∙ half_clear m f c x y j lt full b i p q) e in
    let stop : Filled (Joined (In (cover s)) y j) (head y (j + 1)) (j + 1) → ⊥ = λ filled. half_alone m f c x y j lt full b lt (λ i p q.
    let inside : i < length (without f c (j + 1)) = omega (arith, has_below f i (full i (omega (arith, half_double m f c x y j lt full b)) (omega (arith, half_double m f c x y j lt full b))), length-without f c (j + 1)) in
    (with-decides (without f c (j + 1)) y j i inside).1 (elim (filled i p q) [ inl old ↦ inl (ap (λ w. has w i) (sym has_pages) ∙ old) | inr new ↦ inr new ])) in
    let two_halves : (g : ℕ) → g % 2 ^ (j + 1) ≡ 0 → Starts s g j → y ≡ g + 2 ^ j → ⊥ = λ g al st at. stop (λ i p q.
    let self : head y (j + 1) ≡ g = head_of g y (j + 1) al (omega arith) (omega (arith, two j, pow_pos j)) in
    elim (cases_lt i y) [ inl low ↦ inl (z.inside g j st i (omega (arith, self)) (omega arith)) | inr high ↦ inr (high, omega (arith, self, two j)) ]) in
    let r = cover-join m s t y j y j z (omega (arith, block.inside, pages)) (record {
      aligned = block.aligned;
      clear = off y (omega arith) (omega (arith, pow_pos j));
      up = omega arith;
      order = block.order;
      at = sym (head_self y j block.aligned);
      filled = λ i p q. inr (p, q);
      low = λ below al st. stop (λ i p q.
          let self : head y (j + 1) ≡ y = head_self y (j + 1) al in
          elim (cases_lt i (y + 2 ^ j)) [ inl low ↦ inr (omega (arith, self), low) | inr high ↦ inl (z.inside (y + 2 ^ j) j st i high (omega (arith, self, two j))) ]);
      high = λ g below al at st. two_halves g al st at;
    }) len to from in
    (r.0, r.1 ∙ ap (λ w. with_run w y j) has_pages ∙ halves_left m f c x y j lt full b)

-- halving goes on down to the block's order
halved : (d : ℕ) (a : Area) (h k : ℕ) → IsHeld a → k + d ≤ a.largest → Filled (In a.free) (head h (k + d)) (k + d) → give_halves (leave a (head h (k + d)) (k + d)) h k d ≡ leave a (head h k) k
halved zero a h k l le full = let e : k + 0 ≡ k = omega arith in ap (λ n. leave a (head h n) n) e
halved (suc d) a h k l le full =
    let e : k + suc d ≡ k + d + 1 = omega arith in
    let larger : Filled (In a.free) (head h (k + d + 1)) (k + d + 1) = rw e at full in
    let low : head (head h (k + d)) (k + d + 1) ≡ head h (k + d + 1) = head_head h (k + d) (k + d + 1) (omega arith) in
    let room = head_room (head h (k + d)) (k + d) (k + d + 1) (omega arith) (head_aligned h (k + d)) in
    let inside : Filled (In a.free) (head h (k + d)) (k + d) = λ i p q. larger i (omega (arith, head_le (head h (k + d)) (k + d + 1), low)) (omega (arith, room, low)) in
    ap (λ n. give_halves (give (leave a (head h n) n) (half_beside h (k + d)) (k + d)) h k d) e
    ∙ ap (λ b. give_halves b h k d) (halve a (head h (k + d + 1)) (head h (k + d)) (half_beside h (k + d)) (k + d) l (omega arith) larger (beside_buddy h (k + d)))
    ∙ halved d a h k l (omega arith) inside

pub left_by_halving : LeftByHalving
left_by_halving a h k o l s al le =
    let z = is_max-to a.largest a.free (head h o) o s in
    let e : k + (o - k) ≡ o = omega arith in
    let same : head h k ≡ h = head_self h k al in
    ap (λ n. give_halves (leave a (head h n) n) h k (o - k)) (sym e)
    ∙ halved (o - k) a h k (listed a l) (rw e z.order) (rw e z.inside)
    ∙ ap (λ g. leave a g k) same
