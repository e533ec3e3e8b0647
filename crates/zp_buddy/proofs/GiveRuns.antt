-- Giving back a run in two halves, one after the other, leaves what giving it back at once does.
use Rattle.std.proofs.Common.{ℕ, ◌+◌, ◌/◌, ◌%◌, ◌^◌, ◌≡◌, ◌≤◌, ◌<◌, ◌⊎◌, inl, inr, refl, sym, ◌∙◌, ap, arith, Bool, true, false, not, ◌&&◌, ◌||◌, List, [], ◌∷◌, ◌++◌, length, map, leb, ltb}
use Rattle.std.specs.List.{filter, range_with_len}
use Rattle.std.proofs.Math.Bool.{or-true}
use Rattle.std.proofs.lemmas.Bool.{and_parts, and_from, or_cases, both_ways}
use Rattle.std.proofs.lemmas.Bool.Decides.{nat_tests}
use Rattle.std.proofs.lemmas.List.{ext_get_or}
use Rattle.std.proofs.lemmas.List.Elements.{filter-append}
use Rattle.std.proofs.lemmas.List.FromFn.{get_or-map-range_with_len, length-map-range_with_len}
use Rattle.std.proofs.lemmas.Nat.{pow_pos}
use Rattle.zp_model.specs.declared.pageblock_type.PageblockType.{PageblockType}
use Rattle.zp_model.specs.PageblockType.{pageblock_types}
use Rattle.zp_model.specs.Block.{has, head, in_run, with_run}
use Rattle.zp_model.specs.Rows.{list_at, stands_in}
use Rattle.zp_model.specs.Area.{Area, belongs, falling, lists_count, settle, settled}
use Rattle.zp_model.specs.Take.{give}
use Rattle.zp_model.specs.Lawful.{IsListedArea}
use Rattle.zp_model.proofs.Covers.{length-with}
use Rattle.zp_model.proofs.Heads.{two, head_le, lt_head, head_room}
use Rattle.zp_model.proofs.Maximal.{Max, max-normal, maximal-apart}
use Rattle.zp_model.proofs.Normal.{Filled, run_in_block}
use Rattle.zp_model.proofs.Pages.{In, in_run-to, in_run-from, is_max-to, is_max-from}
use Rattle.zp_laws.proofs.Counting.{has-with_any, same_marks}
use Rattle.zp_laws.proofs.Settling.{held-settled}
use Rattle.zp_area.proofs.Filters.{filter_same, filter_twice}
use Rattle.zp_buddy.proofs.Runs.{settled_parts}

nothing : (p : ℕ → Bool) (xs : List ℕ) → ((g : ℕ) → p g ≡ false) → filter p xs ≡ []
nothing p [] f = refl
nothing p (x ∷ xs) f = rw (f x) (nothing p xs f)

-- settling twice is settling once, where what stood and belongs at last belonged in between, and nothing that came in between belongs at last
pub settled_through : (m : ℕ) (u v : List Bool) (kinds : List PageblockType) (r : ℕ) (old : List ℕ) → length u ≡ length v →
    ((g : ℕ) → stands_in g old ≡ true → belongs m v kinds r g ≡ true → belongs m u kinds r g ≡ true) →
    ((g : ℕ) → belongs m u kinds r g ≡ true → stands_in g old ≡ false → belongs m v kinds r g ≡ true → ⊥) →
    settled m v kinds r (settled m u kinds r old) ≡ settled m v kinds r old
settled_through m u v kinds r old len stay brief = go (settled m u kinds r old) (λ g. held-settled m u kinds r g old) (settled_parts m u kinds r old)
  where
    fresh : (p q s : Bool) → (s ≡ true → q ≡ true → p ≡ true) → (p ≡ true → s ≡ false → q ≡ true → ⊥) → (q && not p) ≡ (q && not s)
    fresh p q s f g = grind arith

    never : (p q s : Bool) → (p ≡ true → s ≡ false → q ≡ true → ⊥) → ((p && not s) && q) ≡ false
    never p q s g = grind arith

    all : (p q : Bool) → (q ≡ true → p ≡ true) → (p && q) ≡ q
    all p q f = grind arith

    go : (mid : List ℕ) → ((g : ℕ) → stands_in g mid ≡ belongs m u kinds r g) →
        mid ≡ filter (λ g. belongs m u kinds r g && not (stands_in g old)) (falling (length u)) ++ filter (belongs m u kinds r) old →
        settled m v kinds r mid ≡ settled m v kinds r old
    go mid held is =
        let p : ℕ → Bool = belongs m u kinds r in
        let q : ℕ → Bool = belongs m v kinds r in
        let new : filter (λ g. q g && not (stands_in g mid)) (falling (length v)) ≡ filter (λ g. q g && not (stands_in g old)) (falling (length v)) =
        filter_same (λ g. q g && not (stands_in g mid)) (λ g. q g && not (stands_in g old)) (falling (length v)) (λ g on.
        ap (λ b. q g && not b) (held g) ∙ fresh (p g) (q g) (stands_in g old) (stay g) (brief g)) in
        let gone : filter q (filter (λ g. p g && not (stands_in g old)) (falling (length u))) ≡ [] =
        filter_twice q (λ g. p g && not (stands_in g old)) (falling (length u)) ∙ nothing (λ g. (p g && not (stands_in g old)) && q g) (falling (length u)) (λ g. never (p g) (q g) (stands_in g old) (brief g)) in
        let kept : filter q (filter p old) ≡ filter q old = filter_twice q p old ∙ filter_same (λ g. p g && q g) q old (λ g on. all (p g) (q g) (stay g on)) in
        settled_parts m v kinds r mid
        ∙ (λ i. new i ++ filter q (is i))
        ∙ ap (λ xs. filter (λ g. q g && not (stands_in g old)) (falling (length v)) ++ xs) (filter-append q (filter (λ g. p g && not (stands_in g old)) (falling (length u))) (filter p old) ∙ (λ i. gone i ++ kept i))
        ∙ sym (settled_parts m v kinds r old)

-- a block that is maximal in a set, and lies in a smaller one, is maximal there
smaller_max : (m : ℕ) (u v : List Bool) (g j : ℕ) → ((i : ℕ) → In u i → In v i) → Filled (In u) g j → Max m v g j → Max m u g j
smaller_max m u v g j le f x =
    let y = is_max-to m v g j x in
    is_max-from m u g j (record { order = y.order; aligned = y.aligned; inside = f; alone = λ lt d. y.alone lt (λ i a b. le i (d i a b)) })

-- of an aligned run of a set, a maximal block has all pages or none
module _ (m : ℕ) (v : List Bool) (h k : ℕ) (aligned : h % 2 ^ k ≡ 0) (order : k ≤ m) (filled : Filled (In v) h k) where
  pub round : (g j i : ℕ) → Max m v g j → g ≤ i → i < g + 2 ^ j → h ≤ i → i < h + 2 ^ k → (g ≤ h) × (h + 2 ^ k ≤ g + 2 ^ j)
  round g j i x a b c d =
      let z = run_in_block m (Max m v) (In v) (max-normal m v) k order h aligned filled in
      let n = head h z.0 in
      let lo : n ≤ h = head_le h z.0 in
      let hi : h < n + 2 ^ z.0 = lt_head h z.0 in
      let nal : n % 2 ^ z.0 ≡ 0 = (is_max-to m v n z.0 z.2).aligned in
      let room : h + 2 ^ k ≤ n + 2 ^ z.0 = head_room h k z.0 z.1 aligned in
      let same = maximal-apart m (In v) g j n z.0 i (is_max-to m v g j x) (is_max-to m v n z.0 z.2) a b (omega arith) (omega arith) in
      let e : 2 ^ j ≡ 2 ^ z.0 = ap (λ q. 2 ^ q) same.1 in
      (omega (arith, same.0), omega (arith, same.0))

-- the two halves x and y of the run of order k + 1 at h
abbrev pub AreHalves : ℕ → ℕ → ℕ → ℕ → Type 0
AreHalves h k x y = ((x ≡ h) × (y ≡ h + 2 ^ k)) ⊎ ((x ≡ h + 2 ^ k) × (y ≡ h))

low_first : (b : Bool) (h n i : ℕ) → ((b || (leb h i && ltb i (h + n))) || (leb (h + n) i && ltb i (h + n + n))) ≡ (b || (leb h i && ltb i (h + (n + n))))
low_first b h n i = grind (arith, nat_tests)

high_first : (b : Bool) (h n i : ℕ) → ((b || (leb (h + n) i && ltb i (h + n + n))) || (leb h i && ltb i (h + n))) ≡ (b || (leb h i && ltb i (h + (n + n))))
high_first b h n i = grind (arith, nat_tests)

both_halves : (b : Bool) (h k x y i : ℕ) → AreHalves h k x y → ((b || in_run x k i) || in_run y k i) ≡ (b || in_run h (k + 1) i)
both_halves b h k x y i (inl e) = rw (e.0, e.1) (low_first b h (2 ^ k) i) ∙ ap (λ n. b || (leb h i && ltb i (h + n))) (sym (two k))
both_halves b h k x y i (inr e) = rw (e.0, e.1) (high_first b h (2 ^ k) i) ∙ ap (λ n. b || (leb h i && ltb i (h + n))) (sym (two k))

pub half_inside : (h k x y : ℕ) → AreHalves h k x y → (h ≤ x) × (x + 2 ^ k ≤ h + 2 ^ (k + 1)) × (h ≤ y) × (y + 2 ^ k ≤ h + 2 ^ (k + 1)) × ((x + 2 ^ k ≤ y) ⊎ (y + 2 ^ k ≤ x))
half_inside h k x y (inl e) = (omega arith, omega (arith, two k, e.0), omega (arith, e.1), omega (arith, two k, e.1), inl (omega (arith, e.0, e.1)))
half_inside h k x y (inr e) = (omega (arith, e.0), omega (arith, two k, e.0), omega (arith, e.1), omega (arith, two k, e.1), inr (omega (arith, e.0, e.1)))

module _ (m : ℕ) (f : List Bool) (kinds : List PageblockType) (h k x y : ℕ) (aligned : h % 2 ^ (k + 1) ≡ 0) (order : k + 1 ≤ m) (room : h + 2 ^ (k + 1) ≤ length f)
    (clear : (i : ℕ) → h ≤ i → i < h + 2 ^ (k + 1) → has f i ≡ false) (e : AreHalves h k x y) where
  abbrev half : List Bool
  half = with_run f x k

  abbrev whole : List Bool
  whole = with_run f h (k + 1)

  with_halves : with_run half y k ≡ whole
  with_halves =
      let b = half_inside h k x y e in
      let n : length half ≡ length f = length-with f x k in
      same_marks (with_run half y k) whole (length-with half y k ∙ n ∙ sym (length-with f h (k + 1))) (λ i.
      has-with_any half y k i (omega (arith, b.3)) ∙ ap (λ q. q || in_run y k i) (has-with_any f x k i (omega (arith, b.1))) ∙ both_halves (has f i) h k x y i e ∙ sym (has-with_any f h (k + 1) i room))

  half-from : (i : ℕ) → In f i → In half i
  half-from i q = let b = half_inside h k x y e in has-with_any f x k i (omega (arith, b.1)) ∙ rw q refl

  half-to : (i : ℕ) → In half i → In f i ⊎ ((x ≤ i) × (i < x + 2 ^ k))
  half-to i q =
      let b = half_inside h k x y e in
      elim (or_cases _ _ (sym (has-with_any f x k i (omega (arith, b.1))) ∙ q)) [ inl old ↦ inl old | inr new ↦ inr (in_run-to x k i new) ]

  whole-to : (i : ℕ) → In whole i → In f i ⊎ ((h ≤ i) × (i < h + 2 ^ (k + 1)))
  whole-to i q = elim (or_cases _ _ (sym (has-with_any f h (k + 1) i room) ∙ q)) [ inl old ↦ inl old | inr new ↦ inr (in_run-to h (k + 1) i new) ]

  half_whole : (i : ℕ) → In half i → In whole i
  half_whole i q =
      let b = half_inside h k x y e in
      elim (half-to i q) [
        | inl old ↦ has-with_any f h (k + 1) i room ∙ rw old refl
        | inr new ↦ has-with_any f h (k + 1) i room ∙ rw (in_run-from h (k + 1) i (omega (arith, b.0)) (omega (arith, b.1))) (or-true (has f i))
      ]

  filled_whole : Filled (In whole) h (k + 1)
  filled_whole i lo hi = has-with_any f h (k + 1) i room ∙ rw (in_run-from h (k + 1) i lo hi) (or-true (has f i))

  -- a block that was maximal, and is so at last, is so in between
  max_stays : (g j : ℕ) → Max m f g j → Max m whole g j → Max m half g j
  max_stays g j p q = smaller_max m half whole g j half_whole (λ i a b. half-from i ((is_max-to m f g j p).inside i a b)) q

  -- one that is maximal in between, and at last, was so
  max_was : (g j : ℕ) → Max m half g j → Max m whole g j → Max m f g j
  max_was g j p q =
      let b = half_inside h k x y e in
      let pos : 0 < 2 ^ k = pow_pos k in
      let gos : 0 < 2 ^ j = pow_pos j in
      let apart : (i : ℕ) → g ≤ i → i < g + 2 ^ j → h ≤ i → i < h + 2 ^ (k + 1) → ⊥ = λ i lo hi a c.
      let z = round m whole h (k + 1) aligned order filled_whole g j i q lo hi a c in
      let there : In half y = (is_max-to m half g j p).inside y (omega (arith, z.0, b.2)) (omega (arith, z.1, b.3)) in
      elim (half-to y there) [
        | inl old ↦ both_ways (has f y) (clear y b.2 (omega (arith, b.3))) old
        | inr new ↦ elim b.4 [ inl w ↦ omega (arith, new.1) | inr w ↦ omega (arith, new.0) ]
      ] in
      smaller_max m f whole g j (λ i r. half_whole i (half-from i r)) (λ i lo hi. elim (whole-to i ((is_max-to m whole g j q).inside i lo hi)) [
        | inl old ↦ old
        | inr new ↦ absurd (apart i lo hi new.0 new.1)
      ]) q

  lists_through : (r : ℕ) (old : List ℕ) → ((g : ℕ) → stands_in g old ≡ belongs m f kinds r g) → settled m whole kinds r (settled m half kinds r old) ≡ settled m whole kinds r old
  unfolding belongs
  lists_through r old held =
      settled_through m half whole kinds r old (length-with f x k ∙ sym (length-with f h (k + 1)))
      (λ g on q.
      let a = and_parts _ _ (sym (held g) ∙ on) in
      let b = and_parts _ _ q in
      and_from _ _ (max_stays g (r / pageblock_types) a.0 b.0) b.1)
      (λ g p off q.
      let a = and_parts _ _ p in
      let b = and_parts _ _ q in
      both_ways (stands_in g old) off (held g ∙ and_from _ _ (max_was g (r / pageblock_types) a.0 b.0) b.1))

-- a run that comes back in two halves, in whatever order
pub give_halves : (a : Area) (h k x y : ℕ) → IsListedArea a → h % 2 ^ (k + 1) ≡ 0 → k + 1 ≤ a.largest → h + 2 ^ (k + 1) ≤ length a.free →
    ((i : ℕ) → h ≤ i → i < h + 2 ^ (k + 1) → has a.free i ≡ false) → AreHalves h k x y → give (give a x k) y k ≡ give a h (k + 1)
unfolding give settle
give_halves a h k x y l aligned order room clear e =
    let m : ℕ = a.largest in
    let n : ℕ = lists_count m in
    let u : List Bool = with_run a.free x k in
    let v : List Bool = with_run a.free h (k + 1) in
    let free : with_run u y k ≡ v = with_halves m a.free a.kinds h k x y aligned order room clear e in
    let first : ℕ → List ℕ = λ r. settled m u a.kinds r (list_at a.lists r) in
    let two_steps : ℕ → List ℕ = λ r. settled m (with_run u y k) a.kinds r (list_at (map first (range_with_len 0 n)) r) in
    let one_step : ℕ → List ℕ = λ r. settled m v a.kinds r (list_at a.lists r) in
    let lists : map two_steps (range_with_len 0 n) ≡ map one_step (range_with_len 0 n) = ext_get_or [] (map two_steps (range_with_len 0 n)) (map one_step (range_with_len 0 n))
    (length-map-range_with_len two_steps 0 n ∙ sym (length-map-range_with_len one_step 0 n)) (λ r below.
    let lt : r < n = omega (arith, length-map-range_with_len two_steps 0 n) in
    get_or-map-range_with_len two_steps 0 n r r [] lt (omega arith)
    ∙ ap (λ w. settled m w a.kinds r (list_at (map first (range_with_len 0 n)) r)) free
    ∙ ap (settled m v a.kinds r) (get_or-map-range_with_len first 0 n r r [] lt (omega arith))
    ∙ lists_through m a.free a.kinds h k x y aligned order room clear e r (list_at a.lists r) (λ g. l.held r g lt)
    ∙ sym (get_or-map-range_with_len one_step 0 n r r [] lt (omega arith))) in
    λ i. record { largest = m; free = free i; kinds = a.kinds; lists = lists i }
