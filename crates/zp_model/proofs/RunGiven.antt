-- Runs that are taken, or given back, in parts or block by block of their cut.
use Rattle.std.proofs.Common.{ℕ, suc, zero, ◌+◌, ◌-◌, ◌/◌, ◌^◌, ◌≡◌, ◌≤◌, ◌<◌, ◌⊎◌, inl, inr, refl, sym, ◌∙◌, ap, arith, Bool, true, false, List, [], ◌∷◌, length, map}
use Rattle.std.specs.List.{range_with_len, sum}
use Rattle.std.proofs.lemmas.Bool.{and_parts, and_from, both_ways, false_from_ne_true}
use Rattle.std.proofs.lemmas.List.{ext_get_or}
use Rattle.std.proofs.lemmas.List.FromFn.{get_or-map-range_with_len, length-map-range_with_len}
use Rattle.std.proofs.lemmas.List.Sums.{sum_by-cons}
use Rattle.std.proofs.lemmas.Nat.{pow_pos}
use Rattle.zp_model.specs.declared.pageblock_type.PageblockType.{PageblockType}
use Rattle.zp_model.specs.PageblockType.{pageblock_types}
use Rattle.zp_model.specs.Block.{has, with_run, without}
use Rattle.zp_model.specs.Rows.{list_at, stands_in}
use Rattle.zp_model.specs.Area.{Area, belongs, lists_count, settle, settled}
use Rattle.zp_model.specs.Take.{give, leave}
use Rattle.zp_model.specs.Lawful.{IsListedArea}
use Rattle.zp_model.specs.Runs.{cut_up_to, fitting_order, with_pages, without_pages, leave_run, give_run}
use Rattle.zp_model.specs.RunLaws.{IsTakenRun, leave_parts, give_parts, leave_blocks, give_blocks, LeftInParts, GivenInParts, LeftByCut, GivenByCut}
use Rattle.zp_model.proofs.Covers.{same_pages}
use Rattle.zp_model.proofs.Cuts.{fitting}
use Rattle.zp_model.proofs.Maximal.{Max}
use Rattle.zp_model.proofs.Pages.{In, is_max-to}
use Rattle.zp_model.proofs.RunLists.{settled_already, settled_rising, stands_settled}
use Rattle.zp_model.proofs.RunParts.{giving_rises, leaving_rises, length-with_pages, length-without_pages, smaller_max, with_both, with_pages-old, with_pages-to, without_both, without_pages-from, without_pages-to}

-- each list holds what belongs on it
pub record IsHeld (a : Area) : Type 0 where
  pub table : length a.lists ≡ lists_count a.largest
  pub held : (r g : ℕ) → r < lists_count a.largest → stands_in g (list_at a.lists r) ≡ belongs a.largest a.free a.kinds r g

pub settle_held : (a : Area) → IsHeld (settle a)
unfolding settle
settle_held a =
    let list : ℕ → List ℕ = λ r. settled a.largest a.free a.kinds r (list_at a.lists r) in
    record {
      table = length-map-range_with_len list 0 (lists_count a.largest);
      held = λ r g lt.
          ap (stands_in g) (get_or-map-range_with_len list 0 (lists_count a.largest) r r [] lt (omega arith)) ∙ stands_settled a.largest a.free a.kinds r g (list_at a.lists r);
    }

-- settling for the pages u and then for v is settling for v, where it is so for each list
pub settle_through : (a : Area) (u v : List Bool) → ((r : ℕ) → r < lists_count a.largest → settled a.largest v a.kinds r (settled a.largest u a.kinds r (list_at a.lists r)) ≡ settled a.largest v a.kinds r (list_at a.lists r)) →
    settle (record (settle (record a { free = u })) { free = v }) ≡ settle (record a { free = v })
unfolding settle
settle_through a u v each =
    let m : ℕ = a.largest in
    let n : ℕ = lists_count m in
    let first : ℕ → List ℕ = λ r. settled m u a.kinds r (list_at a.lists r) in
    let two_steps : ℕ → List ℕ = λ r. settled m v a.kinds r (list_at (map first (range_with_len 0 n)) r) in
    let one_step : ℕ → List ℕ = λ r. settled m v a.kinds r (list_at a.lists r) in
    let lists : map two_steps (range_with_len 0 n) ≡ map one_step (range_with_len 0 n) = ext_get_or [] (map two_steps (range_with_len 0 n)) (map one_step (range_with_len 0 n))
    (length-map-range_with_len two_steps 0 n ∙ sym (length-map-range_with_len one_step 0 n)) (λ r below.
    let lt : r < n = omega (arith, length-map-range_with_len two_steps 0 n) in
    get_or-map-range_with_len two_steps 0 n r r [] lt (omega arith)
    ∙ ap (settled m v a.kinds r) (get_or-map-range_with_len first 0 n r r [] lt (omega arith))
    ∙ each r lt
    ∙ sym (get_or-map-range_with_len one_step 0 n r r [] lt (omega arith))) in
    λ i. record { largest = m; free = v; kinds = a.kinds; lists = lists i }

-- an area whose lists hold what belongs there settles to itself
settle_already : (a : Area) (v : List Bool) → IsHeld a → v ≡ a.free → settle (record a { free = v }) ≡ a
unfolding settle
settle_already a v x e =
    let n : ℕ = lists_count a.largest in
    let list : ℕ → List ℕ = λ r. settled a.largest v a.kinds r (list_at a.lists r) in
    let lists : map list (range_with_len 0 n) ≡ a.lists = ext_get_or [] (map list (range_with_len 0 n)) a.lists (length-map-range_with_len list 0 n ∙ sym x.table) (λ r below.
    let lt : r < n = omega (arith, length-map-range_with_len list 0 n) in
    get_or-map-range_with_len list 0 n r r [] lt (omega arith)
    ∙ ap (λ u. settled a.largest u a.kinds r (list_at a.lists r)) e
    ∙ settled_already a.largest a.free a.kinds r (list_at a.lists r) (λ g. x.held r g lt)) in
    λ i. record { largest = a.largest; free = e i; kinds = a.kinds; lists = lists i }

module _ (m : ℕ) (kinds : List PageblockType) (r : ℕ) where
  pub max_of : (u : List Bool) (g : ℕ) → belongs m u kinds r g ≡ true → Max m u g (r / pageblock_types)
  unfolding belongs
  max_of u g e = (and_parts _ _ e).0

  pub belongs_by : (u v : List Bool) (g : ℕ) → belongs m v kinds r g ≡ true → Max m u g (r / pageblock_types) → belongs m u kinds r g ≡ true
  unfolding belongs
  belongs_by u v g e x = and_from _ _ x (and_parts _ _ e).1

  pub not_max : (u v : List Bool) (g : ℕ) → belongs m v kinds r g ≡ true → belongs m u kinds r g ≡ false → Max m u g (r / pageblock_types) → ⊥
  not_max u v g e n x = both_ways _ n (belongs_by u v g e x)

module _ (a : Area) (h n k : ℕ) (x : IsHeld a) where
  -- a run that leaves in two parts, the lower one first
  pub leave_more : leave_run (leave_run a h n) (h + n) k ≡ leave_run a h (n + k)
  unfolding leave_run settle
  leave_more =
      let m : ℕ = a.largest in
      let f : List Bool = a.free in
      let u : List Bool = without_pages f h n in
      let v : List Bool = without_pages f h (n + k) in
      let both : without_pages u (h + n) k ≡ v = without_both f h n k in
      let less : (i : ℕ) → In v i → In u i = λ i e. let w = without_pages-to f h (n + k) i e in without_pages-from f h n i w.0 (λ p q. w.1 p (omega arith)) in
      let stay : (g j : ℕ) → Max m f g j → Max m v g j → Max m u g j = λ g j p q.
      smaller_max m u f g j (λ i e. (without_pages-to f h n i e).0) (λ i lo hi. less i ((is_max-to m v g j q).inside i lo hi)) p in
      let rises : (g b j : ℕ) → Max m v g j → (Max m u g j → ⊥) → Max m u b j → (Max m f b j → ⊥) → b < g = leaving_rises m f u v h (h + n) (h + n + k)
      (λ i e. (without_pages-to f h n i e).0) (without_pages-from f h n) less (λ i e out. let y : In (without_pages u (h + n) k) i = without_pages-from u (h + n) k i e out in rw both at y)
      (λ i lo hi e. (without_pages-to f h n i e).1 lo hi) in
      ap (λ w. settle (record (settle (record a { free = u })) { free = w })) both
      ∙ settle_through a u v (λ r lt. settled_rising m u v a.kinds r (list_at a.lists r) (length-without_pages f h n ∙ sym (length-without_pages f h (n + k)))
      (λ g on e. belongs_by m a.kinds r u v g e (stay g (r / pageblock_types) (max_of m a.kinds r f g (sym (x.held r g lt) ∙ on)) (max_of m a.kinds r v g e)))
      (λ g b vg ug ub off vb. rises g b (r / pageblock_types) (max_of m a.kinds r v g vg) (not_max m a.kinds r u v g vg ug) (max_of m a.kinds r u b ub)
      (not_max m a.kinds r f v b vb (sym (x.held r b lt) ∙ off))))

  -- and one that is given back so
  pub give_more : IsTakenRun a h (n + k) → give_run (give_run a h n) (h + n) k ≡ give_run a h (n + k)
  unfolding give_run settle
  give_more clear =
      let m : ℕ = a.largest in
      let f : List Bool = a.free in
      let u : List Bool = with_pages f h n in
      let v : List Bool = with_pages f h (n + k) in
      let both : with_pages u (h + n) k ≡ v = with_both f h n k in
      let more : (i : ℕ) → In u i → In v i = λ i e. let y : In (with_pages u (h + n) k) i = with_pages-old u (h + n) k i e in rw both at y in
      let last : (i : ℕ) → In v i → In u i ⊎ ((h + n ≤ i) × (i < h + n + k)) = λ i e. with_pages-to u (h + n) k i (rw both e) in
      let stay : (g j : ℕ) → Max m f g j → Max m v g j → Max m u g j = λ g j p q.
      smaller_max m u v g j more (λ i lo hi. with_pages-old f h n i ((is_max-to m f g j p).inside i lo hi)) q in
      let off : (i : ℕ) → h + n ≤ i → i < h + n + k → In u i → ⊥ = λ i lo hi e. elim (with_pages-to f h n i e) [
        | inl old ↦ both_ways (has f i) (clear i (omega arith) (omega arith)) old
        | inr new ↦ absurd (omega (arith, new.1))
      ] in
      let rises : (g b j : ℕ) → Max m v g j → (Max m u g j → ⊥) → Max m u b j → (Max m f b j → ⊥) → b < g =
      giving_rises m f u v h (h + n) (h + n + k) (with_pages-old f h n) (with_pages-to f h n) more last off in
      ap (λ w. settle (record (settle (record a { free = u })) { free = w })) both
      ∙ settle_through a u v (λ r lt. settled_rising m u v a.kinds r (list_at a.lists r) (length-with_pages f h n ∙ sym (length-with_pages f h (n + k)))
      (λ g on e. belongs_by m a.kinds r u v g e (stay g (r / pageblock_types) (max_of m a.kinds r f g (sym (x.held r g lt) ∙ on)) (max_of m a.kinds r v g e)))
      (λ g b vg ug ub off vb. rises g b (r / pageblock_types) (max_of m a.kinds r v g vg) (not_max m a.kinds r u v g vg ug) (max_of m a.kinds r u b ub)
      (not_max m a.kinds r f v b vb (sym (x.held r b lt) ∙ off))))

  leave_run_held : IsHeld (leave_run a h n)
  unfolding leave_run
  leave_run_held = settle_held (record a { free = without_pages a.free h n })

  give_run_held : IsHeld (give_run a h n)
  unfolding give_run
  give_run_held = settle_held (record a { free = with_pages a.free h n })

  -- what lies behind a part that was given back is out as before
  behind_out : IsTakenRun a h (n + k) → IsTakenRun (give_run a h n) (h + n) k
  unfolding give_run settle
  behind_out clear i lo hi = false_from_ne_true _ (λ e. elim (with_pages-to a.free h n i e) [
    | inl old ↦ both_ways (has a.free i) (clear i (omega arith) (omega arith)) old
    | inr new ↦ absurd (omega (arith, new.1))
  ])

-- a run without a page
leave_none : (a : Area) (h : ℕ) → IsHeld a → leave_run a h 0 ≡ a
unfolding leave_run
leave_none a h x =
    settle_already a (without_pages a.free h 0) x (same_pages (without_pages a.free h 0) a.free (length-without_pages a.free h 0) (λ i e. (without_pages-to a.free h 0 i e).0) (λ i e. without_pages-from a.free h 0 i e (λ p q. omega arith)))

give_none : (a : Area) (h : ℕ) → IsHeld a → give_run a h 0 ≡ a
unfolding give_run
give_none a h x =
    settle_already a (with_pages a.free h 0) x (same_pages (with_pages a.free h 0) a.free (length-with_pages a.free h 0) (λ i e. elim (with_pages-to a.free h 0 i e) [ inl old ↦ old | inr new ↦ absurd (omega (arith, new.0, new.1)) ])
    (with_pages-old a.free h 0))

leave_all : (ns : List ℕ) (a : Area) (h : ℕ) → IsHeld a → leave_parts a h ns ≡ leave_run a h (sum ns)
leave_all [] a h x = sym (leave_none a h x)
leave_all (n ∷ ns) a h x =
    leave_all ns (leave_run a h n) (h + n) (leave_run_held a h n (sum ns) x) ∙ leave_more a h n (sum ns) x ∙ ap (leave_run a h) (sym (sum_by-cons (λ i. i) n ns))

give_all : (ns : List ℕ) (a : Area) (h : ℕ) → IsHeld a → IsTakenRun a h (sum ns) → give_parts a h ns ≡ give_run a h (sum ns)
give_all [] a h x clear = sym (give_none a h x)
give_all (n ∷ ns) a h x clear =
    let s : sum (n ∷ ns) ≡ n + sum ns = sum_by-cons (λ i. i) n ns in
    let out : IsTakenRun a h (n + sum ns) = λ i lo hi. clear i lo (omega arith) in
    give_all ns (give_run a h n) (h + n) (give_run_held a h n (sum ns) x) (behind_out a h n (sum ns) x out) ∙ give_more a h n (sum ns) x out ∙ ap (give_run a h) (sym s)

pub listed : (a : Area) → IsListedArea a → IsHeld a
listed a l = record { table = l.table; held = l.held }

pub left_in_parts : LeftInParts
left_in_parts a h ns l = leave_all ns a h (listed a l)

pub given_in_parts : GivenInParts
given_in_parts a h ns l clear = give_all ns a h (listed a l) clear

-- a block is a run
pub leave_block : (a : Area) (h k : ℕ) → leave a h k ≡ leave_run a h (2 ^ k)
unfolding leave leave_run without without_pages
leave_block a h k = refl

pub give_block : (a : Area) (h k : ℕ) → give a h k ≡ give_run a h (2 ^ k)
unfolding give give_run with_run with_pages
give_block a h k = refl

pub largest_left : (a : Area) (h n : ℕ) → (leave_run a h n).largest ≡ a.largest
unfolding leave_run settle
largest_left a h n = refl

pub largest_given : (a : Area) (h n : ℕ) → (give_run a h n).largest ≡ a.largest
unfolding give_run settle
largest_given a h n = refl

leave_cut : (most n : ℕ) (a : Area) (h : ℕ) → n ≤ most → IsHeld a → leave_blocks a (cut_up_to a.largest most h n) ≡ leave_run a h n
leave_cut zero n a h le x = let e : n ≡ 0 = omega arith in sym (leave_none a h x) ∙ ap (leave_run a h) (sym e)
leave_cut (suc most) zero a h le x = sym (leave_none a h x)
leave_cut (suc most) (suc n) a h le x =
    let k : ℕ = fitting_order a.largest h (suc n) in
    let inside : 2 ^ k ≤ suc n = (fitting a.largest h (suc n) (omega arith)).inside in
    let some : 0 < 2 ^ k = pow_pos k in
    let b : Area = leave_run a h (2 ^ k) in
    let rest : ℕ = suc n - 2 ^ k in
    let all : 2 ^ k + rest ≡ suc n = omega arith in
    ap (λ (c : Area). leave_blocks c (cut_up_to a.largest most (h + 2 ^ k) rest)) (leave_block a h k)
    ∙ ap (λ m. leave_blocks b (cut_up_to m most (h + 2 ^ k) rest)) (sym (largest_left a h (2 ^ k)))
    ∙ leave_cut most rest b (h + 2 ^ k) (omega arith) (leave_run_held a h (2 ^ k) rest x)
    ∙ leave_more a h (2 ^ k) rest x
    ∙ ap (leave_run a h) all

give_cut : (most n : ℕ) (a : Area) (h : ℕ) → n ≤ most → IsHeld a → IsTakenRun a h n → give_blocks a (cut_up_to a.largest most h n) ≡ give_run a h n
give_cut zero n a h le x clear = let e : n ≡ 0 = omega arith in sym (give_none a h x) ∙ ap (give_run a h) (sym e)
give_cut (suc most) zero a h le x clear = sym (give_none a h x)
give_cut (suc most) (suc n) a h le x clear =
    let k : ℕ = fitting_order a.largest h (suc n) in
    let inside : 2 ^ k ≤ suc n = (fitting a.largest h (suc n) (omega arith)).inside in
    let some : 0 < 2 ^ k = pow_pos k in
    let b : Area = give_run a h (2 ^ k) in
    let rest : ℕ = suc n - 2 ^ k in
    let all : 2 ^ k + rest ≡ suc n = omega arith in
    let out : IsTakenRun a h (2 ^ k + rest) = λ i lo hi. clear i lo (omega arith) in
    ap (λ (c : Area). give_blocks c (cut_up_to a.largest most (h + 2 ^ k) rest)) (give_block a h k)
    ∙ ap (λ m. give_blocks b (cut_up_to m most (h + 2 ^ k) rest)) (sym (largest_given a h (2 ^ k)))
    ∙ give_cut most rest b (h + 2 ^ k) (omega arith) (give_run_held a h (2 ^ k) rest x) (behind_out a h (2 ^ k) rest x out)
    ∙ give_more a h (2 ^ k) rest x out
    ∙ ap (give_run a h) all

pub left_by_cut : LeftByCut
left_by_cut a h n l = leave_cut n n a h (omega arith) (listed a l)

pub given_by_cut : GivenByCut
given_by_cut a h n l clear = give_cut n n a h (omega arith) (listed a l) clear
