-- Pages that are taken one by one off a block: they rise, and leave what the run of them leaves. Of a run the lower half goes first, and what is chosen then is the
-- higher one.
use Rattle.std.proofs.Common.{ℕ, suc, zero, ◌+◌, ◌-◌, ◌/◌, ◌^◌, ◌≡◌, ◌≤◌, ◌<◌, ◌↔◌, inl, inr, refl, sym, ◌∙◌, ap, arith, Bool, true, not, ◌&&◌, List, [], ◌∷◌, ◌++◌, length, min, slice_index_or, unwrap_or, get_or-take, length-take-le, Option, Some, None}
use Rattle.std.specs.List.{filter, range_with_len}
use Rattle.std.specs.Option.{option_or}
use Rattle.std.proofs.lemmas.Bool.{and_parts, and_from, cases_eq, cases_lt, eqb-true, eq-eqb, false≢true}
use Rattle.std.proofs.lemmas.Nat.{pow_pos}
use Rattle.std.proofs.Math.Nat.{pow-le-pow_right}
use Rattle.std.proofs.lemmas.Option.{none-some}
use Rattle.zp_model.specs.declared.migrate_type.MigrateType.{MigrateType}
use Rattle.zp_model.specs.declared.pageblock_type.PageblockType.{PageblockType}
use Rattle.zp_model.specs.PageblockType.{pageblock_types, pageblock_type, pageblock_type_number}
use Rattle.zp_model.specs.Block.{is_max, without}
use Rattle.zp_model.specs.BlockSet.{first_of}
use Rattle.zp_model.specs.Rows.{front, list_at, stands_in}
use Rattle.zp_model.specs.Area.{Area, belongs, falling, free_list, kind_at, list_number, lists_count, settle, settled}
use Rattle.zp_model.specs.Choose.{own}
use Rattle.zp_model.specs.Runs.{leave_run}
use Rattle.zp_model.specs.Take.{leave, taken, take_answer, take_after}
use Rattle.zp_model.specs.Lawful.{IsListedArea}
use Rattle.zp_model.proofs.Covers.{has_below, length-without, without-decides}
use Rattle.zp_model.proofs.FirstFound.{choose_own, first_some}
use Rattle.zp_model.proofs.Heads.{two}
use Rattle.zp_model.proofs.Maximal.{Max, max-normal}
use Rattle.zp_model.proofs.MaximalBlocks.{max-unique, one_order}
use Rattle.zp_model.proofs.Normal.{IsNormal}
use Rattle.zp_model.proofs.Pages.{In, is_max-to}
use Rattle.zp_model.proofs.RowLists.{front_stands}
use Rattle.zp_model.proofs.RunGiven.{leave_block, leave_more, listed}
use Rattle.zp_model.proofs.RunParts.{without_block}
use Rattle.zp_model.proofs.Settles.{belongs-to, belongs-from, stands_first}
use Rattle.zp_model.proofs.Split.{AfterSplit, High, split-normal}
use Rattle.zp_model.proofs.TypeNumbers.{list_number_below, number_one}
use Rattle.zp_laws.proofs.Areas.{free-leave_run, free-taken, lists-leave}
use Rattle.zp_laws.proofs.Choosing.{list_order, list_type}
use Rattle.zp_laws.proofs.Counting.{same_tests}
use Rattle.zp_model.specs.BlockSet.{Starts, cover}
use Rattle.zp_model.specs.Frames.{Frames, with_area}
use Rattle.zp_area.specs.Blocks.{Blocks, block_set}
use Rattle.zp_buddy.specs.Choices.{IsTaken, area_in, chosen_of, frames_in}
use Rattle.zp_buddy.specs.Sound.{IsSound}
use Rattle.zp_buddy.specs.Runs.{IsRunTaking, pages_of_first, pages_taken, pages_left, run_pages}
use Rattle.zp_buddy.proofs.Settled.{kind_inside, set_maximal}

-- the maximal blocks once the low run of one of them has left
pub max_split : (m : ℕ) (u : List Bool) (h o k : ℕ) → Max m u h o → k ≤ o → (g j : ℕ) → AfterSplit (Max m u) h k o g j ↔ Max m (without u h k) g j
max_split m u h o k s le g j = max-unique m (AfterSplit (Max m u) h k o) (without u h k) left g j
  where
    left : IsNormal m (AfterSplit (Max m u) h k o) (In (without u h k))
    left =
        let z = split-normal m (Max m u) (In u) (max-normal m u) h o k s le in
        record {
          order = z.order;
          aligned = z.aligned;
          apart = z.apart;
          unjoined = z.unjoined;
          covers = λ i x. z.covers i ((without-decides u h k i (omega (arith, has_below (without u h k) i x, length-without u h k))).0 x);
          inside = λ g j y i a b. let w = z.inside g j y i a b in (without-decides u h k i (has_below u i w.0)).1 w;
        }

pub settled_parts : (m : ℕ) (u : List Bool) (kinds : List PageblockType) (r : ℕ) (old : List ℕ) →
    settled m u kinds r old ≡ filter (λ g. belongs m u kinds r g && not (stands_in g old)) (falling (length u)) ++ filter (belongs m u kinds r) old
unfolding settled
settled_parts m u kinds r old = refl

-- what belongs on the list of an order and a type
pub belongs_at : (m : ℕ) (u : List Bool) (kinds : List PageblockType) (j g : ℕ) (t : PageblockType) → belongs m u kinds (list_number j t) g ≡ true →
    Max m u g j × (kind_at m kinds g ≡ t)
unfolding belongs
belongs_at m u kinds j g t e =
    let p = and_parts _ _ e in
    let x : is_max m u g (list_number j t / pageblock_types) ≡ true = p.0 in
    (rw (list_order j t) at x, number_one (kind_at m kinds g) t (eqb-true _ _ p.1 ∙ list_type j t))

pub belongs_of : (m : ℕ) (u : List Bool) (kinds : List PageblockType) (j g : ℕ) (t : PageblockType) → Max m u g j → kind_at m kinds g ≡ t →
    belongs m u kinds (list_number j t) g ≡ true
unfolding belongs
belongs_of m u kinds j g t x e =
    and_from _ _ (ap (is_max m u g) (list_order j t) ∙ x) (eq-eqb _ _ (ap pageblock_type_number e ∙ sym (list_type j t)))

-- block (h, o) is in front of the first list of type t that is not empty
pub record IsOwn (a : Area) (t : MigrateType) (h o : ℕ) : Type 0 where
  pub within : o ≤ a.largest
  pub first : front (free_list a o (pageblock_type t)) ≡ Some h
  pub least : (j : ℕ) → j < o → front (free_list a j (pageblock_type t)) ≡ None

first_least : {Y : Type 0} → (f : ℕ → Option Y) (a n : ℕ) (y : Y) → first_of f (range_with_len a n) ≡ Some y →
    (j : ℕ) × (a ≤ j) × (j < a + n) × (f j ≡ Some y) × ((i : ℕ) → a ≤ i → i < j → f i ≡ None)
first_least f a zero y e = absurd (none-some y e)
first_least {Y} f a (suc n) y e = go (f a) refl e (λ d. first_least f (a + 1) n y d)
  where
    go : (r : Option Y) → f a ≡ r → option_or r (first_of f (range_with_len (a + 1) n)) ≡ Some y →
        (first_of f (range_with_len (a + 1) n) ≡ Some y → (j : ℕ) × (a + 1 ≤ j) × (j < a + 1 + n) × (f j ≡ Some y) × ((i : ℕ) → a + 1 ≤ i → i < j → f i ≡ None)) →
        (j : ℕ) × (a ≤ j) × (j < a + suc n) × (f j ≡ Some y) × ((i : ℕ) → a ≤ i → i < j → f i ≡ None)
    go (Some x) q d more = (a, omega arith, omega arith, q ∙ d, λ i p l. absurd (omega arith))
    go None q d more =
        let r = more d in
        (r.0, omega (arith, r.1), omega (arith, r.2), r.3, λ i p l. elim (cases_eq a i) [ inl same ↦ ap f (sym same) ∙ q | inr ne ↦ r.4 i (omega arith) l ])

-- where a block of the type's own is chosen, it is such a one
pub own_least : (a : Area) (t : MigrateType) (h : ℕ) → own a 0 t ≡ Some h → (o : ℕ) × IsOwn a t h o
unfolding own
own_least a t h e =
    let x = first_least (λ o. front (free_list a o (pageblock_type t))) 0 (a.largest + 1 - 0) h e in
    (x.0, record { within = omega (arith, x.2); first = x.3; least = λ j lt. x.4 j (omega arith) lt })

pub own_from : (a : Area) (t : MigrateType) (h o : ℕ) → IsOwn a t h o → own a 0 t ≡ Some h
unfolding own
own_from a t h o x =
    first_some (λ o. front (free_list a o (pageblock_type t))) 0 (a.largest + 1 - 0) o h (omega arith) (omega (arith, x.within)) x.first (λ i p lt. x.least i lt)

front_none : (g : ℕ) (xs : List ℕ) → front xs ≡ None → stands_in g xs ≡ true → ⊥
front_none g [] e on = false≢true on
front_none g (x ∷ xs) e on = cc

none_front : (xs : List ℕ) → ((g : ℕ) → stands_in g xs ≡ true → ⊥) → front xs ≡ None
none_front [] f = refl
none_front (x ∷ xs) f = absurd (f x (stands_first x xs))

only_front : (b : ℕ) (xs : List ℕ) → stands_in b xs ≡ true → ((g : ℕ) → stands_in g xs ≡ true → g ≡ b) → front xs ≡ Some b
only_front b [] e f = absurd (false≢true e)
only_front b (x ∷ xs) e f = ap (λ n. Some n) (f x (stands_first x xs))

module _ (a : Area) (t : MigrateType) (h o : ℕ) (l : IsListedArea a) (x : IsOwn a t h o) where
  -- it is a maximal block, in a pageblock of the type
  pub own_block : Max a.largest a.free h o × (kind_at a.largest a.kinds h ≡ pageblock_type t)
  own_block =
      let q : ℕ = list_number o (pageblock_type t) in
      let on : stands_in h (list_at a.lists q) ≡ true = front_stands (list_at a.lists q) (Some h) (sym x.first) in
      belongs_at a.largest a.free a.kinds o h (pageblock_type t) (sym (l.held q h (list_number_below a.largest o (pageblock_type t) x.within)) ∙ on)

  module _ (k : ℕ) (lt : k < o) where
    -- what stands on the type's lists once the low run of order k has left is a high half
    stands_high : (j g : ℕ) → j < o → stands_in g (free_list (leave a h k) j (pageblock_type t)) ≡ true → High h k o g j
    unfolding leave settle
    stands_high j g below on =
        let m : ℕ = a.largest in
        let s : PageblockType = pageblock_type t in
        let q : ℕ = list_number j s in
        let inside : q < lists_count m = list_number_below m j s (omega (arith, x.within)) in
        let b = belongs_at m (without a.free h k) a.kinds j g s (sym ((lists-leave a h k l).held q g inside) ∙ on) in
        elim ((max_split m a.free h o k own_block.0 (omega arith) g j).1 b.0) [
          | inl y ↦ absurd (front_none g (list_at a.lists q) (x.least j below) (l.held q g inside ∙ belongs_of m a.free a.kinds j g s y.0 b.1))
          | inr y ↦ y
        ]

    -- and the lowest of them is chosen next
    pub own_between : IsOwn (leave a h k) t (h + 2 ^ k) k
    unfolding leave settle
    own_between =
        let m : ℕ = a.largest in
        let s : PageblockType = pageblock_type t in
        let q : ℕ = list_number k s in
        let inside : q < lists_count m = list_number_below m k s (omega (arith, x.within)) in
        let max = is_max-to m a.free h o own_block.0 in
        let room : 2 ^ (k + 1) ≤ 2 ^ o = pow-le-pow_right (omega arith) (omega arith) in
        let half : Max m (without a.free h k) (h + 2 ^ k) k = (max_split m a.free h o k own_block.0 (omega arith) (h + 2 ^ k) k).0 (inr (omega arith, lt, refl)) in
        let kind : kind_at m a.kinds (h + 2 ^ k) ≡ s = kind_inside m a.kinds h o (h + 2 ^ k) max.aligned max.order (omega arith) (omega (arith, two k, pow_pos k)) ∙ own_block.1 in
        record {
          within = omega (arith, x.within);
          first = only_front (h + 2 ^ k) (free_list (leave a h k) k s) ((lists-leave a h k l).held q (h + 2 ^ k) inside ∙ belongs_of m (without a.free h k) a.kinds k (h + 2 ^ k) s half kind)
              (λ g on. (stands_high k g lt on).2);
          least = λ j below. none_front (free_list (leave a h k) j s) (λ g on. let y = stands_high j g (omega arith) on in omega (arith, y.0));
        }

pub taken-plus : (a : Area) (t : MigrateType) (n k : ℕ) → pages_taken a t (n + k) ≡ pages_taken a t n ++ pages_taken (pages_left a t n) t k
taken-plus a t zero k = let e : 0 + k ≡ k = omega arith in ap (pages_taken a t) e
taken-plus a t (suc n) k =
    let e : suc n + k ≡ suc (n + k) = omega arith in
    ap (pages_taken a t) e ∙ ap (λ ps. take_answer a 0 t ∷ ps) (taken-plus (take_after a 0 t) t n k)

pub left-plus : (a : Area) (t : MigrateType) (n k : ℕ) → pages_left a t (n + k) ≡ pages_left (pages_left a t n) t k
left-plus a t zero k = let e : 0 + k ≡ k = omega arith in ap (pages_left a t) e
left-plus a t (suc n) k = let e : suc n + k ≡ suc (n + k) = omega arith in ap (pages_left a t) e ∙ left-plus (take_after a 0 t) t n k

pub run-plus : (h n k : ℕ) → run_pages h (n + k) ≡ run_pages h n ++ run_pages (h + n) k
run-plus h zero k =
    let e : 0 + k ≡ k = omega arith in
    let f : h ≡ h + 0 = omega arith in
    λ i. run_pages (f i) (e i)
run-plus h (suc n) k =
    let e : suc n + k ≡ suc (n + k) = omega arith in
    let f : h + 1 + n ≡ h + suc n = omega arith in
    ap (run_pages h) e ∙ ap (λ ps. Some h ∷ ps) (run-plus (h + 1) n k ∙ ap (λ g. run_pages (h + 1) n ++ run_pages g k) f)

own_one : (a : Area) (t : MigrateType) (h o : ℕ) → IsOwn a t h o → (pages_taken a t 1 ≡ run_pages h 1) × (pages_left a t 1 ≡ leave a h 0)
unfolding take_answer take_after taken
own_one a t h o x = let c = choose_own a 0 h t (own_from a t h o x) in (rw c refl, rw c refl)

-- so many pages, no more than the low run of order k of such a block has, are its lowest pages, and leave what the run of them leaves
pub own_pages : (k : ℕ) (a : Area) (t : MigrateType) (h o n : ℕ) → IsListedArea a → IsOwn a t h o → k ≤ o → 0 < n → n ≤ 2 ^ k →
    (pages_taken a t n ≡ run_pages h n) × (pages_left a t n ≡ leave_run a h n)
own_pages zero a t h o n l x le some few =
    let one : n ≡ 1 = omega arith in
    let y = own_one a t h o x in
    rw one (y.0, y.1 ∙ leave_block a h 0)
own_pages (suc k) a t h o n l x le some few = elim (cases_lt (2 ^ k) n) [
  | inr low ↦ own_pages k a t h o n l x (omega arith) some low
  | inl high ↦
      let b : Area = leave a h k in
      let c : ℕ = 2 ^ k in
      let d : ℕ = n - 2 ^ k in
      let first = own_pages k a t h o (2 ^ k) l x (omega arith) (pow_pos k) (omega arith) in
      let left : pages_left a t c ≡ b = first.1 ∙ sym (leave_block a h k) in
      let double : 2 ^ suc k ≡ 2 ^ k + 2 ^ k = omega arith in
      let rest = own_pages k b t (h + 2 ^ k) k (n - 2 ^ k) (lists-leave a h k l) (own_between a t h o l x k (omega arith)) (omega arith) (omega arith) (omega arith) in
      let e : n ≡ c + d = omega arith in (
        ap (pages_taken a t) e ∙ taken-plus a t c d ∙ (λ i. first.0 i ++ pages_taken (left i) t d) ∙ ap (λ ps. run_pages h c ++ ps) rest.0 ∙ sym (run-plus h c d) ∙ ap (run_pages h) (sym e),
        ap (pages_left a t) e ∙ left-plus a t c d ∙ ap (λ q. pages_left q t d) left ∙ rest.1 ∙ ap (λ q. leave_run q (h + 2 ^ k) d) (leave_block a h k) ∙ leave_more a h c d (listed a l) ∙ ap (leave_run a h) (sym e),
      )
]

-- the n pages from h on have left a, which leaves y
pub record IsLeftAs (a : Blocks) (h n : ℕ) (y : Blocks) : Type 0 where
  pub largest : y.largest ≡ a.largest
  pub sound : IsSound a.largest y.rows.states y.kinds y.rows.lists
  pub pages : length y.rows.states ≡ length a.rows.states
  pub typed : length y.kinds ≡ length a.kinds
  pub after : frames_in a.largest y ≡ with_area (frames_in a.largest a) (leave_run (area_in a.largest a) h n)

-- the lists of a sound area hold what belongs there
pub sound_listed : (m : ℕ) (a : Blocks) → IsSound m a.rows.states a.kinds a.rows.lists → IsListedArea (area_in m a)
sound_listed m a x = record {
  table = length-take-le (lists_count m) a.rows.lists x.table;
  distinct = λ r lt. rw (get_or-take (lists_count m) a.rows.lists r [] lt) (x.listed r lt).distinct;
  held = λ r h lt.
      rw (get_or-take (lists_count m) a.rows.lists r [] lt)
      (same_tests _ _ (λ on. belongs-from m (block_set a) a.kinds r h x.normal ((x.listed r lt).to h on)) (λ b. (x.listed r lt).from h (belongs-to m (block_set a) a.kinds r h x.normal b)));
}

-- the lowest pages of the block of the type's own that is chosen have left
pub run_own : (a y : Blocks) (t : MigrateType) (most h found n : ℕ) → IsSound a.largest a.rows.states a.kinds a.rows.lists → own (area_in a.largest a) 0 t ≡ Some h →
    Starts (block_set a) h found → 0 < most → n ≡ min most (2 ^ found) → IsLeftAs a h n y → IsRunTaking a t most y h n
run_own a y t most h found n x e st wanted count z =
    let b : Area = area_in a.largest a in
    let l = sound_listed a.largest a x in
    let w = own_least b t h e in
    let here : Max a.largest (cover (block_set a)) h found = (max-unique a.largest (Starts (block_set a)) (cover (block_set a)) x.normal h found).0 st in
    let some : 0 < n = omega (arith, count, pow_pos found) in
    let enough : n ≤ 2 ^ found = omega (arith, count) in
    let pages : pages_of_first b (Some h) ≡ 2 ^ found = ap (λ s. 2 ^ unwrap_or (slice_index_or s h None) 0) (sym (set_maximal a.largest (block_set a) x.normal)) ∙ ap (λ o. 2 ^ unwrap_or o 0) st in
    let same : w.0 ≡ found = one_order a.largest (cover (block_set a)) h found w.0 here (own_block b t h w.0 l w.1).0 in
    let r = own_pages w.0 b t h w.0 n l w.1 (omega arith) some (rw same enough) in
    record {
      count = count ∙ ap (min most) (sym pages ∙ ap (pages_of_first b) (sym e));
      some = some;
      within = omega (arith, count);
      answers = r.0;
      order = found;
      enough = enough;
      starts = st;
      largest = z.largest;
      sound = z.sound;
      pages = z.pages;
      typed = z.typed;
      left = ap (λ (f : Frames). f.area.free) z.after ∙ free-leave_run b h n;
      after = z.after ∙ ap (with_area (frames_in a.largest a)) (sym r.1);
    }

-- one page of another type's block was taken
pub run_one : (a y : Blocks) (t : MigrateType) (most h : ℕ) → 0 < most → own (area_in a.largest a) 0 t ≡ None → IsTaken a 0 t y (Some h) → IsRunTaking a t most y h 1
unfolding take_answer take_after
run_one a y t most h some none z =
    let x = z.2 in
    let one : 1 ≡ min most 1 = omega (arith, some) in
    record {
      count = one ∙ ap (λ o. min most (pages_of_first (area_in a.largest a) o)) (sym none);
      some = omega arith;
      within = omega arith;
      answers = rw (x.chosen, z.1) refl;
      order = z.0.block.order;
      enough = pow_pos z.0.block.order;
      starts = rw z.1 x.block.starts;
      largest = x.largest;
      sound = x.sound;
      pages = x.pages;
      typed = x.typed;
      left = ap (λ (f : Frames). f.area.free) x.after ∙ free-taken (area_in a.largest a) 0 t (chosen_of z.0) ∙ ap (λ g. without (cover (block_set a)) g 0) (sym z.1) ∙ without_block (cover (block_set a)) h 0;
      after = rw x.chosen x.after;
    }
