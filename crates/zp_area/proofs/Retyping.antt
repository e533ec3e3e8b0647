-- A pageblock that has got another type: what its blocks' moving leaves is what relisting says, and the set is kept.
use Rattle.std.proofs.Common.{ℕ, ◌+◌, ◌-◌, ◌*◌, ◌/◌, ◌≡◌, ◌≤◌, ◌<◌, inl, inr, refl, sym, ◌∙◌, ap, arith, true, min, List, [], length, map, drop, set, get_or, get_or-set_same, get_or-set_other, length-set, length-append, length-drop, Option, None}
use Rattle.std.specs.List.{slice_index_or, range_with_len}
use Rattle.std.proofs.lemmas.Bool.{cases_eq, cases_lt, cases_Bool, false≢true}
use Rattle.std.proofs.lemmas.List.{get_or_default, set-get_or, take-append-drop, get_or_past, get_or_append_left, get_or-append_right, get_or-drop}
use Rattle.std.proofs.lemmas.List.FromFn.{get_or-map-range_with_len, length-map-range_with_len}
use Rattle.zp_model.specs.declared.pageblock_type.PageblockType.{PageblockType}
use Rattle.zp_model.specs.declared.pageblock_type.PageblockType.TheVariants.{Movable}
use Rattle.zp_model.specs.BlockSet.{is_order}
use Rattle.zp_model.specs.PageblockType.{pageblock_types}
use Rattle.zp_model.specs.Rows.{Rows, list_at, stands_in}
use Rattle.zp_model.specs.Area.{pageblock_pages, lists_count, kind_at}
use Rattle.zp_model.proofs.Heads.{head_le, lt_head, number_within}
use Rattle.zp_area.proofs.NotedBlocks.{free_lists, sides_same}
use Rattle.zp_area.specs.Blocks.{Blocks, block_set}
use Rattle.zp_area.specs.Retyped.{is_to_stand, relisted, all_relisted, retyped}
use Rattle.zp_area.specs.OneSet.{IsOneSet, IsKept}
use Rattle.zp_area.proofs.OneBlock.{head_below}
use Rattle.zp_area.proofs.Keeping.{blocks_length}
use Rattle.zp_area.proofs.RelistedBy.{relisted_by, relisted_by_same, relisted_held, held-relisted, distinct-relisted}
use Rattle.zp_area.proofs.Relisting.{IsAllListed, IsRelisting, IsLooking, stands_of, stands_of-to, stands_of-from, kind_while, while-in, while-out}
use Rattle.zp_model.proofs.TypeNumbers.{number_one}
use Rattle.zp_model.specs.Lawful.{IsListed}

pub all_listed : (m : ℕ) (a : Blocks) → IsOneSet m a → IsAllListed m (block_set a) a.kinds a.rows.lists
all_listed m a x = record { blocks = x.blocks; table = x.table; listed = x.listed }

module _ (m : ℕ) (a : Blocks) (kinds : List PageblockType) where
  length-each : length (map (λ r. relisted m (block_set a) kinds r (list_at a.rows.lists r)) (range_with_len 0 (lists_count m))) ≡ lists_count m
  length-each = length-map-range_with_len (λ r. relisted m (block_set a) kinds r (list_at a.rows.lists r)) 0 (lists_count m)

  -- the lists under these types, one by one
  pub free-relisted : (r : ℕ) → r < lists_count m → list_at (all_relisted m a kinds) r ≡ relisted m (block_set a) kinds r (list_at a.rows.lists r)
  unfolding all_relisted
  free-relisted r lt =
      get_or_append_left _ (drop (lists_count m) a.rows.lists) [] r (rw length-each lt)
      ∙ get_or-map-range_with_len (λ r. relisted m (block_set a) kinds r (list_at a.rows.lists r)) 0 (lists_count m) r r [] lt (omega arith)

  pub aside-relisted : (r : ℕ) → lists_count m ≤ r → list_at (all_relisted m a kinds) r ≡ list_at a.rows.lists r
  unfolding all_relisted
  aside-relisted r ge =
      let back : lists_count m + (r - lists_count m) ≡ r = omega arith in
      get_or-append_right _ (drop (lists_count m) a.rows.lists) (lists_count m) r [] length-each ge ∙ get_or-drop (lists_count m) a.rows.lists (r - lists_count m) [] ∙ ap (list_at a.rows.lists) back

  pub length-relisted : lists_count m ≤ length a.rows.lists → length (all_relisted m a kinds) ≡ length a.rows.lists
  unfolding all_relisted
  length-relisted le = length-append _ (drop (lists_count m) a.rows.lists) ∙ rw (length-each, length-drop (lists_count m) a.rows.lists) (omega arith)

  -- lists that are those, one by one
  relisted_all : (l : List (List ℕ)) → lists_count m ≤ length a.rows.lists → length l ≡ length a.rows.lists →
      ((r : ℕ) → r < lists_count m → list_at l r ≡ relisted m (block_set a) kinds r (list_at a.rows.lists r)) →
      ((r : ℕ) → lists_count m ≤ r → list_at l r ≡ list_at a.rows.lists r) → l ≡ all_relisted m a kinds
  unfolding all_relisted
  relisted_all l le len each aside =
      sym (take-append-drop (lists_count m) l)
      ∙ rw (free_lists m l (λ r. relisted m (block_set a) kinds r (list_at a.rows.lists r)) (omega arith) each, sides_same m a.rows.lists l len aside)

-- a type that the pageblock has already changes nothing
pub retyped_same : (m : ℕ) (a : Blocks) (b : ℕ) (t : PageblockType) → IsOneSet m a → t ≡ slice_index_or a.kinds b Movable → retyped m a b t ≡ a
unfolding relisted
retyped_same m a b t x e =
    let ek : set a.kinds b t ≡ a.kinds = ap (λ q. set a.kinds b q) e ∙ set-get_or a.kinds b Movable in
    let el : all_relisted m a a.kinds ≡ a.rows.lists =
    sym (relisted_all m a a.kinds a.rows.lists x.table refl (λ r lt.
    sym (relisted_held (is_to_stand m (block_set a) a.kinds r) (length (block_set a)) (list_at a.rows.lists r)
    (λ h on. let w = (x.listed r lt).to h on in stands_of-from (block_set a) r h (kind_at m a.kinds h) w.0 w.1)
    (λ h e. (x.listed r lt).from h (stands_of-to (block_set a) r h (kind_at m a.kinds h) e)))) (λ r ge. refl)) in
    rw (ek, el)

-- a list under new types holds the heads that are to stand on it
listed_retyped : (m : ℕ) (a : Blocks) (kinds : List PageblockType) → IsOneSet m a → (r : ℕ) → r < lists_count m →
    IsListed m (block_set a) kinds r (relisted m (block_set a) kinds r (list_at a.rows.lists r))
unfolding relisted
listed_retyped m a kinds x r lt =
    let s : List (Option ℕ) = block_set a in
    let held : (h : ℕ) → stands_in h (relisted_by (is_to_stand m s kinds r) (length s) (list_at a.rows.lists r)) ≡ is_to_stand m s kinds r h = λ h.
    held-relisted (is_to_stand m s kinds r) (length s) h (list_at a.rows.lists r)
    (λ e. head_below m (length s) h (r / pageblock_types) (x.blocks.block h (r / pageblock_types) (stands_of-to s r h (kind_at m kinds h) e).0)) in
    record {
      distinct = distinct-relisted (is_to_stand m s kinds r) (length s) (list_at a.rows.lists r) (x.listed r lt).distinct;
      to = λ h on. stands_of-to s r h (kind_at m kinds h) (sym (held h) ∙ on);
      from = λ h w. held h ∙ stands_of-from s r h (kind_at m kinds h) w.0 w.1;
    }

pub kept_retyped : (m : ℕ) (a : Blocks) (free_in : List ℕ) (b : ℕ) (t : PageblockType) → IsKept m a free_in → IsKept m (retyped m a b t) free_in
kept_retyped m a free_in b t x =
    let kinds : List PageblockType = set a.kinds b t in
    let n : length (all_relisted m a (set a.kinds b t)) ≡ length a.rows.lists = length-relisted m a kinds x.one.table in
    record {
      one = record {
        pages = x.one.pages;
        table = rw n x.one.table;
        typed = length-set a.kinds b t ∙ x.one.typed;
        blocks = x.one.blocks;
        listed = λ r lt. rw (free-relisted m a kinds r lt) (listed_retyped m a kinds x.one r lt);
        aside = λ r p ge on. x.one.aside r p ge (rw (aside-relisted m a kinds r ge) at on);
      };
      few = rw n x.few;
      each = x.each;
    }

-- a page of pageblock b, in the words of the code: f is what is read of the types there
pub looking : (m b i : ℕ) (f t : PageblockType) (a : Blocks) → IsOneSet m a → b < length a.kinds →
    b * pageblock_pages m ≤ i → i < min (length a.rows.states) (b * pageblock_pages m + pageblock_pages m) → f ≡ slice_index_or a.kinds b f →
    (t ≡ slice_index_or a.kinds b Movable → ⊥) → IsLooking m (b * pageblock_pages m) i f t (block_set a) a.kinds a.rows.lists
looking m b i f t a x lt lo hi ef other =
    let e : i / pageblock_pages m ≡ b = number_within b m i lo (omega arith) in
    let now : slice_index_or a.kinds b Movable ≡ f = get_or_default a.kinds b Movable f lt ∙ sym ef in
    record {
      all = all_listed m a x;
      from = lo;
      page = omega (arith, blocks_length a.rows.states);
      old = ap (λ q. slice_index_or a.kinds q Movable) e ∙ now;
      other = λ same. other (sym (number_one f t same) ∙ sym now);
    }

-- the pages of pageblock b have its new type when all have been looked at
pub kinds_now : (m b n : ℕ) (t : PageblockType) (kinds : List PageblockType) → b < length kinds → (h : ℕ) → h < n →
    kind_while m kinds (b * pageblock_pages m) (min n (b * pageblock_pages m + pageblock_pages m)) t h ≡ kind_at m (set kinds b t) h
kinds_now m b n t kinds lt h below =
    elim (cases_eq (h / pageblock_pages m) b) [
      | inl same ↦
          let now : slice_index_or (set kinds b t) b Movable ≡ t = get_or-set_same kinds b t Movable lt in
          while-in m kinds _ _ t h (omega (arith, head_le h m, ap (λ q. q * pageblock_pages m) same)) (omega (arith, lt_head h m, ap (λ q. q * pageblock_pages m) same)) ∙ sym (rw same now)
      | inr ne ↦ while-out m kinds _ _ t h (λ p q. ne (number_within b m h p (omega arith))) ∙ sym (get_or-set_other kinds b (h / pageblock_pages m) t Movable ne)
    ]

-- the lists when all pages of pageblock b have been looked at
pub relisted_now : (m b : ℕ) (t : PageblockType) (a : Blocks) (l : List (List ℕ)) → IsOneSet m a → b < length a.kinds →
    IsRelisting m (b * pageblock_pages m) (min (length a.rows.states) (b * pageblock_pages m + pageblock_pages m)) t (block_set a) a.kinds a.rows.lists l →
    l ≡ all_relisted m a (set a.kinds b t)
unfolding relisted
relisted_now m b t a l x lt y =
    relisted_all m a (set a.kinds b t) l x.table y.table
    (λ r below.
    y.listed r below
    ∙ relisted_by_same (λ h. stands_of s r h (kind_while m a.kinds first end t h)) (is_to_stand m s (set a.kinds b t) r) (length s) (list_at a.rows.lists r)
    (λ h. elim (cases_Bool (is_order (r / pageblock_types) (get_or s h None))) [
      | inl on ↦ ap (stands_of s r h) (kinds_now m b (length a.rows.states) t a.kinds lt h (start_below h (r / pageblock_types) on))
      | inr none ↦ rw none refl
    ])) y.aside
  where
    s : List (Option ℕ)
    s = block_set a

    first : ℕ
    first = b * pageblock_pages m

    end : ℕ
    end = min (length a.rows.states) (b * pageblock_pages m + pageblock_pages m)

    start_below : (h k : ℕ) → is_order k (get_or (block_set a) h None) ≡ true → h < length a.rows.states
    start_below h k on =
        elim (cases_lt h (length a.rows.states)) [
          | inl lt ↦ lt
          | inr ge ↦ absurd (false≢true (rw (get_or_past (block_set a) h None (omega (arith, blocks_length a.rows.states))) at on))
        ]

-- an area of these notes, types and lists, in the words of the code
pub retyped_by : (m : ℕ) (a : Blocks) (b : ℕ) (t : PageblockType) (w : Rows) (kinds : List PageblockType) → w.states ≡ a.rows.states → kinds ≡ set a.kinds b t →
    w.lists ≡ all_relisted m a kinds → (let z : Blocks = record { largest = a.largest; rows = w; kinds = kinds } in z) ≡ retyped m a b t
retyped_by m a b t w kinds es ek el = rw (← ek, ← el, ← es)
