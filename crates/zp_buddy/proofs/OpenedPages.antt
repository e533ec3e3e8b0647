-- The opening of a zone: the maximal blocks of all pages are added one after another, the lowest first.
use Rattle.std.proofs.Common.{ℕ, suc, zero, ◌+◌, ◌-◌, ◌/◌, ◌%◌, ◌^◌, ◌≡◌, ◌==◌, ◌≢◌, ◌≤◌, ◌<◌, ◌⊎◌, inl, inr, refl, sym, ◌∙◌, ap, arith, Bool, true, false, cond, not, ◌&&◌, List, [], ◌∷◌, length, replicate, filter, set, get_or-set_same, get_or-set_other, length-set}
use Rattle.std.specs.List.{count_by}
use Rattle.std.proofs.lemmas.Nat.{pow_pos}
use Rattle.std.proofs.lemmas.Bool.{cases_lt, cases_eq, and_parts, eqb-true, eq-eqb, ne_eqb, false≢true, false_from_ne_true, both_ways}
use Rattle.std.proofs.lemmas.List.{append-nil, drop-replicate, get_or-drop, get_or-replicate, length-map, length-replicate, take-replicate}
use Rattle.std.proofs.lemmas.List.Sums.{sum_by-cons}
use Rattle.std.proofs.Math.Bool.{and-true}
use Rattle.zp_model.specs.declared.constants.TheConstants.{MAX_PAGES}
use Rattle.zp_model.specs.declared.pageblock_type.PageblockType.TheVariants.{Movable}
use Rattle.zp_model.specs.declared.state.State.{State}
use Rattle.zp_model.specs.declared.state.State.TheVariants.{Tail, Free}
use Rattle.zp_model.specs.Block.{head, is_max, size}
use Rattle.zp_model.specs.BlockSet.{Starts, cover}
use Rattle.zp_model.specs.Frames.{frames_opening}
use Rattle.zp_model.specs.PageblockType.{pageblock_type_number, pageblock_types}
use Rattle.zp_model.specs.Rows.{list_at, state_at, stands_in}
use Rattle.zp_model.specs.Area.{belongs, falling, kind_at, list_number, lists_count, opening, pageblocks_of, settle, settled}
use Rattle.zp_model.proofs.Heads.{head_self, aligned_down}
use Rattle.zp_model.proofs.Normal.{IsNormal}
use Rattle.zp_model.proofs.Pages.{In, is_max-to, is_max-from}
use Rattle.zp_model.proofs.Maximal.{Max, max-normal, maximal-apart}
use Rattle.zp_model.proofs.Covers.{has_below, normal_cover, same_pages}
use Rattle.zp_model.proofs.RowLists.{replicated}
use Rattle.zp_laws.proofs.Counting.{one_if, same_tests}
use Rattle.zp_laws.proofs.Settling.{distinct-falling}
use Rattle.zp_area.specs.Blocks.{Blocks, added, no_blocks}
use Rattle.zp_area.specs.Given.{IsClearRun}
use Rattle.zp_area.specs.NotedBlocks.{free_order, blocks_of}
use Rattle.zp_area.proofs.Filters.{filter_same}
use Rattle.zp_area.proofs.NotedBlocks.{free_none, starts-to, starts-from, tail_free}
use Rattle.zp_buddy.specs.Held.{IsHeld}
use Rattle.zp_buddy.specs.Opened.{all_pages, all_movable, IsOpenedTo}
use Rattle.zp_buddy.specs.Sound.{frames_of}
use Rattle.zp_buddy.proofs.Settled.{IsSettled, length-pages, one_order, settled_frames, settled_sound}

all_below : (n i : ℕ) → In (all_pages n) i → i < n
all_below n i e = omega (arith, has_below (all_pages n) i e, length-replicate n true)

-- the largest block that fits at a page which is aligned as far as the rest of the zone asks for
pub fits_max : (m n a o k : ℕ) → a % 2 ^ o ≡ 0 → o ≤ m → (o ≡ m) ⊎ (n - a < 2 ^ o) → k ≤ o → a + 2 ^ k ≤ n →
    (k ≡ o) ⊎ (n - a < 2 ^ (k + 1)) → is_max m (all_pages n) a k ≡ true
fits_max m n a o k al oo bound le fits most =
    is_max-from m (all_pages n) a k (record {
      order = omega arith;
      aligned = aligned_down k o a le al;
      inside = λ i p q. get_or-replicate n i true false (omega arith);
      alone = λ lt f. elim (cases_lt k o) [
        | inl below ↦
            let d : head a (k + 1) ≡ a = head_self a (k + 1) (aligned_down (k + 1) o a (omega arith) al) in
            let pos : 0 < 2 ^ (k + 1) = pow_pos (k + 1) in
            let last : a + 2 ^ (k + 1) - 1 < n = all_below n (a + 2 ^ (k + 1) - 1) (f (a + 2 ^ (k + 1) - 1) (omega arith) (omega arith)) in
            omega arith
        | inr ge ↦ let same : k ≡ o = omega arith in omega (arith, ap (λ q. 2 ^ q) same)
      ];
    })

-- past the head of a maximal block no other starts in it
no_head_inside : (m n a k g j : ℕ) → is_max m (all_pages n) a k ≡ true → a < g → g < a + 2 ^ k → is_max m (all_pages n) g j ≡ false
no_head_inside m n a k g j x lo hi =
    false_from_ne_true _ (λ y.
    let e = maximal-apart m (In (all_pages n)) a k g j g (is_max-to m (all_pages n) a k x) (is_max-to m (all_pages n) g j y)
    (omega arith) hi (omega arith) (omega (arith, pow_pos j)) in
    omega arith)

-- the numbers below a filter's next head
filter_falling : (p : ℕ → Bool) (a d : ℕ) → 0 < d → ((i : ℕ) → a < i → i < a + d → p i ≡ false) → filter p (falling (a + d)) ≡ cond (p a) (a ∷ filter p (falling a)) (filter p (falling a))
filter_falling p a zero pos f = absurd (omega arith)
filter_falling p a (suc d) pos f = gap d f
  where
    gap : (d : ℕ) → ((i : ℕ) → a < i → i < a + suc d → p i ≡ false) → filter p (falling (a + suc d)) ≡ filter p (falling (suc a))
    gap zero f = ap (λ m. filter p (falling m)) (let q : a + suc zero ≡ suc a = omega arith in q)
    gap (suc d) f =
        let e : a + suc (suc d) ≡ suc (a + suc d) = omega arith in
        ap (λ m. filter p (falling m)) e ∙ rw (f (a + suc d) (omega arith) (omega arith)) (gap d (λ i lo hi. f i lo (omega arith)))

-- the head of a maximal block belongs on the list of its order and Movable, and on no other
belongs_head : (m n a k r : ℕ) → is_max m (all_pages n) a k ≡ true → belongs m (all_pages n) (all_movable m n) r a ≡ (r == list_number k Movable)
unfolding belongs
belongs_head m n a k r x =
    let movable : pageblock_type_number (kind_at m (all_movable m n) a) ≡ 2 = ap pageblock_type_number (replicated (pageblocks_of m n) _ Movable) in
    same_tests _ _
    (λ e.
    let b = and_parts _ _ e in
    let order : r / pageblock_types ≡ k = one_order m (all_pages n) a k (r / pageblock_types) x b.0 in
    eq-eqb r (list_number k Movable) (omega (arith, eqb-true _ _ b.1)))
    (λ e.
    let f : r ≡ list_number k Movable = eqb-true _ _ e in
    let d : r / pageblock_types ≡ k = omega arith in
    let z : r % pageblock_types ≡ 2 = omega arith in
    rw (d, x, movable, z) refl)

-- one block more
pub opened_added : (m n h k : ℕ) (a : Blocks) → IsOpenedTo m n h a.rows.states a.rows.lists → h < n → is_max m (all_pages n) h k ≡ true → lists_count m ≤ length a.rows.lists →
    a.kinds ≡ all_movable m n → IsOpenedTo m n (h + 2 ^ k) (added m a h k).rows.states (added m a h k).rows.lists
unfolding belongs
opened_added m n h k a x lt top table ek =
    let u : List Bool = all_pages n in
    let r : ℕ = list_number k Movable in
    let v : List ℕ = h ∷ list_at a.rows.lists r in
    let le : k ≤ m = (is_max-to m u h k top).order in
    let pos : 0 < 2 ^ k = pow_pos k in
    let movable : kind_at m a.kinds h ≡ Movable = rw ek (replicated (pageblocks_of m n) _ Movable) in
    let now : state_at (added m a h k).rows.states h ≡ Free k = get_or-set_same a.rows.states h (Free k) Tail (omega (arith, x.pages)) in
    let other : (g : ℕ) → g ≢ h → state_at (added m a h k).rows.states g ≡ state_at a.rows.states g = λ g ne. get_or-set_other a.rows.states h g (Free k) Tail ne in
    rw movable (record {
      heads = λ g j b. elim (cases_eq g h) [
        | inl same ↦ rw (same, now) (λ e. ap (λ q. Free q) (one_order m u h j k e top), λ e. let f : k ≡ j = cc in rw (← f) top)
        | inr ne ↦ rw (other g ne) (elim (cases_lt g h) [
          | inl low ↦ x.heads g j low
          | inr ge ↦ (λ e. absurd (both_ways _ (no_head_inside m n h k g j top (omega arith) b) e), λ e. absurd (tail_free j (sym (x.tails g ge) ∙ e)))
        ])
      ];
      others = λ g. elim (cases_eq g h) [ inl same ↦ inl (k, rw same now) | inr ne ↦ rw (other g ne) (x.others g) ];
      tails = λ g ge. other g (omega arith) ∙ x.tails g (omega arith);
      listed = λ q b.
          let step = filter_falling (belongs m u (all_movable m n) q) h (2 ^ k) pos (λ i lo hi. rw (no_head_inside m n h k i (q / pageblock_types) top lo hi) refl) in
          elim (cases_eq q r) [
            | inl same ↦
                let on : belongs m u (all_movable m n) q h ≡ true = belongs_head m n h k q top ∙ eq-eqb q r same in
                let at : list_at (set a.rows.lists r v) q ≡ h ∷ list_at a.rows.lists q = rw same (get_or-set_same a.rows.lists r v [] (omega arith)) in
                at ∙ ap (λ z. h ∷ z) (x.listed q b) ∙ sym (step ∙ rw on refl)
            | inr ne ↦
                let off : belongs m u (all_movable m n) q h ≡ false = belongs_head m n h k q top ∙ ne_eqb q r ne in
                get_or-set_other a.rows.lists r q v [] ne ∙ x.listed q b ∙ sym (step ∙ rw off refl)
          ];
      aside = λ q ge. get_or-set_other a.rows.lists r q v [] (omega arith) ∙ x.aside q ge;
      pages = length-set a.rows.states h (Free k) ∙ x.pages;
    })

-- no block yet, and each page is clear
pub none_opened : (m n side : ℕ) → IsOpenedTo m (length (no_blocks m n side).rows.states) 0 (no_blocks m n side).rows.states (no_blocks m n side).rows.lists
none_opened m n side = rw (length-replicate n Tail) (record {
  heads = λ g k lt. absurd (omega arith);
  others = λ g. inr (replicated n g Tail);
  tails = λ g le. replicated n g Tail;
  listed = λ r lt. replicated (lists_count m + side) r [];
  aside = λ r ge. replicated (lists_count m + side) r [];
  pages = length-replicate n Tail;
})

pub opened_clear : (m n : ℕ) (s : List State) (l : List (List ℕ)) → IsOpenedTo m n 0 s l → (i : ℕ) → i < n → IsClearRun m s l i 0
opened_clear m n s l x i lt j lo hi = (
  free_none s j (omega (arith, x.pages)) (λ k e. tail_free k (sym (x.tails _ (omega arith)) ∙ e)),
  λ r. ap (stands_in j) (get_or-drop (lists_count m) l r [] ∙ x.aside (lists_count m + r) (omega arith)),
)

-- all pages have been added
module _ {m n : ℕ} {s : List State} {l : List (List ℕ)} (x : IsOpenedTo m n n s l) where
  opened_cover : (IsNormal m (Starts (blocks_of s)) (In (cover (blocks_of s)))) × (cover (blocks_of s) ≡ all_pages n)
  opened_cover =
      let ls : length (blocks_of s) ≡ n = length-map s free_order ∙ x.pages in
      let c = normal_cover m (blocks_of s) (Max m (all_pages n)) (In (all_pages n)) (max-normal m (all_pages n))
      (λ g k e. elim (cases_lt g n) [
        | inl lt ↦ (x.heads g k lt).1 (starts-to s g k e)
        | inr ge ↦ absurd (tail_free k (sym (x.tails g ge) ∙ starts-to s g k e))
      ])
      (λ g k e. starts-from s g k ((x.heads g k (all_below n g ((is_max-to m (all_pages n) g k e).inside g (omega arith) (omega (arith, pow_pos k))))).0 e))
      (λ i v. omega (arith, all_below n i v)) in
      (c.0, same_pages (cover (blocks_of s)) (all_pages n) (length-pages s ∙ x.pages ∙ sym (length-replicate n true)) c.1 c.2)

  opened : (side : ℕ) → n ≤ MAX_PAGES → length l ≡ lists_count m + side → IsSettled m (all_pages n) (replicate n Tail) s (all_movable m n) (replicate (lists_count m + side) []) l
  unfolding settled
  opened side le len =
      let none : (r : ℕ) → list_at (replicate (lists_count m + side) []) r ≡ [] = λ r. replicated (lists_count m + side) r [] in
      record {
        normal = opened_cover.0;
        free = opened_cover.1;
        restates = λ g. rw (replicated n g Tail) (elim (x.others g) [ inl y ↦ rw y.1 refl | inr y ↦ rw y refl ]);
        distinct = λ r lt. rw (none r) (distinct-falling 0);
        settles = λ r lt. rw (none r, opened_cover.1, x.listed r lt) (
            append-nil _
            ∙ filter_same (λ h. belongs m (all_pages n) (all_movable m n) r h && not (stands_in h [])) (belongs m (all_pages n) (all_movable m n) r) _ (λ h e. and-true _)
            ∙ ap (λ d. filter (belongs m (all_pages n) (all_movable m n) r) (falling d)) (length-replicate n true));
        stays = λ r ge. x.aside r ge ∙ sym (none r);
        aside = λ r p ge on u. false≢true (rw (none r) at on);
        most = rw (length-replicate n Tail) le;
        enough = rw (length-replicate {A = List ℕ} (lists_count m + side) []) (omega arith);
        pages = x.pages ∙ sym (length-replicate n Tail);
        table = len ∙ sym (length-replicate {A = List ℕ} (lists_count m + side) []);
      }

  pub opened_frames : (side : ℕ) → n ≤ MAX_PAGES → length l ≡ lists_count m + side → frames_of m s (all_movable m n) l ≡ frames_opening m n side
  unfolding opening settle
  opened_frames side le len =
      let shorter : lists_count m + side - lists_count m ≡ side = omega arith in
      rw (take-replicate {X = List ℕ} (lists_count m) (lists_count m + side) [] (omega arith), drop-replicate {X = List ℕ} (lists_count m) (lists_count m + side) [], shorter) at (settled_frames (opened side le len))

  pub opened_held : (side : ℕ) → n ≤ MAX_PAGES → length l ≡ lists_count m + side → IsHeld m (record { largest = m; rows = record { states = s; lists = l }; kinds = all_movable m n }) n
  unfolding size
  opened_held side le len = record {
    sound = settled_sound (opened side le len);
    typed = length-replicate (pageblocks_of m n) Movable ∙ ap (pageblocks_of m) (sym x.pages);
    counted = sym (ap size opened_cover.1 ∙ count-true n);
  }
    where
      count-true : (n : ℕ) → count_by (λ b. b) (replicate n true) ≡ n
      count-true zero = refl
      count-true (suc n) = omega (arith, sum_by-cons (λ b. one_if b) true (replicate n true), count-true n)
