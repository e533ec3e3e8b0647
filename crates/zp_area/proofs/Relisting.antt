-- Moving the free blocks of a pageblock, the lowest first, to the lists of another type.
use Rattle.std.proofs.Common.{ℕ, zero, suc, ◌+◌, ◌-◌, ◌/◌, ◌%◌, ◌≡◌, ◌≢◌, ◌≤◌, ◌<◌, ◌==◌, inl, inr, refl, sym, ◌∙◌, ap, arith, Bool, true, false, ◌&&◌, not, cond, leb, ltb, List, [], ◌∷◌, length, set, get_or, get_or-set_same, get_or-set_other, length-set, Option, None}
use Rattle.std.proofs.lemmas.Nat.{pow_pos}
use Rattle.std.proofs.lemmas.Bool.{cases_eq, cases_lt, and_parts, and_from, eq-eqb, eqb-true, not-true, both_ways, false_from_ne_true}
use Rattle.std.proofs.lemmas.Bool.Decides.{nat_tests}
use Rattle.zp_model.specs.declared.pageblock_type.PageblockType.{PageblockType}
use Rattle.zp_model.specs.declared.state.State.{State}
use Rattle.zp_model.specs.declared.state.State.TheVariants.{Tail, Free, Out, Posted}
use Rattle.zp_model.specs.BlockSet.{Starts, is_order}
use Rattle.zp_model.specs.PageblockType.{pageblock_type_number, pageblock_types}
use Rattle.zp_model.specs.Rows.{Rows, IsOn, list_at, state_at, stands_in, without_page}
use Rattle.zp_model.specs.Area.{list_number, lists_count, kind_at}
use Rattle.zp_tree.specs.Blocks.{IsBlockSet}
use Rattle.zp_area.specs.NotedBlocks.{blocks_of}
use Rattle.zp_area.specs.Moved.{put_first, moved, pages_seen}
use Rattle.zp_area.proofs.NotedBlocks.{starts-to, starts-from}
use Rattle.zp_area.proofs.OneBlock.{one_at, around_same}
use Rattle.zp_area.proofs.Listing.{number_parts, number_from}
use Rattle.zp_area.proofs.RelistedBy.{is_fresh, relisted_by, relisted_by_same, relisted_held, relisted_came, relisted_went, relisted-from}
use Rattle.zp_model.proofs.TypeNumbers.{list_number_below}
use Rattle.zp_model.proofs.Pages.{is_order-to}
use Rattle.zp_model.specs.Lawful.{Here, IsListed}

-- whether page h is to stand on list r, where its pageblock has type t: a block of the list's order starts there, and the list is of that type
abbrev pub stands_of : List (Option ℕ) → ℕ → ℕ → PageblockType → Bool
stands_of s r h t = is_order (r / pageblock_types) (get_or s h None) && (pageblock_type_number t == r % pageblock_types)

pub stands_of-to : (s : List (Option ℕ)) (r h : ℕ) (t : PageblockType) → stands_of s r h t ≡ true → Starts s h (r / pageblock_types) × (pageblock_type_number t ≡ r % pageblock_types)
stands_of-to s r h t e = let a = and_parts _ _ e in (is_order-to (r / pageblock_types) (get_or s h None) a.0, eqb-true _ _ a.1)

pub stands_of-from : (s : List (Option ℕ)) (r h : ℕ) (t : PageblockType) → Starts s h (r / pageblock_types) → pageblock_type_number t ≡ r % pageblock_types → stands_of s r h t ≡ true
stands_of-from s r h t a b = and_from _ _ (ap (is_order (r / pageblock_types)) a ∙ eq-eqb _ _ refl) (eq-eqb _ _ b)

-- the types of the pages, where those from page a up to page i have type t already
abbrev pub kind_while : ℕ → List PageblockType → ℕ → ℕ → PageblockType → ℕ → PageblockType
kind_while m kinds a i t h = cond (leb a h && ltb h i) t (kind_at m kinds h)

abbrev pub stands_while : ℕ → List (Option ℕ) → List PageblockType → ℕ → ℕ → PageblockType → ℕ → ℕ → Bool
stands_while m s kinds a i t r h = stands_of s r h (kind_while m kinds a i t h)

pub while-out : (m : ℕ) (kinds : List PageblockType) (a i : ℕ) (t : PageblockType) (h : ℕ) → (a ≤ h → h < i → ⊥) → kind_while m kinds a i t h ≡ kind_at m kinds h
while-out m kinds a i t h f = grind (arith, nat_tests)

pub while-in : (m : ℕ) (kinds : List PageblockType) (a i : ℕ) (t : PageblockType) (h : ℕ) → a ≤ h → h < i → kind_while m kinds a i t h ≡ t
while-in m kinds a i t h p q = grind (arith, nat_tests)

-- one page more changes no other page's type
while-other : (m : ℕ) (kinds : List PageblockType) (a i : ℕ) (t : PageblockType) (h : ℕ) → h ≢ i → kind_while m kinds a (i + 1) t h ≡ kind_while m kinds a i t h
while-other m kinds a i t h ne = grind (arith, nat_tests)

-- l' is l with the blocks from page a up to page i moved to the lists of type t
pub record IsRelisting (m a i : ℕ) (t : PageblockType) (s : List (Option ℕ)) (kinds : List PageblockType) (l l' : List (List ℕ)) : Type 0 where
  pub listed : (r : ℕ) → r < lists_count m → list_at l' r ≡ relisted_by (stands_while m s kinds a i t r) (length s) (list_at l r)
  pub aside : (r : ℕ) → lists_count m ≤ r → list_at l' r ≡ list_at l r
  pub table : length l' ≡ length l

-- a set of blocks, and lists that hold its heads
pub record IsAllListed (m : ℕ) (s : List (Option ℕ)) (kinds : List PageblockType) (l : List (List ℕ)) : Type 0 where
  pub blocks : IsBlockSet m s
  pub table : lists_count m ≤ length l
  pub listed : (r : ℕ) → r < lists_count m → IsListed m s kinds r (list_at l r)

pub relisting_none : (m a : ℕ) (t : PageblockType) (s : List (Option ℕ)) (kinds : List PageblockType) (l : List (List ℕ)) → IsAllListed m s kinds l → IsRelisting m a a t s kinds l l
relisting_none m a t s kinds l x = record {
  listed = λ r lt.
      let same : (h : ℕ) → kind_while m kinds a a t h ≡ kind_at m kinds h = λ h. while-out m kinds a a t h (omega arith) in
      sym (relisted_held (stands_while m s kinds a a t r) (length s) (list_at l r)
      (λ h on. let w : Here m s kinds r h = (x.listed r lt).to h on in stands_of-from s r h (kind_while m kinds a a t h) w.0 (ap pageblock_type_number (same h) ∙ w.1))
      (λ h e. let w = stands_of-to s r h (kind_while m kinds a a t h) e in (x.listed r lt).from h (w.0, ap pageblock_type_number (sym (same h)) ∙ w.1)));
  aside = λ r ge. refl;
  table = refl;
}

-- what is looked at: page i of a pageblock of type f, of which the pages before i have been looked at
pub record IsLooking (m a i : ℕ) (f t : PageblockType) (s : List (Option ℕ)) (kinds : List PageblockType) (l : List (List ℕ)) : Type 0 where
  pub all : IsAllListed m s kinds l
  pub from : a ≤ i
  pub page : i < length s
  pub old : kind_at m kinds i ≡ f
  pub other : pageblock_type_number f ≢ pageblock_type_number t

module _ {m a i : ℕ} {f t : PageblockType} {s : List (Option ℕ)} {kinds : List PageblockType} {l : List (List ℕ)} (x : IsLooking m a i f t s kinds l) where
  -- whether page i is to stand on a list, before and after, and any other page
  before : (r : ℕ) → stands_while m s kinds a i t r i ≡ stands_of s r i f
  before r = ap (stands_of s r i) (while-out m kinds a i t i (omega arith) ∙ x.old)

  after : (r : ℕ) → stands_while m s kinds a (i + 1) t r i ≡ stands_of s r i t
  after r = ap (stands_of s r i) (while-in m kinds a (i + 1) t i x.from (omega arith))

  others : (r h : ℕ) → h ≢ i → stands_while m s kinds a (i + 1) t r h ≡ stands_while m s kinds a i t r h
  others r h ne = ap (stands_of s r h) (while-other m kinds a i t h ne)

  -- a list on which the page stands under neither type
  kept : (r : ℕ) → (stands_of s r i f ≡ true → ⊥) → (stands_of s r i t ≡ true → ⊥) →
      relisted_by (stands_while m s kinds a i t r) (length s) (list_at l r) ≡ relisted_by (stands_while m s kinds a (i + 1) t r) (length s) (list_at l r)
  kept r no_f no_t =
      relisted_by_same (stands_while m s kinds a i t r) (stands_while m s kinds a (i + 1) t r) (length s) (list_at l r)
      (λ h. elim (cases_eq h i) [
        | inl same ↦ rw same (before r ∙ false_from_ne_true _ no_f ∙ sym (after r ∙ false_from_ne_true _ no_t))
        | inr ne ↦ sym (others r h ne)
      ])

  -- a page where no block starts moves nothing
  relisting_same : (l' : List (List ℕ)) → ((k : ℕ) → Starts s i k → ⊥) → IsRelisting m a i t s kinds l l' → IsRelisting m a (i + 1) t s kinds l l'
  relisting_same l' none y = record {
    listed = λ r lt. y.listed r lt ∙ kept r (λ e. none (r / pageblock_types) (stands_of-to s r i f e).0) (λ e. none (r / pageblock_types) (stands_of-to s r i t e).0);
    aside = y.aside;
    table = y.table;
  }

  -- the fresh ones of a list are pages that were looked at
  fresh_low : (r : ℕ) → r < lists_count m → (h : ℕ) → is_fresh (stands_while m s kinds a i t r) (list_at l r) h ≡ true → h < i
  fresh_low r lt h e =
      elim (cases_lt h i) [
        | inl low ↦ low
        | inr ge ↦
            let p = and_parts (stands_while m s kinds a i t r h) (not (stands_in h (list_at l r))) e in
            let q = stands_of-to s r h (kind_at m kinds h) (rw (while-out m kinds a i t h (omega arith)) at p.0) in
            absurd (both_ways (stands_in h (list_at l r)) (not-true _ p.1) ((x.all.listed r lt).from h q))
      ]

  -- the head of a block stands on the list of its order and the old type, and on no list of the new one
  head_on : (k : ℕ) → Starts s i k → (stands_in i (list_at l (list_number k f)) ≡ true) × (stands_in i (list_at l (list_number k t)) ≡ false)
  head_on k st =
      let le : k ≤ m = (x.all.blocks.block i k st).order in
      let pf = number_parts k f in (
        (x.all.listed (list_number k f) (list_number_below m k f le)).from i (rw pf.0 st, ap pageblock_type_number x.old ∙ sym pf.1),
        false_from_ne_true _ (λ on. x.other (sym (ap pageblock_type_number x.old) ∙ ((x.all.listed (list_number k t) (list_number_below m k t le)).to i on).1 ∙ (number_parts k t).1)),
      )

  -- what stands on the lists when page i is reached
  pub looking_on : (k : ℕ) (l' : List (List ℕ)) → IsRelisting m a i t s kinds l l' → Starts s i k → IsOn l' (list_number k f) i
  looking_on k l' y st =
      let pf = number_parts k f in
      rw (y.listed (list_number k f) (list_number_below m k f (x.all.blocks.block i k st).order))
      (relisted-from _ (length s) i (list_at l (list_number k f)) (head_on k st).0 (before (list_number k f) ∙ stands_of-from s (list_number k f) i f (rw pf.0 st) (sym pf.1)))

  -- the head of a block is moved
  relisting_moved : (k : ℕ) (w : Rows) → Starts s i k → IsRelisting m a i t s kinds l w.lists → IsRelisting m a (i + 1) t s kinds l (put_first w i (list_number k f) (list_number k t)).lists
  relisting_moved k w st y =
      let le : k ≤ m = (x.all.blocks.block i k st).order in
      let rf : ℕ = list_number k f in
      let rt : ℕ = list_number k t in
      let pf = number_parts k f in
      let pt = number_parts k t in
      let apart : list_number k t ≢ list_number k f = omega (arith, x.other) in
      let lf : list_number k f < lists_count m = list_number_below m k f le in
      let lt : list_number k t < lists_count m = list_number_below m k t le in
      let big : lists_count m ≤ length w.lists = omega (arith, y.table, x.all.table) in
      let on = head_on k st in
      let hs : List ℕ = without_page i (list_at w.lists rf) in
      let v1 : List (List ℕ) = set w.lists rf hs in
      let on_number : (r : ℕ) (u : PageblockType) → stands_of s r i u ≡ true → r ≡ list_number k u = λ r u e.
      let z = stands_of-to s r i u e in number_from k r u (one_at s i k (r / pageblock_types) st z.0) z.1 in
      record {
        listed = λ r b. elim (cases_eq r rt) [
          | inl er ↦
              let off : stands_while m s kinds a i t rt i ≡ false = before rt ∙ false_from_ne_true _ (λ e. x.other ((stands_of-to s rt i f e).1 ∙ pt.1)) in
              let now : stands_while m s kinds a (i + 1) t rt i ≡ true = after rt ∙ stands_of-from s rt i t (rw pt.0 st) (sym pt.1) in
              rw er (
              get_or-set_same v1 rt (i ∷ list_at v1 rt) [] (omega (arith, length-set w.lists rf hs))
              ∙ ap (λ xs. i ∷ xs) (get_or-set_other w.lists rf rt hs [] apart ∙ y.listed rt lt)
              ∙ sym (relisted_came (stands_while m s kinds a i t rt) (stands_while m s kinds a (i + 1) t rt) i (length s) (list_at l rt) x.page (others rt) off now on.1 (fresh_low rt lt)))
          | inr ne ↦
              get_or-set_other v1 rt r (i ∷ list_at v1 rt) [] ne
              ∙ elim (cases_eq r rf) [
                | inl er ↦
                    let off : stands_while m s kinds a (i + 1) t rf i ≡ false = after rf ∙ false_from_ne_true _ (λ e. x.other (sym pf.1 ∙ sym (stands_of-to s rf i t e).1)) in
                    rw er (
                    get_or-set_same w.lists rf hs [] (omega arith)
                    ∙ ap (λ xs. without_page i xs) (y.listed rf lf)
                    ∙ sym (relisted_went (stands_while m s kinds a i t rf) (stands_while m s kinds a (i + 1) t rf) i (length s) (list_at l rf) (others rf) off on.0))
                | inr nf ↦ get_or-set_other w.lists rf r hs [] nf ∙ y.listed r b ∙ kept r (λ e. nf (on_number r f e)) (λ e. ne (on_number r t e))
              ]
        ];
        aside = λ r ge. get_or-set_other v1 rt r (i ∷ list_at v1 rt) [] (omega arith) ∙ get_or-set_other w.lists rf r hs [] (omega arith) ∙ y.aside r ge;
        table = length-set v1 rt _ ∙ length-set w.lists rf hs ∙ y.table;
      }

-- one page more
relisting_more : {m a i : ℕ} {f t : PageblockType} (ss : List State) {kinds : List PageblockType} {l : List (List ℕ)} (w : Rows) → IsLooking m a i f t (blocks_of ss) kinds l →
    w.states ≡ ss → IsRelisting m a i t (blocks_of ss) kinds l w.lists → (z : State) → state_at ss i ≡ z →
    ((moved w i f t z).states ≡ ss) × IsRelisting m a (i + 1) t (blocks_of ss) kinds l (moved w i f t z).lists
relisting_more ss w x es y (Free k) ez = (es, relisting_moved x k w (starts-from ss _ k ez) y)
relisting_more ss w x es y Tail ez = (es, relisting_same x w.lists (λ k q. let f : Tail ≡ Free k = sym ez ∙ starts-to ss _ k q in cc) y)
relisting_more ss w x es y (Out j u p) ez = (es, relisting_same x w.lists (λ k q. let f : Out j u p ≡ Free k = sym ez ∙ starts-to ss _ k q in cc) y)
relisting_more ss w x es y (Posted j u p) ez = (es, relisting_same x w.lists (λ k q. let f : Posted j u p ≡ Free k = sym ez ∙ starts-to ss _ k q in cc) y)

-- pages where no block starts move nothing
relisting_along : (m a i n : ℕ) (f t : PageblockType) (s : List (Option ℕ)) (kinds : List PageblockType) (l l' : List (List ℕ)) →
    ((h : ℕ) → i ≤ h → h < i + n → IsLooking m a h f t s kinds l) → ((h k : ℕ) → i ≤ h → h < i + n → Starts s h k → ⊥) →
    IsRelisting m a i t s kinds l l' → IsRelisting m a (i + n) t s kinds l l'
relisting_along m a i zero f t s kinds l l' x none y = let e : i + zero ≡ i = omega arith in rw e y
relisting_along m a i (suc n) f t s kinds l l' x none y =
    let z = relisting_along m a i n f t s kinds l l' (λ h p q. x h p (omega arith)) (λ h k p q. none h k p (omega arith)) y in
    let e : i + suc n ≡ (i + n) + 1 = omega arith in
    rw e (relisting_same (x (i + n) (omega arith) (omega arith)) l' (λ k. none (i + n) k (omega arith) (omega arith)) z)

-- each look sees a page
pub some_seen : (z : State) → 1 ≤ pages_seen z
some_seen z = grind (arith, pow_pos)

-- inside a block no other one starts
none_inside : (m i h j : ℕ) (ss : List State) → IsBlockSet m (blocks_of ss) → i < h → (z : State) → state_at ss i ≡ z → h < i + pages_seen z → Starts (blocks_of ss) h j → ⊥
none_inside m i h j ss x lo (Free k) ez b e =
    let same : i ≡ h =
    around_same m (blocks_of ss) h i k h j x (record { starts = starts-from ss i k ez; from = omega arith; to = b }) (record { starts = e; from = omega arith; to = omega (arith, pow_pos j) }) in
    omega arith
none_inside m i h j ss x lo Tail ez b e = omega arith
none_inside m i h j ss x lo (Out k u q) ez b e = omega arith
none_inside m i h j ss x lo (Posted k u q) ez b e = omega arith

-- from page i to page j, where all between them is seen at page i
pub relisting_on : (m a i j : ℕ) (f t : PageblockType) (ss : List State) (kinds : List PageblockType) (l : List (List ℕ)) (w v : Rows) →
    ((h : ℕ) → i ≤ h → h < j → IsLooking m a h f t (blocks_of ss) kinds l) → i < j → j ≤ i + pages_seen (state_at ss i) → w.states ≡ ss →
    IsRelisting m a i t (blocks_of ss) kinds l w.lists → v ≡ moved w i f t (state_at w.states i) → (v.states ≡ ss) × IsRelisting m a j t (blocks_of ss) kinds l v.lists
relisting_on m a i j f t ss kinds l w v x lt le es y ev =
    let x0 = x i (omega arith) lt in
    let z = relisting_more ss w x0 es y (state_at w.states i) (ap (λ q. state_at q i) (sym es)) in
    let e : j ≡ (i + 1) + (j - (i + 1)) = omega arith in
    rw ev (
      z.0,
      rw e (relisting_along m a (i + 1) (j - (i + 1)) f t (blocks_of ss) kinds l _ (λ h p q. x h (omega arith) (omega arith))
          (λ h k p q. none_inside m i h k ss x0.all.blocks (omega arith) (state_at ss i) refl (omega arith)) z.1),
    )
