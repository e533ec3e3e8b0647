-- A status tree after a block came, went, was split or joined.
use Rattle.std.proofs.Common.{ℕ, ◌+◌, ◌-◌, ◌/◌, ◌%◌, ◌^◌, ◌≡◌, ◌≢◌, ◌≤◌, ◌<◌, inl, inr, refl, sym, ◌∙◌, ap, arith, List, length, get_or, max, slice_index, slice_set, Option, Some, None}
use Rattle.std.proofs.lemmas.Bool.{cases_eq}
use Rattle.std.proofs.lemmas.List.{length-set, get_or-set_same, get_or-set_other}
use Rattle.std.proofs.lemmas.Option.{same_Some}
use Rattle.std.proofs.lemmas.Nat.{pow_pos, pow_below}
use Rattle.zp_model.specs.Block.{IsBlock, head}
use Rattle.zp_model.specs.BlockSet.{Starts}
use Rattle.zp_model.proofs.Heads.{number_around}
use Rattle.zp_tree.specs.declared.constants.TheConstants.{GROUP_ORDER, GROUP_PAGES, WORD_LEVELS}
use Rattle.zp_tree.specs.Blocks.{IsBlockSet, IsApart, buddy, with_block, without_block, without_buddies, split_set, joined_set}
use Rattle.zp_tree.specs.Marks.{HasLarge, IsWords, IsRemarked, IsSplitUp, IsJoinedUp, IsLowered, IsNearRank, IsRankBound, IsRankOf}
use Rattle.zp_tree.specs.Spelled.{IsTreeOf}
use Rattle.zp_tree.proofs.Apart.{set-starts, clear-starts}
use Rattle.zp_tree.proofs.BlockSets.{same_page}
use Rattle.zp_tree.proofs.ChangedSets.{none_in, set_block_set, clear_block_set, split_block_set, halves_other, halves_at, halves_length}
use Rattle.zp_tree.proofs.MarkedSets.{IsMarkedBy, marked_set, marked_clear, marked_split, marked_joined, half_or_not}
use Rattle.zp_tree.proofs.BuddyPlaces.{buddy_around, head_around}
use Rattle.zp_tree.proofs.GroupBlocks.{is_high}
use Rattle.zp_tree.proofs.JoinedSets.{IsJoining, IsFreed, freed, joined_block_set}
use Rattle.zp_tree.proofs.Ranked.{IsRankedBy, IsInside, IsChangedIn, near_rank, other_group, rank_bound, ranks_raised, ranks_lowered}
use Rattle.zp_tree.proofs.Spelling.{block_in_groups}

-- a tree of another set over as many pages
pub another : (m pages : ℕ) (ls hs rs ms gs ts : List ℕ) (x v : ℕ) (s r : List (Option ℕ)) → IsTreeOf m pages ls hs rs x s → IsWords ms gs → length gs ≡ length hs → length ts ≡ length rs → length r ≡ length s → IsBlockSet m r → IsMarkedBy ms gs r → v < length hs →
    IsRankedBy ts v r → IsTreeOf m pages ms gs ts v r
another m pages ls hs rs ms gs ts x v s r t w n o l b y lt z = record {
  orders = t.orders;
  bounds = t.bounds;
  groups = omega (arith, t.groups, n);
  room = omega (arith, t.room, n);
  pages_of = l ∙ t.pages_of;
  set = b;
  words = w;
  marked = y;
  rows = omega (arith, t.rows, n, o);
  row = o ∙ t.row;
  stale = omega (arith, lt, n);
  ranked = z;
}

-- no block starts where a run is apart
pub none_starts : (m : ℕ) (s : List (Option ℕ)) (p k i j : ℕ) → IsBlockSet m s → IsApart s p k → p ≤ i → i < p + 2 ^ k → Starts s i j → ⊥
none_starts m s p k i j x a lo hi st = none_in m s p k i j i x a st lo hi (omega arith) (omega (arith, pow_pos j))

-- the pages of a block are of one group
pub same_group : (m : ℕ) (s : List (Option ℕ)) (p k i : ℕ) → IsBlock m (length s) p k → m ≤ GROUP_ORDER → p ≤ i → i < p + 2 ^ k → i / GROUP_PAGES ≡ p / GROUP_PAGES
same_group m s p k i b le lo hi = number_around p i k GROUP_ORDER (omega (arith, b.order, le)) b.aligned lo hi

changed_set : (s : List (Option ℕ)) (p k : ℕ) → p < length s → ((j : ℕ) → Starts s p j → ⊥) → IsChangedIn s (with_block s p k) (p / GROUP_PAGES) k
changed_set s p k lt none = record {
  others = λ i ne. get_or-set_other s p i (Some k) None (λ e. ne (ap (λ n. n / GROUP_PAGES) e));
  larger = λ i o more. (
    λ st. elim (set-starts s p k i o lt st) [ inl e ↦ absurd (omega (arith, e.1)) | inr old ↦ old ],
    λ st. get_or-set_other s p i (Some k) None (λ e. none o (rw e at st)) ∙ st,
  );
}

changed_clear : (s : List (Option ℕ)) (p k : ℕ) → p < length s → Starts s p k → IsChangedIn s (without_block s p) (p / GROUP_PAGES) k
changed_clear s p k lt st = record {
  others = λ i ne. get_or-set_other s p i None None (λ e. ne (ap (λ n. n / GROUP_PAGES) e));
  larger = λ i o more. (λ y. (clear-starts s p i o lt y).1, λ y. get_or-set_other s p i None None (λ e. let f = same_Some k o (sym st ∙ rw e at y) in omega (arith, f)) ∙ y);
}

pub set_tree : (m pages : ℕ) (ls hs rs ms gs ts : List ℕ) (x : ℕ) (s : List (Option ℕ)) (p k : ℕ) → IsTreeOf m pages ls hs rs x s → IsBlock m (length s) p k → IsApart s p k → IsRemarked ls hs ms gs p k 1 →
    ts ≡ slice_set rs (p / GROUP_PAGES) (max (k + 1) (slice_index rs (p / GROUP_PAGES))) → IsTreeOf m pages ms gs ts x (with_block s p k)
set_tree m pages ls hs rs ms gs ts x s p k t b a r e =
    let pos = pow_pos k in
    let lt : p < length s = omega (arith, b.inside) in
    let none : (j : ℕ) → Starts s p j → ⊥ = λ j. none_starts m s p k p j t.set a (omega arith) (omega arith) in
    let g = p / GROUP_PAGES in
    let room : g < length rs = omega (arith, lt, t.room, t.rows, t.pages_of) in
    rw e (another m pages ls hs rs ms gs (slice_set rs g (max (k + 1) (slice_index rs g))) x x s (with_block s p k) t r.words r.size (length-set rs g _) (length-set s p (Some k)) (set_block_set m s p k t.set b a)
    (marked_set ls hs ms gs s p k t.marked r lt none) t.stale (ranks_raised rs s (with_block s p k) g p k x t.ranked (changed_set s p k lt none) refl room (get_or-set_same s p (Some k) None lt)))

-- a block that went was in a group of the zone
group_of_block : (m pages : ℕ) (ls hs rs : List ℕ) (x : ℕ) (s : List (Option ℕ)) (p k : ℕ) → IsTreeOf m pages ls hs rs x s → Starts s p k → p / GROUP_PAGES < length hs
group_of_block m pages ls hs rs x s p k t st = omega (arith, (t.set.block p k st).inside, pow_pos k, t.room, t.pages_of)

-- the tree after a block went, by what is left
pub lowered_tree : (m pages : ℕ) (ls hs rs ms gs ts : List ℕ) (x y : ℕ) (s r : List (Option ℕ)) (p k : ℕ) → IsTreeOf m pages ls hs rs x s → Starts s p k → IsWords ms gs → length gs ≡ length hs → length r ≡ length s → IsBlockSet m r → IsMarkedBy ms gs r → IsInside gs r →
    IsChangedIn s r (p / GROUP_PAGES) k → IsLowered ms gs rs ts x y (p / GROUP_PAGES) k → IsTreeOf m pages ms gs ts y r
lowered_tree m pages ls hs rs ms gs ts x y s r p k t st w n len b marked inside c l =
    let lt : y < length hs = elim l.stale [ inl e ↦ omega (arith, e, t.stale) | inr e ↦ omega (arith, e, group_of_block m pages ls hs rs x s p k t st) ] in
    another m pages ls hs rs ms gs ts x y s r t w n l.size len b marked lt (ranks_lowered ms gs rs ts s r x y p k t.ranked c st marked inside l)

-- what is left of the ranks' groups when a block went: no block of its group has a rank above the one that is kept, and if another group is
-- the stale one, its rank is no worse
pub record IsLeft (ms gs rs : List ℕ) (x p : ℕ) : Type 0 where
  pub down : IsRankBound ms gs (p / GROUP_PAGES) (slice_index rs (p / GROUP_PAGES))
  pub near : x ≢ p / GROUP_PAGES → IsNearRank ms gs x (slice_index rs x)

pub left : (m pages : ℕ) (ls hs rs ms gs : List ℕ) (x : ℕ) (s r : List (Option ℕ)) (p k : ℕ) → IsTreeOf m pages ls hs rs x s → Starts s p k → IsMarkedBy ms gs r → IsInside gs r → IsChangedIn s r (p / GROUP_PAGES) k → IsLeft ms gs rs x p
left m pages ls hs rs ms gs x s r p k t st marked inside c = record {
  down = rank_bound ms gs rs s r x p k t.ranked c st marked;
  near = λ ne. near_rank ms gs r x x (slice_index rs x) marked inside (other_group s r (p / GROUP_PAGES) k x x (slice_index rs x) c ne (t.ranked x));
}

cleared_inside : (m pages : ℕ) (ls hs rs ms gs : List ℕ) (x : ℕ) (s : List (Option ℕ)) (p k : ℕ) → IsTreeOf m pages ls hs rs x s → Starts s p k → IsRemarked ls hs ms gs p k 0 → IsInside gs (without_block s p)
cleared_inside m pages ls hs rs ms gs x s p k t st r i o y =
    let lt : p < length s = omega (arith, (t.set.block p k st).inside, pow_pos k) in
    rw r.size (block_in_groups m pages ls hs rs x s i o t (clear-starts s p i o lt y).1)

pub clear_tree : (m pages : ℕ) (ls hs rs ms gs ts : List ℕ) (x y : ℕ) (s : List (Option ℕ)) (p k : ℕ) → IsTreeOf m pages ls hs rs x s → Starts s p k → IsRemarked ls hs ms gs p k 0 → IsLowered ms gs rs ts x y (p / GROUP_PAGES) k →
    IsTreeOf m pages ms gs ts y (without_block s p)
clear_tree m pages ls hs rs ms gs ts x y s p k t st r l =
    let lt : p < length s = omega (arith, (t.set.block p k st).inside, pow_pos k) in
    lowered_tree m pages ls hs rs ms gs ts x y s (without_block s p) p k t st r.words r.size (length-set s p None) (clear_block_set m s p k t.set st) (marked_clear ls hs ms gs s p k t.marked r lt st) (cleared_inside m pages ls hs rs ms gs x s p k t st r) (changed_clear s p k lt st) l

pub clear_left : (m pages : ℕ) (ls hs rs ms gs : List ℕ) (x : ℕ) (s : List (Option ℕ)) (p k : ℕ) → IsTreeOf m pages ls hs rs x s → Starts s p k → IsRemarked ls hs ms gs p k 0 → IsLeft ms gs rs x p
clear_left m pages ls hs rs ms gs x s p k t st r =
    let lt : p < length s = omega (arith, (t.set.block p k st).inside, pow_pos k) in
    left m pages ls hs rs ms gs x s (without_block s p) p k t st (marked_clear ls hs ms gs s p k t.marked r lt st) (cleared_inside m pages ls hs rs ms gs x s p k t st r) (changed_clear s p k lt st)

-- a group that was one block has none after it was cleared
pub emptied : (m pages : ℕ) (ls hs rs ms gs : List ℕ) (x : ℕ) (s : List (Option ℕ)) (p k : ℕ) → IsTreeOf m pages ls hs rs x s → Starts s p k → IsRemarked ls hs ms gs p k 0 → 2 ^ k ≡ GROUP_PAGES → IsRankOf ms gs (p / GROUP_PAGES) 0
emptied m pages ls hs rs ms gs x s p k t st r whole =
    let b = t.set.block p k st in
    let lt : p < length s = omega (arith, b.inside, whole) in
    let al : p % GROUP_PAGES ≡ 0 = ap (λ n. p % n) (sym whole) ∙ b.aligned in
    record {
      most = λ i j h at.
          let y = clear-starts s p i j lt ((marked_clear ls hs ms gs s p k t.marked r lt st i j h.inside).0 h.bit) in
          absurd (y.0 (sym (same_page m s p k i j i t.set st y.1 (omega (arith, at, al)) (omega (arith, at, al, whole)) (omega arith) (omega (arith, pow_pos j)))));
      some = λ j e. absurd (omega arith);
    }

-- no other block starts inside a block
free_inside : (m : ℕ) (s : List (Option ℕ)) (p f i o : ℕ) → IsBlockSet m s → Starts s p f → p < i → i < p + 2 ^ f → Starts s i o → ⊥
free_inside m s p f i o x st lo hi y = omega (arith, same_page m s p f i o i x st y (omega arith) hi (omega arith) (omega (arith, pow_pos o)))

changed_split : (m : ℕ) (s : List (Option ℕ)) (p f t : ℕ) → IsBlockSet m s → m ≤ GROUP_ORDER → Starts s p f → t ≤ f → IsChangedIn s (split_set s p f t) (p / GROUP_PAGES) f
changed_split m s p f t x few st le = record {
  others = λ i ne. elim (half_or_not p t d i) [
    | inl w ↦ absurd (let hi = inside w.0 (omega (arith, w.2)) in ne (same_group m s p f i b few (omega (arith, w.3)) (omega (arith, w.3, hi))))
    | inr none ↦ rest i none (λ e. ne (ap (λ n. n / GROUP_PAGES) e))
  ];
  larger = λ i o more. elim (half_or_not p t d i) [
    | inl w ↦
        let lf : w.0 < f = omega (arith, w.2) in (
          λ y. absurd (let e = same_Some w.0 o (sym (half w.0 w.1 lf) ∙ rw w.3 at y) in omega (arith, e, lf)),
          λ y. absurd (free_inside m s p f i o x st (omega (arith, w.3, pow_pos w.0)) (omega (arith, w.3, inside w.0 lf)) y),
        )
    | inr none ↦ elim (cases_eq i p) [
      | inl e ↦ (
        λ y. absurd (let z = rw e at y in let g : None ≡ Some o = sym gone ∙ z in cc),
        λ y. absurd (let g = same_Some f o (sym st ∙ rw e at y) in omega (arith, g)),
      )
      | inr ne ↦ (λ y. sym (rest i none ne) ∙ y, λ y. rest i none ne ∙ y)
    ]
  ];
}
  where
    b : IsBlock m (length s) p f
    b = x.block p f st

    d : ℕ
    d = f - t

    whole : t + (f - t) ≡ f
    whole = omega arith

    c : List (Option ℕ)
    c = without_block s p

    inside : (j : ℕ) → j < f → 2 ^ j < 2 ^ f
    inside j lt = pow_below j f lt

    half : (j : ℕ) → t ≤ j → j < f → Starts (split_set s p f t) (p + 2 ^ j) j
    half j lo hi = halves_at c p t d j lo (omega (arith, whole)) (omega (arith, length-set s p None, b.inside, inside j hi))

    gone : get_or (split_set s p f t) p None ≡ None
    gone = halves_other c p t d p (λ j lo hi e. omega (arith, e, pow_pos j)) ∙ get_or-set_same s p None None (omega (arith, b.inside, pow_pos f))

    rest : (i : ℕ) → ((j : ℕ) → t ≤ j → j < t + d → i ≢ p + 2 ^ j) → i ≢ p → get_or (split_set s p f t) i None ≡ get_or s i None
    rest i none ne = halves_other c p t d i none ∙ get_or-set_other s p i None None ne

-- a block of a set after one was split is new and lies in it, or was there
split_inside : (m pages : ℕ) (ls hs rs ms gs : List ℕ) (v : ℕ) (s : List (Option ℕ)) (p f t : ℕ) → IsTreeOf m pages ls hs rs v s → Starts s p f → t ≤ f → length gs ≡ length hs → IsInside gs (split_set s p f t)
split_inside m pages ls hs rs ms gs v s p f t x st le size i o y =
    let b = (split_block_set m s p f t x.set st le).block i o y in
    let n = halves_length (without_block s p) p t (f - t) in
    record { order = omega (arith, b.order, x.orders); aligned = b.aligned; inside = omega (arith, b.inside, n, length-set s p None, x.room, x.pages_of, size) }

-- the bits after a block was split
split_marked : (m pages : ℕ) (ls hs rs ms gs : List ℕ) (v : ℕ) (s : List (Option ℕ)) (p f t : ℕ) → IsTreeOf m pages ls hs rs v s → Starts s p f → t ≤ f → IsSplitUp ls hs ms gs p f t → IsMarkedBy ms gs (split_set s p f t)
split_marked m pages ls hs rs ms gs v s p f t x st le r =
    let free : (j o : ℕ) → t ≤ j → j < f → Starts s (p + 2 ^ j) o → ⊥ = λ j o lo hi. free_inside m s p f (p + 2 ^ j) o x.set st (omega (arith, pow_pos j)) (omega (arith, pow_below j f hi)) in
    marked_split ls hs ms gs s p f t x.marked r (x.set.block p f st).inside le st free

pub split_left : (m pages : ℕ) (ls hs rs ms gs : List ℕ) (v : ℕ) (s : List (Option ℕ)) (p f t : ℕ) → IsTreeOf m pages ls hs rs v s → Starts s p f → t ≤ f → IsSplitUp ls hs ms gs p f t → IsLeft ms gs rs v p
split_left m pages ls hs rs ms gs v s p f t x st le r =
    left m pages ls hs rs ms gs v s (split_set s p f t) p f x st (split_marked m pages ls hs rs ms gs v s p f t x st le r) (split_inside m pages ls hs rs ms gs v s p f t x st le r.size) (changed_split m s p f t x.set x.orders st le)

pub split_tree : (m pages : ℕ) (ls hs rs ms gs ts : List ℕ) (v w : ℕ) (s : List (Option ℕ)) (p f t : ℕ) → IsTreeOf m pages ls hs rs v s → Starts s p f → t ≤ f → IsSplitUp ls hs ms gs p f t → IsLowered ms gs rs ts v w (p / GROUP_PAGES) f →
    IsTreeOf m pages ms gs ts w (split_set s p f t)
split_tree m pages ls hs rs ms gs ts v w s p f t x st le r l =
    let n = halves_length (without_block s p) p t (f - t) ∙ length-set s p None in
    lowered_tree m pages ls hs rs ms gs ts v w s (split_set s p f t) p f x st r.words r.size n (split_block_set m s p f t x.set st le) (split_marked m pages ls hs rs ms gs v s p f t x st le r) (split_inside m pages ls hs rs ms gs v s p f t x st le r.size)
    (changed_split m s p f t x.set x.orders st le) l

-- the half of order t is left in the high word
pub split_large : (m pages : ℕ) (ls hs rs ms gs : List ℕ) (v : ℕ) (s : List (Option ℕ)) (p f t : ℕ) → IsTreeOf m pages ls hs rs v s → Starts s p f → t < f → WORD_LEVELS ≤ t → IsSplitUp ls hs ms gs p f t → HasLarge gs (p / GROUP_PAGES)
split_large m pages ls hs rs ms gs v s p f t x st lt high r =
    let b = x.set.block p f st in
    let room : p + 2 ^ t < length s = omega (arith, b.inside, pow_below t f lt) in
    let half : Starts (split_set s p f t) (p + 2 ^ t) t = halves_at (without_block s p) p t (f - t) t (omega arith) (omega arith) (omega (arith, room, length-set s p None)) in
    let inside = split_inside m pages ls hs rs ms gs v s p f t x st (omega arith) r.size (p + 2 ^ t) t half in
    (p + 2 ^ t, t, is_high ms gs (p + 2 ^ t) t (record { inside = inside; bit = r.halves t (omega arith) lt }) high, same_group m s p f (p + 2 ^ t) b x.orders (omega arith) (omega (arith, pow_below t f lt)))

-- the buddies of a run lie in the group around it, as the block does that they make
changed_joined : (m : ℕ) (s : List (Option ℕ)) (p f t : ℕ) → m ≤ GROUP_ORDER → IsJoining m s p f t → IsChangedIn s (joined_set s p f t) (p / GROUP_PAGES) t
changed_joined m s p f t few x = record {
  others = λ i ne. elim (a.which i) [
    | inl b ↦ absurd (ne (ap (λ n. n / GROUP_PAGES) b.3 ∙ buddy_around p b.0 GROUP_ORDER (omega (arith, b.2, x.block.order))))
    | inr none ↦ rest i (λ e. ne (ap (λ n. n / GROUP_PAGES) e ∙ head_around p t GROUP_ORDER (omega (arith, x.block.order)))) ∙ a.other i none
  ];
  larger = λ i o more. elim (cases_eq i h) [
    | inl e ↦ (
      λ y. absurd (let z = same_Some t o (sym here ∙ rw e at y) in omega (arith, z)),
      λ y. absurd (elim (a.which i) [
        | inl b ↦ let z = order b.0 b.1 b.2 o (rw b.3 at y) in omega (arith, z, b.2)
        | inr none ↦ let kept : Starts c i o = a.other i none ∙ y in a.none o (rw e at kept)
      ]),
    )
    | inr nh ↦ elim (a.which i) [
      | inl b ↦ (
        λ y. absurd (let gone : get_or c i None ≡ None = rw b.3 (a.gone b.0 b.1 b.2) in let d : None ≡ Some o = sym gone ∙ sym (rest i nh) ∙ y in cc),
        λ y. absurd (let z = order b.0 b.1 b.2 o (rw b.3 at y) in omega (arith, z, b.2)),
      )
      | inr none ↦ let g = rest i nh ∙ a.other i none in (λ y. sym g ∙ y, λ y. g ∙ y)
    ]
  ];
}
  where
    h : ℕ
    h = head p t

    c : List (Option ℕ)
    c = without_buddies s p f (t - f)

    a : IsFreed m s c p f t
    a = freed m s p f t x

    here : get_or (joined_set s p f t) h None ≡ Some t
    here = get_or-set_same c h (Some t) None (omega (arith, a.block.inside, pow_pos t))

    rest : (i : ℕ) → i ≢ h → get_or (joined_set s p f t) i None ≡ get_or c i None
    rest i ne = get_or-set_other c h i (Some t) None ne

    order : (l : ℕ) → f ≤ l → l < t → (o : ℕ) → Starts s (buddy p l) o → l ≡ o
    order l lo hi o y = same_Some l o (sym (x.buddies l lo hi) ∙ y)

pub join_tree : (m pages : ℕ) (ls hs rs ms gs ts : List ℕ) (v : ℕ) (s : List (Option ℕ)) (p f t : ℕ) → IsTreeOf m pages ls hs rs v s → IsJoining m s p f t → IsJoinedUp ls hs ms gs p f t →
    ts ≡ slice_set rs (p / GROUP_PAGES) (max (t + 1) (slice_index rs (p / GROUP_PAGES))) → IsTreeOf m pages ms gs ts v (joined_set s p f t)
join_tree m pages ls hs rs ms gs ts v s p f t x w r e =
    let h = head p t in
    let g = p / GROUP_PAGES in
    let c = without_buddies s p f (t - f) in
    let d = joined_set s p f t in
    let a = freed m s p f t w in
    let in_zone : h < length s = omega (arith, w.block.inside, pow_pos t) in
    let group : h / GROUP_PAGES ≡ g = head_around p t GROUP_ORDER (omega (arith, w.block.order, x.orders)) in
    let room : g < length rs = omega (arith, group, in_zone, x.room, x.rows, x.pages_of) in
    let here : Starts d h t = get_or-set_same c h (Some t) None (omega (arith, in_zone, a.size)) in
    let q = max (t + 1) (slice_index rs g) in
    let ranked : IsRankedBy (slice_set rs g q) v d = ranks_raised rs s d g h t v x.ranked (changed_joined m s p f t x.orders w) group room here in
    rw e (another m pages ls hs rs ms gs (slice_set rs g q) v v s d x r.words r.size (length-set rs g q) (length-set c h (Some t) ∙ a.size) (joined_block_set m s p f t w) (marked_joined m ls hs ms gs s p f t x.marked r w) x.stale ranked)
