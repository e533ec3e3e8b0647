-- What a status tree tells of its block set.
use Rattle.std.proofs.Common.{ℕ, suc, ◌+◌, ◌-◌, ◌/◌, ◌%◌, ◌^◌, ◌≡◌, ◌≢◌, ◌≤◌, ◌<◌, ◌⊎◌, ◌*◌, ◌↔◌, inl, inr, refl, sym, subst, arith, false, List, get_or, length, leb, min, rules, slice_index, Option, Some, None, IfSome}
use Rattle.std.proofs.lemmas.Nat.{pow_pos}
use Rattle.std.proofs.lemmas.Bool.{cases_eq, leb-true, le-leb, false_from_ne_true}
use Rattle.zp_model.specs.BlockSet.{Starts, block_if, largest, largest_in, lowest}
use Rattle.zp_model.proofs.FirstFound.{first_none, first_some}
use Rattle.zp_model.proofs.Heads.{head_room}
use Rattle.zp_tree.specs.declared.constants.TheConstants.{WORD_LEVELS, GROUP_ORDER, GROUP_PAGES}
use Rattle.zp_tree.specs.Blocks.{HasBlockOf, IsBare, IsBlockSet}
use Rattle.zp_tree.specs.Marks.{HasMark, IsNearRank, IsRankOf, IsFirstMark, IsLargestMark}
use Rattle.zp_tree.specs.RankRows.{IsFirstRank, IsTopRank}
use Rattle.zp_tree.specs.Ranks.{order_ranked}
use Rattle.zp_tree.specs.Spelled.{IsKeptIn, IsRankIn, IsTreeOf}
use Rattle.zp_tree.proofs.Greatest.{greatest_is}
use Rattle.zp_tree.proofs.Largest.{largest_told}
use Rattle.zp_tree.proofs.Ranked.{kept_most, near_rank, rank_in}
use Rattle.zp_tree.proofs.Spelling.{block_in_groups}

mark_in : (m pages : ℕ) (ls hs rs : List ℕ) (x : ℕ) (s : List (Option ℕ)) (i k : ℕ) → IsTreeOf m pages ls hs rs x s → Starts s i k → HasMark ls hs i k
mark_in m pages ls hs rs x s i k t st = let g = block_in_groups m pages ls hs rs x s i k t st in record { inside = g; bit = (t.marked i k g).1 st }

start_of : (m pages : ℕ) (ls hs rs : List ℕ) (x : ℕ) (s : List (Option ℕ)) (i k : ℕ) → IsTreeOf m pages ls hs rs x s → HasMark ls hs i k → Starts s i k
start_of m pages ls hs rs x s i k t h = (t.marked i k h.inside).0 h.bit

-- the first block of order k or more of a set
abbrev pub IsFirstBlock : List (Option ℕ) → ℕ → Option (ℕ × ℕ) → Type 0
IsFirstBlock s k None = (i o : ℕ) → Starts s i o → o < k
IsFirstBlock s k (Some b) = Starts s b.0 b.1 × (k ≤ b.1) × ((i o : ℕ) → Starts s i o → i < b.0 → o < k)

too_small : (k h : ℕ) (q : Option ℕ) → ((o : ℕ) → q ≡ Some o → o < k) → block_if (λ g j. leb k j) h q ≡ None
too_small k h None f = refl
too_small k h (Some o) f = let lt = f o refl in let e : leb k o ≡ false = false_from_ne_true _ (λ t. let le = leb-true k o t in omega arith) in rw e refl

pub first_lowest : (m pages : ℕ) (ls hs rs : List ℕ) (x : ℕ) (s : List (Option ℕ)) (k : ℕ) (q : Option (ℕ × ℕ)) → IsTreeOf m pages ls hs rs x s → IsFirstBlock s k q → q ≡ lowest s k
unfolding lowest
first_lowest m pages ls hs rs x s k None t f = sym (first_none (λ g. block_if (λ _ j. leb k j) g (get_or s g None)) 0 (length s) (λ i _ _. too_small k i (get_or s i None) (f i)))
first_lowest m pages ls hs rs x s k (Some (p, o)) t f =
    let here : block_if (λ g j. leb k j) p (get_or s p None) ≡ Some (p, o) = rw (f.0, le-leb k o f.1) refl in
    sym (first_some (λ g. block_if (λ _ j. leb k j) g (get_or s g None)) 0 (length s) p (p, o) (omega arith) (omega (arith, (t.set.block p o f.0).inside, pow_pos o)) here (λ i _ l. too_small k i (get_or s i None) (λ j y. f.2 i j y l)))

-- it is in the set, and large enough
pub first_starts : (s : List (Option ℕ)) (k : ℕ) (q : Option (ℕ × ℕ)) → IsFirstBlock s k q → IfSome q (λ b. Starts s b.0 b.1 × (k ≤ b.1))
first_starts s k None f = search rules
first_starts s k (Some b) f = let st : Starts s b.0 b.1 = f.0 in let le : k ≤ b.1 = f.1 in search rules

-- where no group has such a rank
pub none_ranked : (m pages : ℕ) (ls hs rs : List ℕ) (x : ℕ) (s : List (Option ℕ)) (k : ℕ) → IsTreeOf m pages ls hs rs x s → IsFirstRank rs (k + 1) None → IsFirstBlock s k None
none_ranked m pages ls hs rs x s k t f i o st = let g = i / GROUP_PAGES in omega (arith, kept_most s x g (slice_index rs g) (t.ranked g) i o refl st, f g)

-- all ranks are exact where that of the stale group is
pub exact_ranks : (m pages : ℕ) (ls hs rs : List ℕ) (x : ℕ) (s : List (Option ℕ)) (g : ℕ) → IsTreeOf m pages ls hs rs x s → IsRankIn s x (slice_index rs x) → IsRankIn s g (slice_index rs g)
exact_ranks m pages ls hs rs x s g t exact = elim (t.ranked g) [ inl y ↦ y | inr z ↦ rw z.0 exact ]

-- the ranks serve a search for blocks of order k or more
abbrev pub IsServing : List ℕ → ℕ → List (Option ℕ) → ℕ → Type 0
IsServing rs x s k = (k ≤ WORD_LEVELS) ⊎ IsRankIn s x (slice_index rs x)

-- a group of such a rank has such a block
group_some : (m pages : ℕ) (ls hs rs : List ℕ) (x : ℕ) (s : List (Option ℕ)) (k g : ℕ) → IsTreeOf m pages ls hs rs x s → IsServing rs x s k → k < slice_index rs g → (i : ℕ) × (o : ℕ) × (i / GROUP_PAGES ≡ g) × (k ≤ o) × Starts s i o
group_some m pages ls hs rs x s k g t serves lt = go (t.ranked g) serves
  where
    of_rank : IsRankIn s g (slice_index rs g) → (i : ℕ) × (o : ℕ) × (i / GROUP_PAGES ≡ g) × (k ≤ o) × Starts s i o
    of_rank y = let o = slice_index rs g - 1 in let w = y.some o (omega arith) in (w.0, o, w.1, omega arith, w.2)

    go : IsKeptIn s x g (slice_index rs g) → IsServing rs x s k → (i : ℕ) × (o : ℕ) × (i / GROUP_PAGES ≡ g) × (k ≤ o) × Starts s i o
    go (inl y) _ = of_rank y
    go (inr z) (inl few) = let w = z.1.large in (w.0, w.1, w.2, omega (arith, few, w.3), w.4)
    go (inr z) (inr exact) = of_rank (exact_ranks m pages ls hs rs x s g t exact)

-- the group of this rank has blocks, so it is one of the zone's
pub group_in : (m pages : ℕ) (ls hs rs : List ℕ) (x : ℕ) (s : List (Option ℕ)) (g r : ℕ) → IsTreeOf m pages ls hs rs x s → r ≡ slice_index rs g → 0 < r → g < length hs
group_in m pages ls hs rs x s g r t e pos =
    let w = group_some m pages ls hs rs x s 0 g t (inl (omega arith)) (omega arith) in
    let b = block_in_groups m pages ls hs rs x s w.0 w.1 t w.4 in
    omega (arith, w.2, b.inside, pow_pos w.1)

pub group_near : (m pages : ℕ) (ls hs rs : List ℕ) (x : ℕ) (s : List (Option ℕ)) (g r : ℕ) → IsTreeOf m pages ls hs rs x s → r ≡ slice_index rs g → IsNearRank ls hs g r
group_near m pages ls hs rs x s g r t e = rw e (near_rank ls hs s x g (slice_index rs g) t.marked (λ i o. block_in_groups m pages ls hs rs x s i o t) (t.ranked g))

-- its first block is the zone's
pub group_first : (m pages : ℕ) (ls hs rs : List ℕ) (x : ℕ) (s : List (Option ℕ)) (k g r : ℕ) (q : Option (ℕ × ℕ)) → IsTreeOf m pages ls hs rs x s → IsServing rs x s k → IsFirstRank rs (k + 1) (Some (g, r)) → IsFirstMark ls hs g k q → IsFirstBlock s k q
group_first m pages ls hs rs x s k g r None t serves f b =
    let w = group_some m pages ls hs rs x s k g t serves (omega (arith, f.1, f.2)) in
    absurd (omega (arith, b w.0 w.1 (mark_in m pages ls hs rs x s w.0 w.1 t w.4) w.2, w.3))
group_first m pages ls hs rs x s k g r (Some p) t serves f b = (
  start_of m pages ls hs rs x s p.0 p.1 t b.0,
  b.2,
  λ i o st before.
      let h = i / GROUP_PAGES in
      elim (cases_eq h g) [
        | inl same ↦ b.3 i o (mark_in m pages ls hs rs x s i o t st) same before
        | inr ne ↦ omega (arith, kept_most s x h (slice_index rs h) (t.ranked h) i o refl st, f.3 h (omega (arith, ne, before, b.1)))
      ],
)

-- the largest order of all, where no rank is stale
pub top_largest : (m pages : ℕ) (ls hs rs : List ℕ) (x : ℕ) (s : List (Option ℕ)) (v : ℕ) → IsTreeOf m pages ls hs rs x s → IsRankIn s x (slice_index rs x) → IsTopRank rs v → order_ranked v ≡ largest s
top_largest m pages ls hs rs x s v t exact top =
    sym (greatest_is s v (λ i o st. let g = i / GROUP_PAGES in omega (arith, (exact_ranks m pages ls hs rs x s g t exact).most i o refl st, top.most g)) (λ w e.
    let g = top.some in let y = (exact_ranks m pages ls hs rs x s g.0 t exact).some w (omega (arith, g.2, e)) in (y.0, y.2)))

-- past the zone's end there is none
pub none_past_end : (m pages : ℕ) (ls hs rs : List ℕ) (x : ℕ) (s : List (Option ℕ)) (a r : ℕ) → IsTreeOf m pages ls hs rs x s → pages ≤ a → None ≡ largest_in s a r
none_past_end m pages ls hs rs x s a r t past = largest_told s a r 0 (λ i o st from to. omega (arith, (t.set.block i o st).inside, t.pages_of, pow_pos o)) (λ w e. absurd (omega arith))

-- in a whole group, by its rank
pub rank_told : (m pages : ℕ) (ls hs rs : List ℕ) (x : ℕ) (s : List (Option ℕ)) (a r : ℕ) → IsTreeOf m pages ls hs rs x s → a % 2 ^ GROUP_ORDER ≡ 0 → IsRankIn s (a / GROUP_PAGES) r → order_ranked r ≡ largest_in s a GROUP_ORDER
rank_told m pages ls hs rs x s a r t al exact =
    largest_told s a GROUP_ORDER r (λ i o st from to. exact.most i o (omega (arith, from, to, al, pow_pos o)) st) (λ w e.
    let y = exact.some w e in
    let b = block_in_groups m pages ls hs rs x s y.0 w t y.2 in
    (y.0, y.2, omega (arith, y.1, al), omega (arith, head_room y.0 w GROUP_ORDER b.order b.aligned, y.1, al)))

-- that which is kept, where the group is not the stale one
pub kept_told : (m pages : ℕ) (ls hs rs : List ℕ) (x : ℕ) (s : List (Option ℕ)) (a : ℕ) → IsTreeOf m pages ls hs rs x s → a % 2 ^ GROUP_ORDER ≡ 0 → a / GROUP_PAGES ≢ x → order_ranked (slice_index rs (a / GROUP_PAGES)) ≡ largest_in s a GROUP_ORDER
kept_told m pages ls hs rs x s a t al ne =
    elim (t.ranked (a / GROUP_PAGES)) [ inl exact ↦ rank_told m pages ls hs rs x s a (slice_index rs (a / GROUP_PAGES)) t al exact | inr z ↦ absurd (ne z.0) ]

-- that which its words tell
pub words_told : (m pages : ℕ) (ls hs rs : List ℕ) (x : ℕ) (s : List (Option ℕ)) (a r : ℕ) → IsTreeOf m pages ls hs rs x s → a % 2 ^ GROUP_ORDER ≡ 0 → IsRankOf ls hs (a / GROUP_PAGES) r → order_ranked r ≡ largest_in s a GROUP_ORDER
words_told m pages ls hs rs x s a r t al y =
    rank_told m pages ls hs rs x s a r t al (rank_in ls hs s (a / GROUP_PAGES) r t.marked (λ i o. block_in_groups m pages ls hs rs x s i o t) y)

-- and by the words
pub marks_read : (m pages : ℕ) (ls hs rs : List ℕ) (x : ℕ) (s : List (Option ℕ)) (a r : ℕ) (q : Option ℕ) → IsTreeOf m pages ls hs rs x s → IsLargestMark ls hs a r q → q ≡ largest_in s a r
marks_read m pages ls hs rs x s a r None t z = largest_told s a r 0 (λ i o st from to. absurd (z i o (mark_in m pages ls hs rs x s i o t st) from to)) (λ w e. absurd (omega arith))
marks_read m pages ls hs rs x s a r (Some j) t z =
    largest_told s a r (suc j) (λ i o st from to. omega (arith, z.1 i o (mark_in m pages ls hs rs x s i o t st) from to)) (λ w e.
    let y = z.0 in let is : j ≡ w = omega arith in rw (← is) (y.0, start_of m pages ls hs rs x s y.0 j t y.1, y.2, y.3))

-- groups of lower ranks have no block of order k or more
pub bare_ranked : (m pages : ℕ) (ls hs rs : List ℕ) (x : ℕ) (s : List (Option ℕ)) (k g e : ℕ) → IsTreeOf m pages ls hs rs x s → ((h : ℕ) → g ≤ h → h < e → slice_index rs h < k + 1) → IsBare s k g e
bare_ranked m pages ls hs rs x s k g e t less i j st from to = let h = i / GROUP_PAGES in omega (arith, kept_most s x h (slice_index rs h) (t.ranked h) i j refl st, less h from to)

-- and one that is not has one, or where its rank is stale a block of order 5 or more
pub block_ranked : (s : List (Option ℕ)) (x g r k : ℕ) → IsKeptIn s x g r → k + 1 ≤ r → HasBlockOf s g (min k WORD_LEVELS)
block_ranked s x g r k (inl is) le = let b = is.some (r - 1) (omega arith) in (b.0, r - 1, b.2, b.1, omega arith)
block_ranked s x g r k (inr stale) le = let b = stale.1.large in (b.0, b.1, b.4, b.2, omega (arith, b.3))

-- a group is one block where its rank is that of a block of all its pages
pub whole_ranked : (m : ℕ) (s : List (Option ℕ)) (g r : ℕ) → IsBlockSet m s → m ≤ GROUP_ORDER → IsRankIn s g r → (r ≡ GROUP_ORDER + 1) ↔ Starts s (GROUP_PAGES * g) GROUP_ORDER
whole_ranked m s g r x few y = (
  λ e.
      let w = y.some GROUP_ORDER e in
      let al : w.0 % GROUP_PAGES ≡ 0 = (x.block w.0 GROUP_ORDER w.2).aligned in
      let same : w.0 ≡ GROUP_PAGES * g = omega (arith, w.1, al) in
      let P : ℕ → Type 0 = λ i. Starts s i GROUP_ORDER in
      subst P same w.2,
  λ st.
      let more = y.most (GROUP_PAGES * g) GROUP_ORDER (omega arith) st in
      let w = y.some (r - 1) (omega (arith, more)) in
      omega (arith, more, (x.block w.0 (r - 1) w.2).order, few),
)

-- a rank that is not the stale one is exact, and so is what its words tell of any group
pub kept_exact : (m pages : ℕ) (ls hs rs : List ℕ) (x : ℕ) (s : List (Option ℕ)) (g : ℕ) → IsTreeOf m pages ls hs rs x s → g ≢ x → IsRankIn s g (slice_index rs g)
kept_exact m pages ls hs rs x s g t ne = elim (t.ranked g) [ inl exact ↦ exact | inr z ↦ absurd (ne z.0) ]

pub words_exact : (m pages : ℕ) (ls hs rs : List ℕ) (x : ℕ) (s : List (Option ℕ)) (g r : ℕ) → IsTreeOf m pages ls hs rs x s → IsRankOf ls hs g r → IsRankIn s g r
words_exact m pages ls hs rs x s g r t y = rank_in ls hs s g r t.marked (λ i o. block_in_groups m pages ls hs rs x s i o t) y
