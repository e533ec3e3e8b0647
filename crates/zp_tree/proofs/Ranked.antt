-- The ranks of a zone's groups, before and after a change of its block set.
use Rattle.std.proofs.Common.{ℕ, ◌+◌, ◌/◌, ◌≡◌, ◌≢◌, ◌<◌, ◌↔◌, inl, inr, refl, sym, ◌∙◌, arith, List, length, get_or, max, slice_index, slice_set, Option, None}
use Rattle.std.proofs.lemmas.Bool.{cases_eq, cases_lt}
use Rattle.std.proofs.lemmas.List.{get_or-set_same, get_or-set_other}
use Rattle.zp_model.specs.BlockSet.{Starts}
use Rattle.zp_tree.specs.declared.constants.TheConstants.{GROUP_PAGES}
use Rattle.zp_tree.specs.Marks.{CanStay, HasLarge, HasMark, IsInGroups, IsLowered, IsNearRank, IsRankBound, IsRankOf}
use Rattle.zp_tree.specs.Spelled.{IsKeptIn, IsRankIn}
use Rattle.zp_tree.proofs.GroupBlocks.{is_high, mark_high}
use Rattle.zp_tree.proofs.MarkedSets.{IsMarkedBy}

-- the ranks that are kept of all groups, where that of group x may be stale
abbrev pub IsRankedBy : List ℕ → ℕ → List (Option ℕ) → Type 0
IsRankedBy rs x s = (g : ℕ) → IsKeptIn s x g (slice_index rs g)

-- the blocks of a set lie in the groups of its words
abbrev pub IsInside : List ℕ → List (Option ℕ) → Type 0
IsInside hs s = (i k : ℕ) → Starts s i k → IsInGroups hs i k

-- from the set s to r only blocks of group g changed, and there only those of order k or less
pub record IsChangedIn (s r : List (Option ℕ)) (g k : ℕ) : Type 0 where
  pub others : (i : ℕ) → i / GROUP_PAGES ≢ g → get_or r i None ≡ get_or s i None
  pub larger : (i o : ℕ) → k < o → Starts r i o ↔ Starts s i o

-- no block has a rank above the one that is kept
pub kept_most : (s : List (Option ℕ)) (x g r : ℕ) → IsKeptIn s x g r → (i k : ℕ) → i / GROUP_PAGES ≡ g → Starts s i k → k < r
kept_most s x g r (inl y) = y.most
kept_most s x g r (inr y) = y.1.most

-- what the words say of a group they say of the set
has_mark : (ls hs : List ℕ) (s : List (Option ℕ)) (i k : ℕ) → IsMarkedBy ls hs s → IsInside hs s → Starts s i k → HasMark ls hs i k
has_mark ls hs s i k m inside st = record { inside = inside i k st; bit = (m i k (inside i k st)).1 st }

pub rank_in : (ls hs : List ℕ) (s : List (Option ℕ)) (g v : ℕ) → IsMarkedBy ls hs s → IsInside hs s → IsRankOf ls hs g v → IsRankIn s g v
rank_in ls hs s g v m inside y = record {
  most = λ i k at st. y.most i k (has_mark ls hs s i k m inside st) at;
  some = λ k e. let w = y.some k e in (w.0, w.2, (m w.0 k w.1.inside).0 w.1.bit);
}

-- and the other way round
pub near_rank : (ls hs : List ℕ) (s : List (Option ℕ)) (x g v : ℕ) → IsMarkedBy ls hs s → IsInside hs s → IsKeptIn s x g v → IsNearRank ls hs g v
near_rank ls hs s x g v m inside (inl y) = inl record {
  most = λ i k h at. y.most i k at ((m i k h.inside).0 h.bit);
  some = λ k e. let w = y.some k e in (w.0, has_mark ls hs s w.0 k m inside w.2, w.1);
}
near_rank ls hs s x g v m inside (inr y) =
    let w = y.1.large in
    inr (λ i k h at. y.1.most i k at ((m i k h.inside).0 h.bit), (w.0, w.1, is_high ls hs w.0 w.1 (has_mark ls hs s w.0 w.1 m inside w.4) w.3, w.2))

-- a block that was in another group is there
pub other_group : (s r : List (Option ℕ)) (g k x h v : ℕ) → IsChangedIn s r g k → h ≢ g → IsKeptIn s x h v → IsKeptIn r x h v
other_group s r g k x h v c ne (inl y) = inl record {
  most = λ i o at st. y.most i o at (sym (c.others i (λ e. ne (sym at ∙ e))) ∙ st);
  some = λ o e. let w = y.some o e in (w.0, w.1, c.others w.0 (λ f. ne (sym w.1 ∙ f)) ∙ w.2);
}
other_group s r g k x h v c ne (inr y) = inr (
  y.0,
  record {
    most = λ i o at st. y.1.most i o at (sym (c.others i (λ e. ne (sym at ∙ e))) ∙ st);
    large = let w = y.1.large in (w.0, w.1, w.2, w.3, c.others w.0 (λ f. ne (sym w.2 ∙ f)) ∙ w.4);
  },
)

pub ranks_set : (rs : List ℕ) (s r : List (Option ℕ)) (g k x v : ℕ) → IsRankedBy rs x s → IsChangedIn s r g k → g < length rs → IsKeptIn r x g v → IsRankedBy (slice_set rs g v) x r
ranks_set rs s r g k x v y c room new h = elim (cases_eq h g) [
  | inl e ↦ let here : slice_index (slice_set rs g v) g ≡ v = get_or-set_same rs g v 0 room in rw (e, here) new
  | inr ne ↦ let there : slice_index (slice_set rs g v) h ≡ slice_index rs h = get_or-set_other rs g h v 0 ne in rw there (other_group s r g k x h (slice_index rs h) c ne (y h))
]

-- a block came that is the largest of those that changed
pub ranks_raised : (rs : List ℕ) (s r : List (Option ℕ)) (g p k x : ℕ) → IsRankedBy rs x s → IsChangedIn s r g k → p / GROUP_PAGES ≡ g → g < length rs → Starts r p k → IsRankedBy (slice_set rs g (max (k + 1) (slice_index rs g))) x r
ranks_raised rs s r g p k x y c in_group room st =
    let v = slice_index rs g in
    let most : (i o : ℕ) → i / GROUP_PAGES ≡ g → Starts r i o → o < max (k + 1) v = λ i o at z. elim (cases_lt k o) [ inl more ↦ omega (arith, kept_most s x g v (y g) i o at ((c.larger i o more).0 z)) | inr few ↦ omega arith ] in
    ranks_set rs s r g k x (max (k + 1) v) y c room (elim (y g) [
      | inl exact ↦ inl record {
        most = most;
        some = λ o e. elim (cases_eq o k) [
          | inl same ↦ (p, in_group, rw same st)
          | inr ne ↦ let w = exact.some o (omega arith) in (w.0, w.1, (c.larger w.0 o (omega arith)).1 w.2)
        ];
      }
      | inr z ↦ inr (
        z.0,
        record {
          most = most;
          large = let w = z.1.large in elim (cases_lt k w.1) [ inl more ↦ (w.0, w.1, w.2, w.3, (c.larger w.0 w.1 more).1 w.4) | inr few ↦ (p, k, in_group, omega (arith, w.3), st) ];
        },
      )
    ])

-- the rank that stays where a block went
stays : (ls hs : List ℕ) (s r : List (Option ℕ)) (x y g k v : ℕ) → IsKeptIn s x g v → IsChangedIn s r g k → k < v → IsMarkedBy ls hs r → (g ≡ x → y ≡ x) → CanStay hs y g k v → IsKeptIn r y g v
stays ls hs s r x y g k v kept c lt m same stay = go kept stay
  where
    most : (i o : ℕ) → i / GROUP_PAGES ≡ g → Starts r i o → o < v
    most i o at st = elim (cases_lt k o) [ inl more ↦ kept_most s x g v kept i o at ((c.larger i o more).0 st) | inr few ↦ omega arith ]

    exact : IsRankIn s g v → k + 1 < v → IsKeptIn r y g v
    exact z more = inl record { most = most; some = λ o e. let w = z.some o e in (w.0, w.1, (c.larger w.0 o (omega arith)).1 w.2) }

    stale : g ≡ y → HasLarge hs g → IsKeptIn r y g v
    stale e l = inr (e, record { most = most; large = (l.0, l.1, l.3, l.2.order, (m l.0 l.1 l.2.inside).0 (mark_high ls hs l.0 l.1 l.2).bit) })

    go : IsKeptIn s x g v → CanStay hs y g k v → IsKeptIn r y g v
    go (inl z) (inl w) = exact z w.1
    go (inl z) (inr w) = elim w.1 [ inl more ↦ exact z more | inr e ↦ stale (sym e) w.0 ]
    go (inr z) (inl w) = inr (z.0 ∙ sym (same z.0), record { most = most; large = let l = z.1.large in (l.0, l.1, l.2, l.3, (c.larger l.0 l.1 (omega (arith, w.0, l.3))).1 l.4) })
    go (inr z) (inr w) = stale (z.0 ∙ sym (same z.0)) w.0

-- a block went, and each rank that is not what the words tell can stay
pub ranks_lowered : (ls hs rs ts : List ℕ) (s r : List (Option ℕ)) (x y p k : ℕ) → IsRankedBy rs x s → IsChangedIn s r (p / GROUP_PAGES) k → Starts s p k → IsMarkedBy ls hs r → IsInside hs r → IsLowered ls hs rs ts x y (p / GROUP_PAGES) k →
    IsRankedBy ts y r
ranks_lowered ls hs rs ts s r x y p k ranked c st m inside l h = elim (l.ranks h) [
  | inl exact ↦ inl (rank_in ls hs r h (slice_index ts h) m inside exact)
  | inr kept ↦ rw kept.0 (elim (cases_eq h (p / GROUP_PAGES)) [
    | inl e ↦
        let g = p / GROUP_PAGES in
        let v = slice_index rs g in
        let same : g ≡ x → y ≡ x = rw e at kept.1 in
        rw e (stays ls hs s r x y g k v (ranked g) c (kept_most s x g v (ranked g) p k refl st) m same (kept.2 e))
    | inr ne ↦ elim (other_group s r (p / GROUP_PAGES) k x h (slice_index rs h) c ne (ranked h)) [ inl z ↦ inl z | inr z ↦ inr (z.0 ∙ sym (kept.1 z.0), z.1) ]
  ])
]

-- what is left in the group of a block that went has no rank above the group's
pub rank_bound : (ls hs rs : List ℕ) (s r : List (Option ℕ)) (x p k : ℕ) → IsRankedBy rs x s → IsChangedIn s r (p / GROUP_PAGES) k → Starts s p k → IsMarkedBy ls hs r → IsRankBound ls hs (p / GROUP_PAGES) (slice_index rs (p / GROUP_PAGES))
rank_bound ls hs rs s r x p k y c st m i o h at =
    let g = p / GROUP_PAGES in
    let most = kept_most s x g (slice_index rs g) (y g) in
    elim (cases_lt k o) [ inl more ↦ most i o at ((c.larger i o more).0 ((m i o h.inside).0 h.bit)) | inr few ↦ omega (arith, most p k refl st) ]
