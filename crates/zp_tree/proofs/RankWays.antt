-- The ways between the nodes of a tree of ranks and its last row.
use Rattle.std.proofs.Common.{ℕ, suc, zero, ◌+◌, ◌-◌, ◌*◌, ◌/◌, ◌^◌, ◌≡◌, ◌≤◌, ◌<◌, ◌⊎◌, inl, inr, refl, subst, ◌∙◌, ap, arith, List, slice_index, Some, None}
use Rattle.std.proofs.lemmas.Bool.{cases_lt, cases_eq}
use Rattle.zp_tree.specs.declared.constants.TheConstants.{FAN}
use Rattle.zp_tree.specs.RankRows.{IsInRow, IsRanked, IsFirstOfEight}
use Rattle.zp_tree.proofs.RankNodes.{eight_of, row_grows, above_in, below_in, best_most, best_some, held, root_row, not_root}

-- the node n rows above node x
unfoldable pub above : ℕ → ℕ → ℕ
above zero x = x
above (suc n) x = above n x / FAN

above_row : (d n j x : ℕ) → j + n ≡ d → IsInRow d x → IsInRow j (above n x)
unfolding above
above_row d zero j x e at = let s : j ≡ d = omega arith in rw s at
above_row d (suc n) j x e at = above_in j (above n x) (above_row d n (j + 1) x (omega arith) at)

-- a node holds no less than those of the last row below it
pub last_below : (d n j x : ℕ) (ns : List ℕ) → IsRanked d ns → j + n ≡ d → IsInRow d x → IsInRow j (above n x) × (slice_index ns x ≤ slice_index ns (above n x))
unfolding above
last_below d zero j x ns r e at = let s : j ≡ d = omega arith in (rw s at, omega arith)
last_below d (suc n) j x ns r e at =
    let b = last_below d n (j + 1) x ns r (omega arith) at in
    let y = above n x in
    let up = above_in j y b.0 in
    let h = held d j (y / FAN) ns r up (omega arith) in
    (up, omega (arith, b.1, h, best_most ns (FAN * (y / FAN)) FAN y (omega arith) (omega arith)))

-- and as much as one of them
pub last_some : (d n j x : ℕ) (ns : List ℕ) → IsRanked d ns → j + n ≡ d → IsInRow j x → (y : ℕ) × IsInRow d y × (above n y ≡ x) × (slice_index ns y ≡ slice_index ns x)
unfolding above
last_some d zero j x ns r e at = let s : j ≡ d = omega arith in (x, rw (← s) at, refl, refl)
last_some d (suc n) j x ns r e at =
    let b = best_some ns (FAN * x) 7 in
    let y = b.0 in
    let down = below_in j x y at b.1 b.2 in
    let l = last_some d n (j + 1) y ns r (omega arith) down.0 in
    let h = held d j x ns r at (omega arith) in
    (l.0, l.1, ap (λ z. z / FAN) l.2 ∙ down.1, omega (arith, l.3, b.3, h))

-- the way down to the first rank of v or more is at node x of row j: it is the root or holds so much, and no rank before those below it does
pub record IsOnWay (d j x v : ℕ) (ns : List ℕ) : Type 0 where
  pub row : IsInRow j x
  pub down : j ≤ d
  pub enough : (j ≡ 0) ⊎ (v ≤ slice_index ns x)
  pub before : (y : ℕ) → IsInRow d y → above (d - j) y < x → slice_index ns y < v

pub way_begins : (d v : ℕ) (ns : List ℕ) → IsOnWay d 0 1 v ns
way_begins d v ns = record {
  row = root_row;
  down = omega arith;
  enough = inl refl;
  before = λ y at lt. let r = (above_row d d 0 y (omega arith) at).from in let z : d - 0 ≡ d = omega arith in absurd (omega (arith, r, ap (λ n. above n y) z, lt));
}

pub way_down : (d j x v : ℕ) (b : ℕ × ℕ) (ns : List ℕ) → IsRanked d ns → IsOnWay d j x v ns → j < d → IsFirstOfEight ns (FAN * x) v (Some b) → IsOnWay d (j + 1) b.0 v ns
unfolding above
way_down d j x v b ns r w lt f =
    let e : d - j ≡ suc (d - (j + 1)) = omega arith in
    record {
      row = (below_in j x b.0 w.row f.0 f.1).0;
      down = omega arith;
      enough = inr (omega (arith, f.2, f.3));
      before = λ y at less.
          let u = above (d - (j + 1)) y in
          let same : above (d - j) y ≡ u / FAN = ap (λ n. above n y) e in
          elim (cases_lt (u / FAN) x) [
            | inl lower ↦ w.before y at (omega (arith, same))
            | inr here ↦ omega (arith, (last_below d (d - (j + 1)) (j + 1) y ns r (omega arith) at).1, f.4 u (omega arith) less)
          ];
    }

-- nothing below the root, where none of its eight is enough
pub way_ends_none : (d j x v : ℕ) (ns : List ℕ) → IsRanked d ns → IsOnWay d j x v ns → j < d → 0 < v → IsFirstOfEight ns (FAN * x) v None → (y : ℕ) → IsInRow d y → slice_index ns y < v
way_ends_none d j x v ns r w lt pos f y at =
    let h = held d j x ns r w.row lt in
    let b = best_some ns (FAN * x) 7 in
    let less : slice_index ns x < v = omega (arith, h, b.3, f b.0 b.1 b.2) in
    elim w.enough [
      | inl root ↦
          let up = last_below d d 0 y ns r (omega arith) at in
          let one : above d y ≡ x = let a : IsInRow 0 x = rw (← root) w.row in omega (arith, up.0.from, up.0.to, a.from, a.to) in
          omega (arith, up.1, less, ap (λ n. slice_index ns n) one)
      | inr enough ↦ absurd (omega (arith, less, enough))
    ]

pub row_le : (i d : ℕ) → i ≤ d → FAN ^ i ≤ FAN ^ d
row_le i d le = elim (cases_eq i d) [ inl same ↦ rw same (omega arith) | inr ne ↦ omega (arith, row_grows i d (omega arith)) ]

-- the eight below a node above the last row are nodes too
pub eight_in : (d j x n : ℕ) → j < d → IsInRow j x → n ≡ FAN ^ d + FAN ^ d → FAN * x + FAN ≤ n
eight_in d j x n lt at size = omega (arith, at.to, eight_of j, row_le (j + 1) d (omega arith))

-- a node below the root has one above it
pub row_above : (i x : ℕ) → IsInRow i x → 1 < x → (j : ℕ) × (j < i) × IsInRow j (x / FAN)
row_above i x at lt =
    let j = not_root i x at lt in
    let P : ℕ → Type 0 = λ k. IsInRow k x in
    (j.0, omega (arith, j.1), above_in j.0 x (subst P j.1 at))

-- the nodes of the last row
pub last_row : (d x g : ℕ) → x ≡ FAN ^ d + g → g < FAN ^ d → IsInRow d x
last_row d x g e lt = record { from = omega arith; to = omega arith }

-- a node that is no rank stands above the last row, and the others in it
pub row_short : (d j x : ℕ) → IsInRow j x → j ≤ d → x < FAN ^ d → j < d
row_short d j x at le lt = elim (cases_eq j d) [ inl same ↦ absurd (let f : FAN ^ j ≡ FAN ^ d = ap (λ n. FAN ^ n) same in omega (arith, at.from, f)) | inr ne ↦ omega arith ]

pub row_last : (d j x : ℕ) → IsInRow j x → j ≤ d → FAN ^ d ≤ x → j ≡ d
row_last d j x at le ge = elim (cases_eq j d) [ inl same ↦ same | inr ne ↦ absurd (omega (arith, row_grows j d (omega arith), at.to)) ]
