-- The nodes of a tree of ranks, and the largest of eight.
use Rattle.std.proofs.Common.{ℕ, suc, zero, ◌+◌, ◌-◌, ◌*◌, ◌/◌, ◌^◌, ◌≡◌, ◌≢◌, ◌≤◌, ◌<◌, inl, inr, refl, subst, sym, ◌∙◌, ap, arith, List, length, max, slice_index, slice_set, Option, Some, None, IsSome}
use Rattle.std.proofs.lemmas.Bool.{cases_lt, cases_eq}
use Rattle.std.proofs.lemmas.List.{get_or-set_same, get_or-set_other, length-set}
use Rattle.std.proofs.Math.Nat.{pow-suc}
use Rattle.zp_tree.specs.declared.constants.TheConstants.{FAN}
use Rattle.zp_tree.specs.RankRows.{best_from, IsInRow, IsRankedBut, IsRanked, IsFirstOfEight}

pub eight_of : (j : ℕ) → FAN ^ (j + 1) ≡ FAN * FAN ^ j
eight_of j = let e : j + 1 ≡ suc j = omega arith in let f : FAN ^ suc j ≡ FAN ^ j * FAN = pow-suc FAN j in ap (λ n. FAN ^ n) e ∙ omega (arith, f)

pub row_pos : (j : ℕ) → 0 < FAN ^ j
row_pos zero = omega arith
row_pos (suc j) = let e : j + 1 ≡ suc j = omega arith in omega (arith, row_pos j, eight_of j, ap (λ n. FAN ^ n) e)

-- a row has more nodes than there are rows above it
pub row_large : (j : ℕ) → j < FAN ^ j
row_large zero = omega arith
row_large (suc j) = let e : j + 1 ≡ suc j = omega arith in omega (arith, row_large j, eight_of j, ap (λ n. FAN ^ n) e)

-- of a larger row the nodes come later
pub row_grows : (j k : ℕ) → j < k → FAN ^ j + FAN ^ j ≤ FAN ^ k
row_grows j zero lt = absurd (omega arith)
row_grows j (suc k) lt =
    let e : k + 1 ≡ suc k = omega arith in
    elim (cases_eq j k) [
      | inl same ↦ rw same (omega (arith, row_pos k, eight_of k, ap (λ n. FAN ^ n) e))
      | inr ne ↦ omega (arith, row_grows j k (omega arith), row_pos k, eight_of k, ap (λ n. FAN ^ n) e)
    ]

pub above_in : (j x : ℕ) → IsInRow (j + 1) x → IsInRow j (x / FAN)
above_in j x r = let e = eight_of j in record { from = omega (arith, e, r.from); to = omega (arith, e, r.to) }

pub below_in : (j x y : ℕ) → IsInRow j x → FAN * x ≤ y → y < FAN * x + FAN → IsInRow (j + 1) y × (y / FAN ≡ x)
below_in j x y r lo hi = let e = eight_of j in (record { from = omega (arith, e, r.from); to = omega (arith, e, r.to) }, omega arith)

-- the largest of some ranks after one was written
pub best_apart : (ns : List ℕ) (x n y v : ℕ) → (x ≤ y → y < x + n → ⊥) → best_from (slice_set ns y v) x n ≡ best_from ns x n
best_apart ns x zero y v out = refl
best_apart ns x (suc n) y v out =
    let here : slice_index (slice_set ns y v) (x + n) ≡ slice_index ns (x + n) = get_or-set_other ns y (x + n) v 0 (λ e. out (omega arith) (omega arith)) in
    omega (arith, here, best_apart ns x n y v (λ lo hi. out lo (omega arith)))

pub best_most : (ns : List ℕ) (x n y : ℕ) → x ≤ y → y < x + n → slice_index ns y ≤ best_from ns x n
best_most ns x zero y lo hi = absurd (omega arith)
best_most ns x (suc n) y lo hi = elim (cases_eq y (x + n)) [
  | inl same ↦ rw same (omega arith)
  | inr ne ↦ omega (arith, best_most ns x n y lo (omega arith))
]

pub best_some : (ns : List ℕ) (x n : ℕ) → (y : ℕ) × (x ≤ y) × (y < x + suc n) × (slice_index ns y ≡ best_from ns x (suc n))
best_some ns x zero = (x + 0, omega arith, omega arith, omega arith)
best_some ns x (suc n) =
    let b = best_some ns x n in
    elim (cases_lt (best_from ns x (suc n)) (slice_index ns (x + suc n))) [
      | inl lt ↦ (x + suc n, omega arith, omega arith, omega arith)
      | inr ge ↦ (b.0, b.1, omega (arith, b.2), omega (arith, b.3))
    ]

others_keep : (d x v : ℕ) (ns : List ℕ) (j c : ℕ) → FAN ^ j + c ≢ x → FAN ^ j + c ≢ x / FAN → slice_index ns (FAN ^ j + c) ≡ best_from ns (FAN * (FAN ^ j + c)) FAN →
    slice_index (slice_set ns x v) (FAN ^ j + c) ≡ best_from (slice_set ns x v) (FAN * (FAN ^ j + c)) FAN
others_keep d x v ns j c other not_above e =
    let y = FAN ^ j + c in
    get_or-set_other ns x y v 0 other ∙ e ∙ sym (best_apart ns (FAN * y) FAN x v (λ lo hi. not_above (omega arith)))

-- a rank that is written leaves the node above it open
pub rank_written : (d x v : ℕ) (ns : List ℕ) → IsRanked d ns → IsInRow d x → IsRankedBut d (slice_set ns x v) (x / FAN)
rank_written d x v ns r at = record {
  size = length-set ns x v ∙ r.size;
  best = λ j c lt lc ne. let g = row_grows j d lt in let pos = row_pos j in
      others_keep d x v ns j c (λ e. omega (arith, at.from, g, e)) ne (r.best j c lt lc (λ e. omega (arith, pos, e)));
}

-- so does a node that holds the largest below it
pub node_mended : (d i x v : ℕ) (ns : List ℕ) → IsRankedBut d ns x → IsInRow i x → i < d → v ≡ best_from ns (FAN * x) FAN → IsRankedBut d (slice_set ns x v) (x / FAN)
node_mended d i x v ns r at lt is = record {
  size = length-set ns x v ∙ r.size;
  best = λ j c lj lc ne.
      elim (cases_eq (FAN ^ j + c) x) [
        | inl same ↦
            let pos = row_pos i in
            let room : x < length ns = omega (arith, at.to, row_grows i d lt, r.size) in
            rw same (get_or-set_same ns x v 0 room ∙ is ∙ sym (best_apart ns (FAN * x) FAN x v (λ lo _. omega (arith, pos, at.from))))
        | inr other ↦ others_keep d x v ns j c other ne (r.best j c lj lc other)
      ];
}

-- an open node that holds the largest below it is as it should be
pub node_right : (d i x : ℕ) (ns : List ℕ) → IsRankedBut d ns x → IsInRow i x → slice_index ns x ≡ best_from ns (FAN * x) FAN → IsRanked d ns
node_right d i x ns r at is = record {
  size = r.size;
  best = λ j c lj lc _.
      elim (cases_eq (FAN ^ j + c) x) [
        | inl same ↦ rw same is
        | inr other ↦ r.best j c lj lc other
      ];
}

pub in_row : (j x : ℕ) → IsInRow j x → (c : ℕ) × (c < FAN ^ j) × (FAN ^ j + c ≡ x)
in_row j x r = (x - FAN ^ j, omega (arith, r.to, r.from), omega (arith, r.from))

-- what a node holds
pub held : (d j x : ℕ) (ns : List ℕ) → IsRanked d ns → IsInRow j x → j < d → slice_index ns x ≡ best_from ns (FAN * x) FAN
held d j x ns r at lt =
    let c = in_row j x at in
    let pos = row_pos j in
    let b = r.best j c.0 lt c.1 (λ e. omega (arith, pos, e)) in
    rw (← c.2) b

-- each node is of one row
pub row_same : (i j x : ℕ) → IsInRow i x → IsInRow j x → i ≡ j
row_same i j x r s = elim (cases_eq i j) [
  | inl same ↦ same
  | inr ne ↦ absurd (elim (cases_lt i j) [
    | inl lt ↦ omega (arith, row_grows i j lt, r.to, s.from)
    | inr ge ↦ omega (arith, row_grows j i (omega arith), s.to, r.from)
  ])
]

-- the root is the one node of its row
pub root_row : IsInRow 0 1
root_row = record { from = omega arith; to = omega arith }

pub not_root : (j x : ℕ) → IsInRow j x → 1 < x → (i : ℕ) × (j ≡ i + 1)
not_root zero x r lt = absurd (omega (arith, r.to))
not_root (suc i) x r lt = (i, omega arith)

pub row_number : (i j : ℕ) → FAN ^ i ≡ FAN ^ j → i ≡ j
row_number i j e = row_same i j (FAN ^ i) record { from = omega arith; to = omega (arith, row_pos i) } record { from = omega arith; to = omega (arith, row_pos j, e) }

-- the largest of some ranks after one of them rose
pub best_raised : (ns : List ℕ) (x n y v : ℕ) → x ≤ y → y < x + n → y < length ns → slice_index ns y ≤ v → best_from (slice_set ns y v) x n ≡ max (best_from ns x n) v
best_raised ns x zero y v lo hi room up = absurd (omega arith)
best_raised ns x (suc n) y v lo hi room up = elim (cases_eq y (x + n)) [
  | inl same ↦
      let here : slice_index (slice_set ns y v) (x + n) ≡ v = ap (slice_index (slice_set ns y v)) (sym same) ∙ get_or-set_same ns y v 0 room in
      let old : slice_index ns y ≡ slice_index ns (x + n) = ap (slice_index ns) same in
      omega (arith, here, old, up, best_apart ns x n y v (λ _ less. omega (arith, same, less)))
  | inr ne ↦
      let there : slice_index (slice_set ns y v) (x + n) ≡ slice_index ns (x + n) = get_or-set_other ns y (x + n) v 0 (λ e. ne (sym e)) in
      omega (arith, there, best_raised ns x n y v lo (omega arith) room up)
]

-- a node that holds no less than v is as it should be
pub raised_right : (d i x v : ℕ) (ns : List ℕ) → IsRankedBut d ns x → IsInRow i x → max (slice_index ns x) v ≡ best_from ns (FAN * x) FAN → v ≤ slice_index ns x → IsRanked d ns
raised_right d i x v ns r at next le = node_right d i x ns r at (omega (arith, next, le))

-- one that held less gets v, and the one above it is next
pub raised_next : (d i x v : ℕ) (ns : List ℕ) → IsRankedBut d ns x → IsInRow (i + 1) x → i + 1 < d → max (slice_index ns x) v ≡ best_from ns (FAN * x) FAN → slice_index ns x < v →
    max (slice_index (slice_set ns x v) (x / FAN)) v ≡ best_from (slice_set ns x v) (FAN * (x / FAN)) FAN
raised_next d i x v ns r at lt next less =
    let y = x / FAN in
    let up = above_in i x at in
    let c = in_row i y up in
    let pos = row_pos i in
    let room : x < length ns = omega (arith, at.to, row_grows (i + 1) d lt, r.size) in
    let apart : FAN ^ i + c.0 ≢ x = λ e. omega (arith, c.2, e, at.from, eight_of i, up.to) in
    let b = r.best i c.0 (omega arith) c.1 apart in
    let held : slice_index ns y ≡ best_from ns (FAN * y) FAN = rw (← c.2) b in
    let same : slice_index (slice_set ns x v) y ≡ slice_index ns y = get_or-set_other ns x y v 0 (λ e. apart (c.2 ∙ e)) in
    omega (arith, same, held, best_raised ns (FAN * y) FAN x v (omega arith) (omega arith) room (omega arith))

-- a rank that rises
pub rank_raised : (d x v : ℕ) (ns : List ℕ) → IsRanked d ns → IsInRow d x → 0 < d → slice_index ns x ≤ v → max (slice_index (slice_set ns x v) (x / FAN)) v ≡ best_from (slice_set ns x v) (FAN * (x / FAN)) FAN
rank_raised d x v ns r at pos up =
    let i = d - 1 in
    let y = x / FAN in
    let e : d ≡ i + 1 = omega arith in
    let P : ℕ → Type 0 = λ k. IsInRow k x in
    let above = above_in i x (subst P e at) in
    let room : x < length ns = omega (arith, at.to, r.size) in
    let other : y ≢ x = λ f. omega (arith, f, at.from, row_pos d) in
    let same : slice_index (slice_set ns x v) y ≡ slice_index ns y = get_or-set_other ns x y v 0 other in
    omega (arith, same, held d i y ns r above (omega arith), best_raised ns (FAN * y) FAN x v (omega arith) (omega arith) room up)

-- the largest of some ranks after one of them fell
pub best_lowered : (ns : List ℕ) (x n y v : ℕ) → y < length ns → v ≤ slice_index ns y → best_from (slice_set ns y v) x n ≤ best_from ns x n
best_lowered ns x zero y v room down = omega arith
best_lowered ns x (suc n) y v room down = elim (cases_eq y (x + n)) [
  | inl same ↦
      let here : slice_index (slice_set ns y v) (x + n) ≡ v = ap (slice_index (slice_set ns y v)) (sym same) ∙ get_or-set_same ns y v 0 room in
      let old : slice_index ns y ≡ slice_index ns (x + n) = ap (slice_index ns) same in
      omega (arith, here, old, down, best_lowered ns x n y v room down)
  | inr ne ↦
      let there : slice_index (slice_set ns y v) (x + n) ≡ slice_index ns (x + n) = get_or-set_other ns y (x + n) v 0 (λ e. ne (sym e)) in
      omega (arith, there, best_lowered ns x n y v room down)
]

-- a node that got less leaves no more below the one above it than that holds
pub lowered_next : (d i x v : ℕ) (ns : List ℕ) → IsRankedBut d ns x → IsInRow (i + 1) x → i + 1 < d → v ≤ slice_index ns x → best_from (slice_set ns x v) (FAN * (x / FAN)) FAN ≤ slice_index (slice_set ns x v) (x / FAN)
lowered_next d i x v ns r at lt down =
    let y = x / FAN in
    let up = above_in i x at in
    let c = in_row i y up in
    let room : x < length ns = omega (arith, at.to, row_grows (i + 1) d lt, r.size) in
    let apart : FAN ^ i + c.0 ≢ x = λ e. omega (arith, c.2, e, at.from, eight_of i, up.to) in
    let b = r.best i c.0 (omega arith) c.1 apart in
    let held : slice_index ns y ≡ best_from ns (FAN * y) FAN = rw (← c.2) b in
    let same : slice_index (slice_set ns x v) y ≡ slice_index ns y = get_or-set_other ns x y v 0 (λ e. apart (c.2 ∙ e)) in
    omega (arith, same, held, best_lowered ns (FAN * y) FAN x v room down)

-- a rank that falls
pub rank_lowered : (d x v : ℕ) (ns : List ℕ) → IsRanked d ns → IsInRow d x → 0 < d → v ≤ slice_index ns x → best_from (slice_set ns x v) (FAN * (x / FAN)) FAN ≤ slice_index (slice_set ns x v) (x / FAN)
rank_lowered d x v ns r at pos down =
    let i = d - 1 in
    let y = x / FAN in
    let e : d ≡ i + 1 = omega arith in
    let P : ℕ → Type 0 = λ k. IsInRow k x in
    let above = above_in i x (subst P e at) in
    let room : x < length ns = omega (arith, at.to, r.size) in
    let other : y ≢ x = λ f. omega (arith, f, at.from, row_pos d) in
    let same : slice_index (slice_set ns x v) y ≡ slice_index ns y = get_or-set_other ns x y v 0 other in
    omega (arith, same, held d i y ns r above (omega arith), best_lowered ns (FAN * y) FAN x v room down)

-- one of eight that is v or more
pub found_as_much : (q : Option (ℕ × ℕ)) (ns : List ℕ) (x v : ℕ) → IsFirstOfEight ns x v q → IsSome q → v ≤ best_from ns x FAN
found_as_much None ns x v f some = absurd cc
found_as_much (Some b) ns x v f some = omega (arith, f.2, f.3, best_most ns x FAN b.0 f.0 f.1)
