-- The last row of a tree of ranks.
use Rattle.std.proofs.Common.{ℕ, suc, zero, ◌+◌, ◌-◌, ◌*◌, ◌/◌, ◌^◌, ◌≡◌, ◌≤◌, ◌<◌, inl, inr, refl, sym, ◌∙◌, ap, arith, drop, List, length, replicate, slice_index, Some, None}
use Rattle.std.proofs.lemmas.Bool.{cases_lt}
use Rattle.std.proofs.lemmas.List.{get_or-drop, get_or_past, length-drop, length-replicate}
use Rattle.zp_model.proofs.RowLists.{replicated}
use Rattle.zp_tree.specs.declared.constants.TheConstants.{FAN}
use Rattle.zp_tree.specs.RankRows.{best_from, IsInRow, IsRanked, IsFirstRank, IsTopRank}
use Rattle.zp_tree.proofs.RankNodes.{root_row, row_number}
use Rattle.zp_tree.proofs.RankWays.{IsOnWay, above, last_below, last_some, last_row, row_last}

row_length : (d : ℕ) (ns : List ℕ) → IsRanked d ns → length (drop (FAN ^ d) ns) ≡ FAN ^ d
row_length d ns r = omega (arith, length-drop (FAN ^ d) ns, r.size)

-- the row is half of the nodes, and what is seen of them
pub row_half : (d : ℕ) (ns : List ℕ) → IsRanked d ns → length ns / 2 ≡ FAN ^ d
row_half d ns r = omega (arith, r.size)

pub row_seen : (d : ℕ) (ns rs : List ℕ) → IsRanked d ns → drop (length ns / 2) ns ≡ rs → drop (FAN ^ d) ns ≡ rs
row_seen d ns rs r view = ap (λ n. drop n ns) (sym (row_half d ns r)) ∙ view

pub row_size : (d : ℕ) (ns rs : List ℕ) → IsRanked d ns → drop (length ns / 2) ns ≡ rs → length rs ≡ FAN ^ d
row_size d ns rs r view = ap length (sym (row_seen d ns rs r view)) ∙ row_length d ns r

row_read : (d g : ℕ) (ns : List ℕ) → slice_index (drop (FAN ^ d) ns) g ≡ slice_index ns (FAN ^ d + g)
row_read d g ns = get_or-drop (FAN ^ d) ns g 0

-- the node of a group, and the rank there
pub group_row : (d n g : ℕ) (ns rs : List ℕ) → IsRanked d ns → drop (length ns / 2) ns ≡ rs → n ≡ length rs → g < length rs → IsInRow d (n + g)
group_row d n g ns rs r view e lt = let size = row_size d ns rs r view in last_row d (n + g) g (omega (arith, e, size)) (omega (arith, lt, size))

pub group_read : (d n g : ℕ) (ns rs : List ℕ) → IsRanked d ns → drop (length ns / 2) ns ≡ rs → n ≡ length rs → slice_index ns (n + g) ≡ slice_index rs g
group_read d n g ns rs r view e =
    let at : n ≡ FAN ^ d = e ∙ row_size d ns rs r view in
    ap (λ k. slice_index ns (k + g)) at ∙ sym (row_read d g ns) ∙ ap (λ qs. slice_index qs g) (row_seen d ns rs r view)

-- its length tells how many rows there are
pub row_told : (d e : ℕ) (ns rs : List ℕ) → IsRanked d ns → drop (length ns / 2) ns ≡ rs → length rs ≡ FAN ^ e → d ≡ e
row_told d e ns rs r view long = row_number d e (sym (row_size d ns rs r view) ∙ long)

pub root_top : (d : ℕ) (ns : List ℕ) → IsRanked d ns → IsTopRank (drop (FAN ^ d) ns) (slice_index ns 1)
root_top d ns r =
    let s = last_some d d 0 1 ns r (omega arith) root_row in
    let g = s.0 - FAN ^ d in
    let back : FAN ^ d + g ≡ s.0 = omega (arith, s.1.from) in
    let all : (g : ℕ) → slice_index (drop (FAN ^ d) ns) g ≤ slice_index ns 1 = λ g. elim (cases_lt g (FAN ^ d)) [
      | inl lt ↦
          let b = last_below d d 0 (FAN ^ d + g) ns r (omega arith) (last_row d (FAN ^ d + g) g refl lt) in
          let one : above d (FAN ^ d + g) ≡ 1 = omega (arith, b.0.from, b.0.to) in
          omega (arith, row_read d g ns, b.1, ap (slice_index ns) one)
      | inr ge ↦ let past : slice_index (drop (FAN ^ d) ns) g ≡ 0 = get_or_past (drop (FAN ^ d) ns) g 0 (omega (arith, row_length d ns r)) in omega (arith, past)
    ] in
    record { most = all; some = (g, omega (arith, row_length d ns r, s.1.to, s.1.from), row_read d g ns ∙ ap (slice_index ns) back ∙ s.3) }

-- where no rank is enough
pub row_none : (d v : ℕ) (ns : List ℕ) → IsRanked d ns → 0 < v → ((y : ℕ) → IsInRow d y → slice_index ns y < v) → IsFirstRank (drop (FAN ^ d) ns) v None
row_none d v ns r pos none g = elim (cases_lt g (FAN ^ d)) [
  | inl lt ↦ omega (arith, row_read d g ns, none (FAN ^ d + g) (last_row d (FAN ^ d + g) g refl lt))
  | inr ge ↦ let past : slice_index (drop (FAN ^ d) ns) g ≡ 0 = get_or_past (drop (FAN ^ d) ns) g 0 (omega (arith, row_length d ns r)) in omega (arith, past)
]

-- the way down ends at the first that is
pub row_first : (d j x v : ℕ) (ns : List ℕ) → IsRanked d ns → 0 < d → IsOnWay d j x v ns → FAN ^ d ≤ x → IsFirstRank (drop (FAN ^ d) ns) v (Some (x - FAN ^ d, slice_index ns x))
unfolding above
row_first d j x v ns r pos w ge =
    let last : j ≡ d = row_last d j x w.row w.down ge in
    let f : FAN ^ j ≡ FAN ^ d = ap (λ n. FAN ^ n) last in
    let back : FAN ^ d + (x - FAN ^ d) ≡ x = omega arith in
    let enough : v ≤ slice_index ns x = elim w.enough [ inl root ↦ absurd (omega arith) | inr y ↦ y ] in
    let here : d - j ≡ 0 = omega arith in (
      omega (arith, row_length d ns r, w.row.to, f),
      sym (row_read d (x - FAN ^ d) ns ∙ ap (slice_index ns) back),
      enough,
      λ g lt.
          let y = FAN ^ d + g in
          let self : above (d - j) y ≡ y = ap (λ n. above n y) here in
          omega (arith, row_read d g ns, w.before y (last_row d y g refl (omega (arith, w.row.to, f))) (omega (arith, self))),
    )

best_none : (ns : List ℕ) (x n : ℕ) → ((y : ℕ) → slice_index ns y ≡ 0) → best_from ns x n ≡ 0
best_none ns x zero none = refl
best_none ns x (suc n) none = omega (arith, none (x + n), best_none ns x n none)

-- the ranks of no block
pub no_ranks : (d n : ℕ) → n ≡ FAN ^ d + FAN ^ d → IsRanked d (replicate n 0)
no_ranks d n e = record {
  size = length-replicate n 0 ∙ e;
  best = λ j c lt lc _. replicated n (FAN ^ j + c) 0 ∙ sym (best_none (replicate n 0) (FAN * (FAN ^ j + c)) FAN (λ y. replicated n y 0));
}

pub no_ranks_row : (d n g : ℕ) → slice_index (drop d (replicate n 0)) g ≡ 0
no_ranks_row d n g = get_or-drop d (replicate n 0) g 0 ∙ replicated n (d + g) 0
