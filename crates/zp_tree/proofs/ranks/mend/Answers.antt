use Rattle.std.proofs.Common.{ℕ, rules, refl, ◌+◌, ◌-◌, ◌*◌, ◌/◌, ◌≡◌, ◌≤◌, ◌<◌, ◌∙◌, sym, subst, arith, length, slice_index}
use Rattle.std.proofs.lemmas.List.{drop-set-lt}
use Rattle.zp_tree.specs.declared.constants.TheConstants.{FAN}
use Rattle.zp_tree.specs.RankRows.{best_from, IsInRow, IsRankedBut}
use Rattle.zp_tree.proofs.RankNodes.{row_grows, row_same, node_right, node_mended, lowered_next, found_as_much}
use Rattle.zp_tree.proofs.RankWays.{eight_in, row_above}
use Rattle.zp_tree.proofs.ranks.mend.Goals.{In-mending}
use Rattle.zp_tree.proofs.ranks.mend.Goals as goal

pub mending-init : goal.mending-init
mending-init c d at but most = (d, omega arith, at, but, refl, most)

-- what is known of the node above
most : (c : In-mending) (d : ℕ) → IsInRow d c.args.rank → 0 < d → best_from c.args.nodes.now (FAN * (c.args.rank / FAN)) FAN ≤ slice_index c.args.nodes.now (c.args.rank / FAN)
most c d at pos = c.requires.most (omega (arith, row_same d c.requires.d c.args.rank at c.requires.row))

room : (c : In-mending) → FAN * (c.mending.node / FAN) + FAN ≤ length c.mending.nodes
room c =
    let v = c.mending.invariant c.requires.d c.requires.row c.requires.but c.requires.most in
    let up = row_above v.0 c.mending.node v.2 (omega arith) in
    eight_in c.requires.d up.0 (c.mending.node / FAN) (length c.mending.nodes) (omega (arith, up.1, v.1)) up.2 v.3.size

pub read-held-requires-clause-inside : goal.read-held-requires-clause-inside
read-held-requires-clause-inside c = omega (arith, room (goal.at.read-held-requires-clause-inside c).In-mending)

pub first_of_eight-requires-clause-inside : goal.first_of_eight-requires-clause-inside
first_of_eight-requires-clause-inside c = room (goal.at.first_of_eight-requires-clause-inside c).In-mending

pub returns-then-is_some : goal.returns-then-is_some
returns-then-is_some c d at but =
    let m = (goal.at.returns-then-is_some c).In-mending in
    let v = c.mending.invariant d at but (most m d at) in
    let up = row_above v.0 c.mending.node v.2 (omega arith) in
    let y = c.mending.node / FAN in
    let held = c.read-held.result in
    let read : slice_index c.mending.nodes y ≡ held = sym (c.read-held.ensures.node 0) in
    let found : held ≤ best_from c.mending.nodes (FAN * y) FAN = found_as_much c.first_of_eight.result c.mending.nodes (FAN * y) held c.first_of_eight.ensures.first (search rules) in
    let here : slice_index c.mending.nodes y ≡ best_from c.mending.nodes (FAN * y) FAN = omega (arith, found, read, v.5 (omega (arith, up.1))) in
    (node_right d up.0 y c.mending.nodes v.3 up.2 here, v.4)

pub best_of_eight-best-requires-clause-inside : goal.best_of_eight-best-requires-clause-inside
best_of_eight-best-requires-clause-inside c = room (goal.at.best_of_eight-best-requires-clause-inside c).In-mending

pub write-requires : goal.write-requires
write-requires c = omega (arith, room (goal.at.write-requires c).In-mending)

pub mending-preserved : goal.mending-preserved
mending-preserved c d at but start =
    let v = c.mending.invariant d at but start in
    let up = row_above v.0 c.mending.node v.2 (omega arith) in
    let y = c.mending.node / FAN in
    let b = c.best_of_eight-best.result in
    let lt : up.0 < d = omega (arith, up.1, v.1) in
    let down : b ≤ slice_index c.mending.nodes y = omega (arith, c.best_of_eight-best.ensures.best, v.5 (omega (arith, up.1))) in
    rw c.write.ensures (
      up.0,
      omega arith,
      up.2,
      node_mended d up.0 y b c.mending.nodes v.3 up.2 lt c.best_of_eight-best.ensures.best,
      drop-set-lt _ c.mending.nodes y _ (omega (arith, up.2.to, row_grows up.0 d lt)) ∙ v.4,
      λ pos.
          let i = up.0 - 1 in
          let e : up.0 ≡ i + 1 = omega arith in
          let P : ℕ → Type 0 = λ k. IsInRow k y in
          lowered_next d i y b c.mending.nodes v.3 (subst P e up.2) (omega (arith, e, lt)) down,
    )

pub returns : goal.returns
returns c d at but =
    let v = c.mending.invariant d at but (λ pos. c.requires.most (omega (arith, row_same d c.requires.d c.args.rank at c.requires.row))) in
    let P : ℕ → Type 0 = λ n. IsRankedBut d c.mending.nodes n in
    let root : c.mending.node / FAN ≡ 0 = omega arith in
    (subst P root v.3, v.4)
