use Rattle.std.proofs.Common.{ℕ, rules, refl, ◌+◌, ◌-◌, ◌*◌, ◌/◌, ◌≡◌, ◌≤◌, ◌<◌, ◌∙◌, sym, subst, arith, length, max, slice_index}
use Rattle.std.proofs.lemmas.List.{drop-set-lt}
use Rattle.zp_tree.specs.declared.constants.TheConstants.{FAN}
use Rattle.zp_tree.specs.RankRows.{best_from, IsInRow, IsRankedBut}
use Rattle.zp_tree.proofs.RankNodes.{row_grows, row_same, node_mended, raised_right, raised_next}
use Rattle.zp_tree.proofs.RankWays.{eight_in, row_above}
use Rattle.zp_tree.proofs.ranks.raise.Goals.{In-rising, After-is_at_least}
use Rattle.zp_tree.proofs.ranks.raise.Goals as goal

pub rising-init : goal.rising-init
rising-init c d at but next = (d, omega arith, at, but, refl, next)

-- what is known of the node above
next : (c : In-rising) (d : ℕ) → IsInRow d c.args.place → 0 < d → max (slice_index c.args.nodes.now (c.args.place / FAN)) c.args.rank ≡ best_from c.args.nodes.now (FAN * (c.args.place / FAN)) FAN
next c d at pos = c.requires.next (omega (arith, row_same d c.requires.d c.args.place at c.requires.row))

room : (c : In-rising) → c.rising.node / FAN < length c.rising.nodes
room c =
    let v = c.rising.invariant c.requires.d c.requires.row c.requires.but c.requires.next in
    let up = row_above v.0 c.rising.node v.2 (omega arith) in
    omega (arith, eight_in c.requires.d up.0 (c.rising.node / FAN) (length c.rising.nodes) (omega (arith, up.1, v.1)) up.2 v.3.size)

pub read-requires-clause-inside : goal.read-requires-clause-inside
read-requires-clause-inside c = room (goal.at.read-requires-clause-inside c).In-rising

read : (c : After-is_at_least) → slice_index c.rising.nodes (c.rising.node / FAN) ≡ c.read.result
read c = sym (c.read.ensures.node 0)

pub returns-then-is_at_least : goal.returns-then-is_at_least
returns-then-is_at_least c d at but =
    let v = c.rising.invariant d at but (next (goal.at.returns-then-is_at_least c).In-rising d at) in
    let up = row_above v.0 c.rising.node v.2 (omega arith) in
    let le : c.args.rank ≤ c.read.result = search rules in
    (raised_right d up.0 (c.rising.node / FAN) c.args.rank c.rising.nodes v.3 up.2 (v.5 (omega (arith, up.1))) (omega (arith, le, read (goal.at.returns-then-is_at_least c).After-is_at_least)), v.4)

pub write-requires : goal.write-requires
write-requires c = room (goal.at.write-requires c).In-rising

pub rising-preserved : goal.rising-preserved
rising-preserved c d at but start =
    let v = c.rising.invariant d at but start in
    let up = row_above v.0 c.rising.node v.2 (omega arith) in
    let y = c.rising.node / FAN in
    let lt : up.0 < d = omega (arith, up.1, v.1) in
    let less : c.read.result < c.args.rank = search rules in
    let small : slice_index c.rising.nodes y < c.args.rank = omega (arith, less, read (goal.at.rising-preserved c).After-is_at_least) in
    let best = v.5 (omega (arith, up.1)) in
    rw c.write.ensures (
      up.0,
      omega arith,
      up.2,
      node_mended d up.0 y c.args.rank c.rising.nodes v.3 up.2 lt (omega (arith, best, small)),
      drop-set-lt _ c.rising.nodes y _ (omega (arith, up.2.to, row_grows up.0 d lt)) ∙ v.4,
      λ pos.
          let i = up.0 - 1 in
          let e : up.0 ≡ i + 1 = omega arith in
          let P : ℕ → Type 0 = λ k. IsInRow k y in
          raised_next d i y c.args.rank c.rising.nodes v.3 (subst P e up.2) (omega (arith, e, lt)) best small,
    )

pub returns : goal.returns
returns c d at but =
    let v = c.rising.invariant d at but (λ pos. c.requires.next (omega (arith, row_same d c.requires.d c.args.place at c.requires.row))) in
    let P : ℕ → Type 0 = λ n. IsRankedBut d c.rising.nodes n in
    let root : c.rising.node / FAN ≡ 0 = omega arith in
    (subst P root v.3, v.4)
