use Rattle.std.proofs.Common.{ℕ, ◌+◌, ◌-◌, ◌*◌, ◌^◌, ◌≡◌, ◌≤◌, ◌<◌, ◌∙◌, List, subst, sym, arith, length, slice_index, Some, None}
use Rattle.zp_tree.specs.declared.constants.TheConstants.{FAN}
use Rattle.zp_tree.specs.RankRows.{IsFirstRank}
use Rattle.zp_tree.proofs.RankNodes.{row_large}
use Rattle.zp_tree.proofs.RankWays.{eight_in, row_short, row_last, way_begins, way_down, way_ends_none}
use Rattle.zp_tree.proofs.RankRow.{row_seen, row_size, row_told, row_none, row_first}
use Rattle.zp_tree.proofs.ranks.RankTree.first.Goals.{In-rows, After-rows}
use Rattle.zp_tree.proofs.ranks.RankTree.first.Goals as goal

pub rows-init : goal.rows-init
rows-init c d r = (0, way_begins d c.args.rank c.self.inside.nodes, omega arith, λ pos. absurd (omega (arith, pos)))

-- the node is above the last row
short : (c : In-rows) → (c.rows.invariant c.self.invariant.0 c.self.invariant.3).0 < c.self.invariant.0
short c =
    let v = c.self.invariant in
    let w = c.rows.invariant v.0 v.3 in
    row_short v.0 w.0 c.rows.node w.1.row w.1.down (omega (arith, c.row-row.ensures.row, row_size v.0 c.self.inside.nodes _ v.3 c.self.view_is))

eight : (c : In-rows) → FAN * c.rows.node + FAN ≤ length c.self.inside.nodes
eight c = let v = c.self.invariant in let w = c.rows.invariant v.0 v.3 in eight_in v.0 w.0 c.rows.node _ (short c) w.1.row v.3.size

pub first_of_eight-requires-clause-inside : goal.first_of_eight-requires-clause-inside
first_of_eight-requires-clause-inside c = eight (goal.at.first_of_eight-requires-clause-inside c).In-rows

pub first_of_eight-requires-clause-count : goal.first_of_eight-requires-clause-count
first_of_eight-requires-clause-count c = let v = c.self.invariant in let w = c.rows.invariant v.0 v.3 in omega (arith, w.2, w.1.down, row_large v.0, v.2, c.requires.count)

pub returns-in_err-node-clause-first : goal.returns-in_err-node-clause-first
returns-in_err-node-clause-first c =
    let v = c.self.invariant in
    let w = c.rows.invariant v.0 v.3 in
    let none = way_ends_none v.0 w.0 c.rows.node c.args.rank c.self.inside.nodes v.3 w.1 (short (goal.at.returns-in_err-node-clause-first c).In-rows) c.requires.rank c.in_err-node.ensures.first in
    let Q : List ℕ → Type 0 = λ rs. IsFirstRank rs c.args.rank None in
    rw c.from_residual.ensures (subst Q (row_seen v.0 c.self.inside.nodes _ v.3 c.self.view_is) (row_none v.0 c.args.rank c.self.inside.nodes v.3 c.requires.rank none))

pub returns-in_err-node-clause-counted : goal.returns-in_err-node-clause-counted
returns-in_err-node-clause-counted c d long =
    let v = c.self.invariant in
    let w = c.rows.invariant v.0 v.3 in
    omega (arith, w.2, c.in_err-node.ensures.counted, short (goal.at.returns-in_err-node-clause-counted c).In-rows, row_told v.0 d _ _ v.3 c.self.view_is long)

pub rows-preserved : goal.rows-preserved
rows-preserved c d r =
    let w = c.rows.invariant d r in
    let size = row_size d c.self.inside.nodes _ r c.self.view_is in
    let f = c.in_ok-node.ensures.first in (
      w.0 + 1,
      way_down d w.0 c.rows.node c.args.rank (c.in_ok-node.field-0-0, c.in_ok-node.field-0-1) c.self.inside.nodes r w.1 (row_short d w.0 c.rows.node w.1.row w.1.down (omega (arith, c.row-row.ensures.row, size))) f,
      omega (arith, w.2, c.in_ok-node.ensures.counted),
      λ _. f.2,
    )

size : (c : After-rows) → c.row-row.result ≡ FAN ^ c.self.invariant.0
size c = let v = c.self.invariant in c.row-row.ensures.row ∙ row_size v.0 c.self.inside.nodes _ v.3 c.self.view_is

last : (c : After-rows) → FAN ^ c.self.invariant.0 ≤ c.rows.node
last c = omega (arith, size c)

pub returns-clause-first : goal.returns-clause-first
returns-clause-first c =
    let v = c.self.invariant in
    let w = c.rows.invariant v.0 v.3 in
    let rows = (goal.at.returns-clause-first c).After-rows in
    let f = row_first v.0 w.0 c.rows.node c.args.rank c.self.inside.nodes v.3 v.1 w.1 (last rows) in
    let end = row_last v.0 w.0 c.rows.node w.1.row w.1.down (last rows) in
    let read : slice_index c.self.inside.nodes c.rows.node ≡ c.rows.held = sym (w.3 (omega (arith, end, v.1))) in
    let Q : List ℕ → Type 0 = λ rs. IsFirstRank rs c.args.rank (Some (c.rows.node - c.row-row.result, c.rows.held)) in
    subst Q (row_seen v.0 c.self.inside.nodes _ v.3 c.self.view_is) (rw (size rows, ← read) f)

pub returns-clause-counted : goal.returns-clause-counted
returns-clause-counted c d long =
    let v = c.self.invariant in
    let w = c.rows.invariant v.0 v.3 in
    omega (arith, w.2, w.1.down, row_told v.0 d _ _ v.3 c.self.view_is long)

pub returns-clause-read : goal.returns-clause-read
returns-clause-read c =
    let v = c.self.invariant in
    let w = c.rows.invariant v.0 v.3 in
    omega (arith, w.2, v.1, row_last v.0 w.0 c.rows.node w.1.row w.1.down (last (goal.at.returns-clause-read c).After-rows))
