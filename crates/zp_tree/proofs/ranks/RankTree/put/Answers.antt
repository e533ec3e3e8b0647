use Rattle.std.proofs.Common.{◌+◌, ◌/◌, ◌^◌, ◌≡◌, ◌∙◌, ap, arith, drop, length, set, slice_index}
use Rattle.std.proofs.lemmas.List.{drop-set-add}
use Rattle.zp_tree.specs.declared.constants.TheConstants.{FAN}
use Rattle.zp_tree.specs.RankRows.{IsRanked, IsInRow, IsMended}
use Rattle.zp_tree.proofs.RankNodes.{rank_written, rank_lowered, rank_raised}
use Rattle.zp_tree.proofs.RankRow.{group_row, group_read, row_half, row_seen, row_size}
use Rattle.zp_tree.proofs.ranks.RankTree.put.Goals.{After-row, After-settle}
use Rattle.zp_tree.proofs.ranks.RankTree.put.Goals as goal

-- the group's node
at : (c : After-row) → IsInRow c.self.invariant.0 (c.row.result + c.args.group)
at c = let v = c.self.invariant in group_row v.0 _ _ c.self.inside.nodes _ v.3 c.self.view_is c.row.ensures.row c.requires.group

pub write-requires : goal.write-requires
write-requires c = omega (arith, (at (goal.at.write-requires c).After-row).to, c.self.invariant.3.size)

-- what the nodes held at the group's node
held : (c : After-row) → slice_index c.self.inside.nodes (c.row.result + c.args.group) ≡ slice_index c.args.self.now c.args.group
held c = let v = c.self.invariant in group_read v.0 _ c.args.group c.self.inside.nodes _ v.3 c.self.view_is c.row.ensures.row

pub settle-requires-clause-up : goal.settle-requires-clause-up
settle-requires-clause-up c up =
    let v = c.self.invariant in
    let x = c.row.result + c.args.group in
    let self = (goal.at.settle-requires-clause-up c).After-row in
    let row = at self in
    rw c.write.ensures (record {
      d = v.0;
      row = row;
      but = rank_written v.0 x c.args.rank c.self.inside.nodes v.3 row;
      next = λ _. rank_raised v.0 x c.args.rank c.self.inside.nodes v.3 row v.1 (omega (arith, held self, c.requires.up up));
    })

pub settle-requires-clause-down : goal.settle-requires-clause-down
settle-requires-clause-down c down =
    let v = c.self.invariant in
    let x = c.row.result + c.args.group in
    let self = (goal.at.settle-requires-clause-down c).After-row in
    let row = at self in
    rw c.write.ensures (record {
      d = v.0;
      row = row;
      but = rank_written v.0 x c.args.rank c.self.inside.nodes v.3 row;
      most = λ _. rank_lowered v.0 x c.args.rank c.self.inside.nodes v.3 row v.1 (omega (arith, held self, c.requires.down down));
    })

mended : (c : After-settle) → IsRanked c.self.invariant.0 c.settle.new.nodes × (drop (length c.settle.new.nodes / 2) c.settle.new.nodes ≡ set c.args.self.now c.args.group c.args.rank)
mended c =
    let v = c.self.invariant in
    let f = FAN ^ v.0 in
    let g = c.args.group in
    let ns = c.self.inside.nodes in
    let ms = c.settle.new.nodes in
    let row = at (goal.at.After-settle c).After-row in
    let after : IsMended (set ns (c.row.result + g) c.args.rank) ms (c.row.result + g) = rw c.write.ensures at c.settle.ensures in
    let m = after v.0 row (rank_written v.0 (c.row.result + g) c.args.rank ns v.3 row) in
    let size : c.row.result ≡ f = c.row.ensures.row ∙ row_size v.0 ns _ v.3 c.self.view_is in
    let last : drop f ms ≡ drop f (set ns (f + g) c.args.rank) = m.1 ∙ ap (λ n. drop f (set ns (n + g) c.args.rank)) size in
    (m.0, ap (λ n. drop n ms) (row_half v.0 ms m.0) ∙ last ∙ drop-set-add f ns g c.args.rank ∙ ap (λ rs. set rs g c.args.rank) (row_seen v.0 ns _ v.3 c.self.view_is))

pub invariant_of-self : goal.invariant_of-self
invariant_of-self c = let v = c.self.invariant in (v.0, v.1, v.2, (mended (goal.at.invariant_of-self c).After-settle).0)

pub returns : goal.returns
returns c = (mended (goal.at.returns c).After-settle).1
