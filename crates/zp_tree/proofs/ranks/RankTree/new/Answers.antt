use Rattle.std.proofs.Common.{ℕ, ◌+◌, ◌*◌, ◌/◌, ◌^◌, ◌≡◌, ◌∙◌, inl, inr, ap, subst, sym, arith, replicate, length, drop, slice_index, List}
use Rattle.std.proofs.lemmas.Bool.{cases_eq, cases_lt}
use Rattle.std.proofs.lemmas.List.{length-drop, length-replicate}
use Rattle.zp_tree.specs.declared.constants.TheConstants.{FAN}
use Rattle.zp_tree.specs.RankRows.{IsRanked}
use Rattle.zp_tree.proofs.RankNodes.{eight_of, row_pos}
use Rattle.zp_tree.proofs.RankRow.{no_ranks, no_ranks_row}
use Rattle.zp_tree.proofs.ranks.RankTree.new.Goals.{In_ok-nodes}
use Rattle.zp_tree.proofs.ranks.RankTree.new.Goals as goal

pub rows-init : goal.rows-init
rows-init c = (1, omega arith, omega arith, omega arith, λ e pos lt. absurd (omega arith))

pub rows-preserved : goal.rows-preserved
rows-preserved c =
    let v = c.rows.invariant in (
      v.0 + 1,
      omega arith,
      omega (arith, v.2, eight_of v.0),
      omega (arith, c.requires),
      λ e pos lt. elim (cases_eq e v.0) [
        | inl same ↦ omega (arith, v.2, ap (λ d. FAN ^ d) same)
        | inr ne ↦ v.4 e pos (omega arith)
      ],
    )

pub rows-smaller : goal.rows-smaller
rows-smaller c = omega (arith, c.rows.invariant.2, row_pos c.rows.invariant.0)

items : (c : In_ok-nodes) → c.in_ok-nodes.nodes ≡ replicate (2 * c.rows.first) 0
items c = c.in_ok-nodes.ensures ∙ ap (replicate (2 * c.rows.first)) c.none.ensures

size : (c : In_ok-nodes) → length c.in_ok-nodes.nodes ≡ 2 * c.rows.first
size c = ap length (items c) ∙ length-replicate (2 * c.rows.first) 0

pub invariant_of-result : goal.invariant_of-result
invariant_of-result c =
    let v = c.rows.invariant in
    let P : List ℕ → Type 0 = λ ns. IsRanked v.0 ns in
    (v.0, v.1, omega (arith, v.2, v.3), subst P (sym (items (goal.at.invariant_of-result c).In_ok-nodes)) (no_ranks v.0 (2 * c.rows.first) (omega (arith, v.2))))

pub returns-clause-row : goal.returns-clause-row
returns-clause-row c =
    let v = c.rows.invariant in
    record {
      d = v.0;
      below = v.1;
      row = omega (arith, length-drop (length c.in_ok-nodes.nodes / 2) c.in_ok-nodes.nodes, size (goal.at.returns-clause-row c).In_ok-nodes, v.2);
      room = omega (arith, v.2);
      least = λ e pos room. elim (cases_lt e v.0) [ inl lt ↦ absurd (omega (arith, v.4 e pos lt, room)) | inr ge ↦ ge ];
    }

pub returns-clause-none : goal.returns-clause-none
returns-clause-none c g =
    let P : List ℕ → Type 0 = λ ns. slice_index (drop (length ns / 2) ns) g ≡ 0 in
    subst P (sym (items (goal.at.returns-clause-none c).In_ok-nodes)) (no_ranks_row _ (2 * c.rows.first) g)
