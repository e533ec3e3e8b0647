use Rattle.std.proofs.Common.{ℕ, ◌+◌, ◌-◌, ◌*◌, ◌^◌, ◌≡◌, inl, inr, ap, subst, sym, arith, rules}
use Rattle.std.proofs.lemmas.Bool.{cases_eq}
use Rattle.std.proofs.lemmas.Nat.{pow_pos}
use Rattle.zp_tree.specs.Words.{node, IsRow}
use Rattle.zp_tree.proofs.Nodes.{node_within, node_below}
use Rattle.zp_tree.proofs.Rows.{level_inside, row_none, row_first}
use Rattle.zp_tree.proofs.word.Word.largest_in.Goals.{After-row_below}
use Rattle.zp_tree.proofs.word.Word.largest_in.Goals as goal

pub levels-init : goal.levels-init
levels-init c q k h from to = omega (arith, level_inside c.args.place c.args.level q k from to)

pub row_below-requires-clause-node : goal.row_below-requires-clause-node
row_below-requires-clause-node c =
    let d = c.levels.down in
    let l = c.args.level in
    let pos = pow_pos d in
    let e : (l - d) + d ≡ l = omega arith in
    let b = node_below c.args.place l (l - d) d (2 ^ d - 1) c.requires e (omega (arith, pos)) in
    let n : node c.args.place l * 2 ^ d ≡ c.node_of-node.result * 2 ^ d = ap (λ n. n * 2 ^ d) (sym c.node_of-node.ensures.node) in
    (c.node_of-node.ensures.within.0, omega (arith, b.1, n, pos, (node_within _ _ b.0).1))

row : (c : After-row_below) → IsRow c.args.self (node c.args.place c.args.level) (c.args.level - (c.args.level - c.levels.down)) c.row_below.result
row c =
    let P : ℕ → Type 0 = λ d. IsRow c.args.self c.node_of-node.result d c.row_below.result in
    let e : c.levels.down ≡ c.args.level - (c.args.level - c.levels.down) = omega arith in
    rw (← c.node_of-node.ensures.node) (subst P e c.row_below.ensures)

pub returns-then-row_below-ne0 : goal.returns-then-row_below-ne0
returns-then-row_below-ne0 c =
    let f = row_first c.args.self c.args.place c.args.level (c.args.level - c.levels.down) _ c.requires (omega arith) (row (goal.at.returns-then-row_below-ne0 c).After-row_below) (omega arith) (search rules) in
    ((_, f.1, omega arith, f.2), λ q k h from to. omega (arith, c.levels.invariant q k h from to))

pub levels-preserved : goal.levels-preserved
levels-preserved c q k h from to =
    let r = row (goal.at.levels-preserved c).After-row_below in
    elim (cases_eq k (c.args.level - c.levels.down)) [
      | inl same ↦ absurd (row_none c.args.self c.args.place c.args.level k c.row_below.result q c.requires (omega arith) (rw same r) (omega arith) h from to)
      | inr ne ↦ omega (arith, c.levels.invariant q k h from to, ne)
    ]

pub returns-else-row_below-ne0 : goal.returns-else-row_below-ne0
returns-else-row_below-ne0 c q k h from to =
    let r = row (goal.at.returns-else-row_below-ne0 c).After-row_below in
    elim (cases_eq k (c.args.level - c.levels.down)) [
      | inl same ↦ row_none c.args.self c.args.place c.args.level k c.row_below.result q c.requires (omega arith) (rw same r) (omega arith) h from to
      | inr ne ↦ absurd (omega (arith, c.levels.invariant q k h from to, ne))
    ]
