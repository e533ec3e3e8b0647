use Rattle.std.proofs.Common.{◌<◌, arith}
use Rattle.zp_tree.proofs.Spelling.{tree_in}
use Rattle.zp_tree.proofs.TreeReads.{bare_ranked, block_ranked}
use Rattle.zp_tree.proofs.tree.OrderTree.bare_until.Goals as goal

pub returns-clause-bare : goal.returns-clause-bare
returns-clause-bare c = bare_ranked _ _ _ _ _ _ _ c.args.order c.args.group c.first_from.result (tree_in _ _ _ _ _ _ _ c.self.view_is c.self.invariant) (λ h from to. omega (arith, c.first_from.ensures.less h from to, c.of.ensures))

pub first_from-requires-clause-inside : goal.first_from-requires-clause-inside
first_from-requires-clause-inside c = omega (arith, c.self.invariant.rows)

pub returns-then-end-group-clause-stops : goal.returns-then-end-group-clause-stops
returns-then-end-group-clause-stops c = λ below.
    let t = tree_in _ _ _ _ _ _ _ c.self.view_is c.self.invariant in
    absurd (omega (arith, below, t.pages_of, t.room, c.len-end.ensures, c.if-end-group.true))

pub returns-clause-stops : goal.returns-clause-stops
returns-clause-stops c = λ below.
    let t = tree_in _ _ _ _ _ _ _ c.self.view_is c.self.invariant in
    let within : c.first_from.result < c.len-end.result = omega (arith, below, t.pages_of, t.room, c.len-end.ensures) in
    block_ranked c.args.self.now _ c.first_from.result _ c.args.order (t.ranked c.first_from.result) (omega (arith, c.first_from.ensures.enough within, c.of.ensures))
