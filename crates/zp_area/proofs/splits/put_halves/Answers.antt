use Rattle.std.proofs.Common.{suc, ◌≡◌, ◌+◌, ◌-◌, ◌^◌, refl, sym, ◌∙◌, ap, arith}
use Rattle.zp_model.proofs.Heads.{two}
use Rattle.zp_area.specs.Blocks.{Blocks, added}
use Rattle.zp_area.specs.Chains.{halves_added}
use Rattle.zp_area.specs.KeptSets.{set_of}
use Rattle.zp_area.specs.declared.kept_blocks.KeptBlocks.{KeptBlocks}
use Rattle.zp_area.proofs.Adding.{IsComing, coming_loose}
use Rattle.zp_area.proofs.Halves.{high_coming, high_kind, high_list, high_page, low_coming}
use Rattle.zp_area.proofs.splits.put_halves.Goals.{After-put_half}
use Rattle.zp_area.proofs.splits.put_halves.Goals as goal

pub overflow_sub-list : goal.overflow_sub-list
overflow_sub-list c = omega (arith, c.requires.list, c.lower-order.ensures)

pub halves-init : goal.halves-init
halves-init c =
    let m = c.args.blocks.now.largest in
    let a : Blocks = set_of c.args.blocks.now in
    let up : c.args.from ≡ c.lower-order.result + 1 = sym c.lower-order.ensures in
    let steps : c.args.from - (c.args.to + 1) ≡ c.lower-order.result - c.args.to = omega (arith, c.lower-order.ensures) in
    let x : IsComing c.args.blocks.now.largest a c.args.at c.args.from = record { one = c.requires.one; block = c.requires.block; clear = c.requires.clear } in
    record {
      down = omega (arith, c.requires.down, c.lower-order.ensures);
      coming = rw up at x;
      pages = c.pages-pages.ensures.pages;
      list = omega (arith, c.requires.list, c.lower-order.ensures);
      after = ap (halves_added c.args.blocks.now.largest a c.args.at (c.args.to + 1)) (sym steps);
    }

pub overflow_sub-list-in-halves : goal.overflow_sub-list-in-halves
overflow_sub-list-in-halves c = omega (arith, c.halves.invariant.list, c.lower-order-in-halves.ensures)

pub put_half-requires-clause-list : goal.put_half-requires-clause-list
put_half-requires-clause-list c = rw c.halves.invariant.list (high_list c.halves.order c.halves.invariant.coming c.args.kind)

pub put_half-requires-clause-page : goal.put_half-requires-clause-page
put_half-requires-clause-page c = high_page c.halves.order c.halves.invariant.coming

pub put_half-requires-clause-loose : goal.put_half-requires-clause-loose
put_half-requires-clause-loose c = coming_loose (high_coming c.halves.order c.halves.invariant.coming)

-- the half that is put is added
put : (c : After-put_half) → record (set_of c.args.blocks.now) { rows = c.put_half.new.lists } ≡ added c.args.blocks.now.largest (record (set_of c.args.blocks.now) { rows = c.halves.lists }) (c.args.at + 2 ^ c.halves.order) c.halves.order
put c = rw (c.put_half.ensures, c.halves.invariant.list, high_kind c.halves.order c.halves.invariant.coming c.args.kind c.requires.typed) refl

pub halves-preserved : goal.halves-preserved
halves-preserved c =
    let i = c.halves.invariant in
    let b : Blocks = record (set_of c.args.blocks.now) { rows = c.halves.lists } in
    let e = put (goal.at.halves-preserved c).After-put_half in
    let steps : c.halves.order - c.args.to ≡ suc (c.lower-order-in-halves.result - c.args.to) = omega (arith, c.lower-order-in-halves.ensures, c.halves-test.true) in
    let here : c.args.to + 1 + (c.lower-order-in-halves.result - c.args.to) ≡ c.halves.order = omega (arith, c.lower-order-in-halves.ensures, c.halves-test.true) in
    record {
      down = omega (arith, c.lower-order-in-halves.ensures, c.halves-test.true);
      coming = rw (e, c.lower-order-in-halves.ensures) (low_coming c.halves.order i.coming);
      pages = omega (arith, i.pages, ap (λ n. 2 ^ n) (sym c.lower-order-in-halves.ensures), two c.lower-order-in-halves.result);
      list = omega (arith, i.list, c.lower-order-in-halves.ensures);
      after =
          rw e (ap (λ q. halves_added c.args.blocks.now.largest (added c.args.blocks.now.largest b (c.args.at + 2 ^ q) q) c.args.at (c.args.to + 1) (c.lower-order-in-halves.result - c.args.to)) (sym here)
          ∙ ap (halves_added c.args.blocks.now.largest b c.args.at (c.args.to + 1)) (sym steps) ∙ i.after);
    }

pub returns-clause-list : goal.returns-clause-list
returns-clause-list c = let e : c.halves.order ≡ c.args.to = omega (arith, c.halves.invariant.down, c.halves-test.false) in rw e at c.halves.invariant.list

pub returns-clause-after : goal.returns-clause-after
returns-clause-after c =
    let i = c.halves.invariant in
    let b : Blocks = record (set_of c.args.blocks.now) { rows = c.halves.lists } in
    let none : 0 ≡ c.halves.order - c.args.to = omega (arith, i.down, c.halves-test.false) in
    let all : b ≡ halves_added c.args.blocks.now.largest (set_of c.args.blocks.now) c.args.at (c.args.to + 1) (c.args.from - (c.args.to + 1)) = ap (halves_added c.args.blocks.now.largest b c.args.at (c.args.to + 1)) none ∙ i.after in
    ap (λ (q : Blocks). let k : KeptBlocks = record c.args.blocks.now { lists = q.rows } in k) all
