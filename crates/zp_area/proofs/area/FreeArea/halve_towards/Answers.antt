use Rattle.std.proofs.Common.{ℕ, ◌+◌, ◌≡◌, ◌∙◌, refl, ap, arith}
use Rattle.zp_model.specs.RunLaws.{half_beside}
use Rattle.zp_area.specs.Blocks.{added}
use Rattle.zp_area.proofs.Towards.{IsTowards, half_coming, towards_begins, towards_ends, towards_goes}
use Rattle.zp_area.proofs.area.FreeArea.halve_towards.Goals.{After-half_beside}
use Rattle.zp_area.proofs.area.FreeArea.halve_towards.Goals as goal

pub remove-requires : goal.remove-requires
remove-requires c = rw c.head.ensures c.requires.block

pub halves-init : goal.halves-init
halves-init c = rw (c.remove.ensures, c.head.ensures) (record {
  largest = refl;
  towards = towards_begins c.args.self.now.largest c.args.self.now c.args.at c.args.from c.args.to c.pages-pages.ensures.one c.requires.block c.requires.down;
})

-- what is known with the order of the next half
next : (c : After-half_beside) → IsTowards c.args.self.now.largest c.args.self.now c.halves.self c.args.at c.args.from c.args.to (c.lower-order.result + 1)
next c = rw c.lower-order.ensures c.halves.invariant.towards

pub add-requires-clause-block : goal.add-requires-clause-block
add-requires-clause-block c =
    let before = (goal.at.add-requires-clause-block c).After-half_beside in
    rw (c.halves.invariant.largest, c.half_beside.ensures) (half_coming c.lower-order.result (next before)).block

pub add-requires-clause-clear : goal.add-requires-clause-clear
add-requires-clause-clear c =
    let before = (goal.at.add-requires-clause-clear c).After-half_beside in
    rw (c.halves.invariant.largest, c.half_beside.ensures) (half_coming c.lower-order.result (next before)).clear

pub halves-preserved : goal.halves-preserved
halves-preserved c =
    let before = (goal.at.halves-preserved c).After-half_beside in
    let m : ℕ = c.args.self.now.largest in
    let j : ℕ = c.lower-order.result in
    let e : c.add.new.self ≡ added c.args.self.now.largest c.halves.self (half_beside c.args.at c.lower-order.result) c.lower-order.result =
    c.add.ensures.after ∙ ap (λ n. added n c.halves.self c.half_beside.result j) c.halves.invariant.largest ∙ ap (λ h. added m c.halves.self h j) c.half_beside.ensures in
    rw e (record { largest = c.halves.invariant.largest; towards = towards_goes c.lower-order.result (next before) (omega arith) })

pub returns : goal.returns
returns c =
    let i = c.halves.invariant in
    let same : c.halves.order ≡ c.args.to = omega (arith, i.towards.down) in
    towards_ends c.args.self.now.largest c.args.self.now c.halves.self c.args.at c.args.from c.args.to (rw same at i.towards)
