use Rattle.std.proofs.Common.{ℕ, ◌*◌, ◌≡◌, arith, inl, inr, refl, subst}
use Rattle.std.proofs.lemmas.Bool.{cases_lt}
use Rattle.zp_model.specs.BlockSet.{Starts}
use Rattle.zp_tree.specs.declared.constants.TheConstants.{GROUP_ORDER, GROUP_PAGES}
use Rattle.zp_tree.proofs.tree.OrderTree.whole_until.Goals as goal

pub groups-preserved : goal.groups-preserved
groups-preserved c = (
  omega (arith, c.groups.invariant.0),
  omega (arith, c.groups-test.true),
  λ x from to.
      elim (cases_lt x c.groups.next) [
        | inl before ↦ c.groups.invariant.2 x from before
        | inr on ↦
            let same : c.groups.next ≡ x = omega arith in
            let P : ℕ → Type 0 = λ g. Starts c.args.self.now (GROUP_PAGES * g) GROUP_ORDER in
            subst P same (c.if-not-is_whole.ensures.0 refl)
      ],
)
