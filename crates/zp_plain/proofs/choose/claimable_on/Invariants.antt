use Rattle.std.proofs.Common.{◌≡◌, drop}
use Rattle.std.specs.List.{find}
use Rattle.zp_model.specs.Choose.{is_claimable}
use Rattle.zp_plain.proofs.choose.claimable_on.Given as goal

-- what is looked for stands from the index on
abbrev pub invariant-heads : goal.invariant-heads
invariant-heads l =
    find (is_claimable l.area l.kind l.order) l.list ≡ find (is_claimable l.area l.kind l.order) (drop l.head-index l.list)
