use Rattle.std.proofs.Common.{◌≡◌, drop}
use Rattle.zp_model.specs.BlockSet.{first_of}
use Rattle.zp_plain.specs.Chosen.{claimable_at}
use Rattle.zp_plain.proofs.choose.claimable_of.Given as goal

-- what is looked for is of one of the types from the index on
abbrev pub invariant-kinds : goal.invariant-kinds
invariant-kinds l =
    first_of (claimable_at l.area l.kind l.order) l.kinds ≡ first_of (claimable_at l.area l.kind l.order) (drop l.from-index l.kinds)
