use Rattle.std.proofs.Common.{◌≡◌, drop}
use Rattle.zp_model.specs.BlockSet.{first_of}
use Rattle.zp_plain.specs.Chosen.{front_at}
use Rattle.zp_plain.proofs.choose.front_of.Given as goal

-- what is looked for is of one of the types from the index on
abbrev pub invariant-kinds : goal.invariant-kinds
invariant-kinds l = first_of (front_at l.area l.order) l.kinds ≡ first_of (front_at l.area l.order) (drop l.kind-index l.kinds)
