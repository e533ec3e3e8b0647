use Rattle.std.proofs.Common.{◌≡◌, drop}
use Rattle.zp_buddy.specs.Choices.{half_free_of_order}
use Rattle.zp_buddy.proofs.choice.half_free_of.Given as goal

-- what is looked for is of one of the types from the index on
abbrev pub invariant-kinds : goal.invariant-kinds
invariant-kinds l = half_free_of_order l.area.largest l.area l.kinds l.order ≡ half_free_of_order l.area.largest l.area (drop l.kind-index l.kinds) l.order
