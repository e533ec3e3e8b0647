-- Which blocks an office's workers have lent.
use Rattle.std.specs.Prelude.{ℕ}
use Rattle.zp_share.specs.PlainShares.{lends, own_at}
use Rattle.zp_office.specs.Offices.{OfficeState, desk_of}
use Rattle.zp_view.specs.States.{Lending}

-- whether the block of order k at absolute page p of zone i is lent to worker w
abbrev pub is_lent_to : OfficeState → ℕ → Lending
is_lent_to o i w p k = lends (own_at (desk_of o w).share i) p k
