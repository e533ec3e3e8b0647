use Rattle.std.proofs.Common.{◌≡◌, min}
use Rattle.std.specs.Int.Bits.{bit_and}
use Rattle.zp_model.proofs.Buddies.{common_bits}
use Rattle.zp_area.proofs.joins.take_buddy.Goals.{After-take_out}
use Rattle.zp_area.proofs.joins.take_buddy.Goals as goal

pub take_out-requires-clause-page : goal.take_out-requires-clause-page
take_out-requires-clause-page c = (c.requires.listed _ _ c.buddy-buddy.ensures).0

-- the head of the double
common : (c : After-take_out) → bit_and c.args.at c.buddy-buddy.result ≡ min c.args.at c.buddy-buddy.result
common c = common_bits c.args.at c.args.order c.buddy-buddy.result _ c.requires.aligned c.buddy-buddy.ensures

pub returns : goal.returns
returns c = (
  c.buddy-buddy.result,
  rw (c.at.ensures, c.number.ensures.same, c.number-2.ensures.same, common (goal.at.returns c).After-take_out) c.buddy-buddy.ensures,
  c.take_out.ensures,
)
