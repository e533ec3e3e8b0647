use Rattle.std.proofs.Common.{◌≡◌, ◌∷◌}
use Rattle.std.specs.Prelude.{slice_set}
use Rattle.zp_share.specs.ZoneShares.{cached_of}
use Rattle.zp_share.proofs.Closing.{share_of, front_was, front_place, taken_whole, lent_now}
use Rattle.zp_share.proofs.zone_share.ZoneShare.take_cached.Goals as goal

was : (c : goal.After-zero) → cached_of (share_of c.self.inside) c.args.kind ≡ c.in_ok-page.page ∷ c.pop_front.new.self
was c =
    front_was c.self.inside c.args.kind c.number.result c.in_ok-page.page c.index-self-number.result c.pop_front.new.self c.self.invariant c.number.ensures.number c.in_ok-page.ensures.answer c.in_ok-page.ensures.after

pub set-requires : goal.set-requires
set-requires c = front_place c.self.inside c.args.kind c.in_ok-page.page c.pop_front.new.self c.self.invariant (was c)

pub invariant_of-self-2 : goal.invariant_of-self-2
invariant_of-self-2 c =
    taken_whole c.self.inside c.set.new.self c.args.kind c.number.result c.in_ok-page.page c.zero.result c.pop_front.new.self c.self.invariant c.number.ensures.number
    (front_was c.self.inside c.args.kind c.number.result c.in_ok-page.page c.index-self-number.result c.pop_front.new.self c.self.invariant c.number.ensures.number c.in_ok-page.ensures.answer c.in_ok-page.ensures.after)
    c.zero.ensures c.set.ensures

pub returns-clause-lent : goal.returns-clause-lent
returns-clause-lent c =
    lent_now c.self.inside c.set.new.self (slice_set c.self.inside.cached c.number.result c.pop_front.new.self) c.args.kind c.in_ok-page.page c.zero.result 0 c.self.invariant
    (front_place c.self.inside c.args.kind c.in_ok-page.page c.pop_front.new.self c.self.invariant
    (front_was c.self.inside c.args.kind c.number.result c.in_ok-page.page c.index-self-number.result c.pop_front.new.self c.self.invariant c.number.ensures.number c.in_ok-page.ensures.answer c.in_ok-page.ensures.after))
    c.zero.ensures c.set.ensures
