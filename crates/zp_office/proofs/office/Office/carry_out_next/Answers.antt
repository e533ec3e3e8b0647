use Rattle.std.proofs.Common.{◌≡◌, refl, map, arith}
use Rattle.zp_share.specs.Shares.{named_zone}
use Rattle.zp_office.proofs.Bases.{bases_after}
use Rattle.zp_office.proofs.Turns.{IsTurn, desks_after, done_after, next_there}
use Rattle.zp_office.proofs.office.Office.carry_out_next.Goals as goal

pub work_next-requires-clause-next : goal.work_next-requires-clause-next
work_next-requires-clause-next c =
    let place : c.from.result ≡ c.args.worker = omega (arith, c.from.ensures, c.number.ensures.same) in
    next_there c.self.inside.zones c.self.inside.desks.items c.from.result c.args.worker c.index_mut-desk.result.now _ c.args.self.now c.self.view_is place c.requires.worker c.index_mut-desk.ensures.value c.requires.next

turn : (c : goal.After-self-1) →
    IsTurn c.self.inside.zones c.work_next.new.zones c.self.inside.desks.items c.from.result c.args.worker c.index_mut-desk.result.now c.index_mut-desk.result.now c.work_next.new.desk c.args.self.now
turn c = record {
  view = c.self.view_is;
  are = c.self.invariant;
  place = omega (arith, c.from.ensures, c.number.ensures.same);
  there = c.requires.worker;
  desk = c.index_mut-desk.ensures.value;
  keys = c.work_next.ensures.keys;
  fits = c.work_next.ensures.fits;
  answered = c.work_next.ensures.answered;
}

pub invariant_of-self : goal.invariant_of-self
invariant_of-self c = desks_after _ _ _ _ _ _ _ _ _ (turn c)

pub returns-clause-office : goal.returns-clause-office
returns-clause-office c = done_after _ _ _ _ _ _ _ _ _ (turn c) (c.work_next.ensures.told (map named_zone c.self.inside.zones) refl)

pub returns-clause-bases : goal.returns-clause-bases
returns-clause-bases c = bases_after c.self.inside.zones c.work_next.new.zones c.self.inside.desks.items c.args.self.now c.self.view_is c.work_next.ensures.keys
