use Rattle.std.proofs.Common.{◌≡◌, length, arith}
use Rattle.std.proofs.lemmas.Grind.{common_steps}
use Rattle.zp_shared.proofs.Opening.{at_next, many_more, one_over}
use Rattle.zp_shared.specs.Rows.{no_board, opened_board, opened_key}
use Rattle.zp_share.specs.Shares.{no_key}
use Rattle.zp_shared.proofs.Places.{row_more}
use Rattle.zp_shared.proofs.row.share_zones.Goals as goal

pub new-requires-clause-key : goal.new-requires-clause-key
new-requires-clause-key g c =
    let at : c.len-place.result ≡ length c.loop-zone.yielded = grind (arith, common_steps) in
    at_next opened_key c.args.opened.items c.loop-zone.yielded _ _ c.in-Some.zone g.J.Naming.zones c.len-place.result no_key c.requires.keys c.loop-zone.invariant.whole c.in-Some.ensures.steps.0 at

pub new-requires-clause-board : goal.new-requires-clause-board
new-requires-clause-board g c =
    let at : c.len-place.result ≡ length c.loop-zone.yielded = grind (arith, common_steps) in
    at_next opened_board c.args.opened.items c.loop-zone.yielded _ _ c.in-Some.zone g.J.Naming.boards c.len-place.result no_board c.requires.boards c.loop-zone.invariant.whole c.in-Some.ensures.steps.0 at

pub loop-zone-preserved : goal.loop-zone-preserved
loop-zone-preserved g c =
    let i = c.loop-zone.invariant in
    let p = c.push_reserved.ensures in
    let at : c.new.result ≡ length c.loop-zone.yielded = grind (arith, common_steps) in
    record {
      places = row_more c.loop-zone.row.items _ c.new.result c.loop-zone.yielded c.in-Some.zone i.places at p.items;
      many = many_more c.loop-zone.row.items _ c.new.result c.loop-zone.yielded c.in-Some.zone i.many p.items;
      whole = one_over c.loop-zone.yielded _ _ _ _ i.whole c.in-Some.ensures.steps.0;
      room = omega (arith, i.room, p.capacity);
    }
