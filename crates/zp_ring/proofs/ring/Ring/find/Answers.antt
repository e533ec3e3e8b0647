use Rattle.std.proofs.Common.{◌≡◌, ◌+◌, ◌-◌, ◌<◌, length, true, sym, ap, ◌∙◌, arith}
use Rattle.std.proofs.lemmas.List.{ext_get_or}
use Rattle.zp_ring.proofs.Steps.{finds}
use Rattle.zp_ring.proofs.ring.Ring.find.Goals as goal

pub load-requires : goal.load-requires
load-requires g c =
    let i = c.loop-k.invariant in
    let row = c.self.inside.row.shared in
    let long : row.table_id.words ≡ c.args.self.now.tie.words = ap (λ b. b.tie.words) c.self.view_is in
    let inside : c.start_of-start.result + c.loop-k.k < row.table_id.words = omega (arith, c.start_of-start.ensures.inside, long, c.loop-k-test.true) in
    let stores : c.loop-k.pin.me.0.stores ≡ true = ap (λ m. m.0.stores) i.me ∙ c.requires.stores in (
      i.tie ∙ c.requires.tie ∙ sym (ap (λ b. b.tie) c.self.view_is),
      inside,
      finds g.row.W g.row.S row.table_id.slots c.loop-k.pin.id c.loop-k.pin.me _ stores,
    )

pub returns-clause-words : goal.returns-clause-words
returns-clause-words g c =
    let i = c.loop-k.invariant in
    let last : length c.args.pin.now.me.0.entries - 1 < length c.args.pin.now.me.0.entries = omega (arith, c.requires.place) in
    ext_get_or 0 _ _ (i.long ∙ sym (c.requires.wide _ last))
    (λ j lt. i.words j (omega (arith, lt, i.long, c.loop-k-test.false)))
