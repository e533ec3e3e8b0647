use Rattle.std.proofs.Common.{◌≡◌, ◌+◌, ◌<◌, length, true, sym, ap, ◌∙◌, arith, rules}
use Rattle.std.proofs.lemmas.List.{length-take-le}
use Rattle.zp_ring.specs.Rings.{word_at}
use Rattle.zp_ring.proofs.Steps.{opens, writes}
use Rattle.zp_ring.proofs.ring.Ring.put.Goals as goal

pub store-requires : goal.store-requires
store-requires g c =
    let i = c.loop-k.invariant in
    let row = c.self.inside.row.shared in
    let long : row.table_id.words ≡ c.args.self.now.tie.words = ap (λ b. b.tie.words) c.self.view_is in
    let inside : c.start_of-start.result + c.loop-k.k < row.table_id.words = omega (arith, c.start_of-start.ensures.inside, long, c.loop-k-test.true) in
    let some_ : 0 < g.row.S = omega (arith, c.self.invariant.1) in
    let place : c.args.place ≡ length c.loop-k.pin.me.0.entries = c.requires.place ∙ sym (ap (λ m. length m.0.entries) i.me) in
    let far : length c.loop-k.pin.me.0.next ≡ c.loop-k.k = ap (λ m. length m.0.next) i.me ∙ length-take-le c.loop-k.k c.args.entry.now (search rules) in
    let stores : c.loop-k.pin.me.0.stores ≡ true = ap (λ m. m.0.stores) i.me ∙ c.requires.stores in
    let here : c.start_of-start.result + c.loop-k.k ≡ word_at g.row.W g.row.S c.args.place c.loop-k.k = omega (arith, c.start_of-start.ensures.start) in (
      i.tie ∙ c.requires.tie ∙ sym (ap (λ b. b.tie) c.self.view_is),
      inside,
      writes g.row.W g.row.S row.table_id.slots c.loop-k.pin.id c.loop-k.pin.me _ _ some_ stores (here ∙ (λ j. word_at g.row.W g.row.S (place j) (sym far j))) (omega (arith, far, c.loop-k-test.true)),
    )

pub store-requires-2 : goal.store-requires-2
store-requires-2 g c =
    let i = c.loop-k.invariant in
    let row = c.self.inside.row.shared in
    let some : 0 < row.table_id.words = omega (arith, c.self.invariant.0) in
    let place : c.args.place ≡ length c.loop-k.pin.me.0.entries = c.requires.place ∙ sym (ap (λ m. length m.0.entries) i.me) in
    let stores : c.loop-k.pin.me.0.stores ≡ true = ap (λ m. m.0.stores) i.me ∙ c.requires.stores in
    let whole : length c.loop-k.pin.me.0.next ≡ g.row.W = ap (λ m. length m.0.next) i.me ∙ (search rules) in (
      i.tie ∙ c.requires.tie ∙ sym (ap (λ b. b.tie) c.self.view_is),
      some,
      opens g.row.W g.row.S row.table_id.slots c.loop-k.pin.id c.loop-k.pin.me _ stores place whole,
    )
