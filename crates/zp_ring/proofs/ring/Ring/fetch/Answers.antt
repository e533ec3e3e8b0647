use Rattle.std.proofs.Common.{◌≡◌, ◌+◌, ◌<◌, length, true, sym, ap, ◌∙◌, arith}
use Rattle.std.proofs.lemmas.List.{length-take-le}
use Rattle.zp_ring.specs.Rings.{word_at}
use Rattle.zp_ring.proofs.Steps.{fetches}
use Rattle.zp_ring.proofs.ring.Ring.fetch.Goals as goal

pub load-requires : goal.load-requires
load-requires g c =
    let i = c.loop-k.invariant in
    let row = c.self.inside.row.shared in
    let long : row.table_id.words ≡ c.args.self.now.tie.words = ap (λ b. b.tie.words) c.self.view_is in
    let inside : c.start_of-start.result + c.loop-k.k < row.table_id.words = omega (arith, c.start_of-start.ensures.inside, long, c.loop-k-test.true) in
    let from : c.args.place ≡ c.loop-k.pin.me.0.from = c.requires.from ∙ sym (ap (λ m. m.0.from) i.me) in
    let far : length c.loop-k.pin.me.0.got ≡ c.loop-k.k = ap (λ m. length m.0.got) i.me ∙ length-take-le c.loop-k.k c.loop-k.words (omega (arith, i.long, i.within)) in
    let reads : c.loop-k.pin.me.0.reads ≡ true = ap (λ m. m.0.reads) i.me ∙ c.requires.reads in
    let here : c.start_of-start.result + c.loop-k.k ≡ word_at g.row.W g.row.S c.args.place c.loop-k.k = omega (arith, c.start_of-start.ensures.start) in (
      i.tie ∙ c.requires.tie ∙ sym (ap (λ b. b.tie) c.self.view_is),
      inside,
      fetches g.row.W g.row.S row.table_id.slots c.loop-k.pin.id c.loop-k.pin.me _ reads (here ∙ (λ j. word_at g.row.W g.row.S (from j) (sym far j))) (omega (arith, far, c.loop-k-test.true)),
    )
