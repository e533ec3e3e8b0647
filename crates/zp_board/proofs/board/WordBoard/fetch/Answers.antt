use Rattle.std.proofs.Common.{◌≡◌, ◌+◌, ◌*◌, ◌≤◌, length, true, sym, ap, ◌∙◌, arith}
use Rattle.std.proofs.lemmas.List.{ext_get_or}
use Rattle.zp_board.proofs.Words.{inside_seen}
use Rattle.zp_board.proofs.Steps.{fetches}
use Rattle.zp_board.proofs.board.WordBoard.fetch.Goals as goal

pub load-requires : goal.load-requires
load-requires g c =
    let i = c.loop-k.invariant in
    let row = c.self.inside.row.shared in
    let long : row.table_id.words ≡ c.args.self.now.tie.words = ap (λ b. b.tie.words) c.self.view_is in
    let all : g.row.W * length c.args.pin.now.me.0.seen + 1 ≤ row.table_id.words = omega (arith, c.requires.inside, long) in
    let reads : c.loop-k.pin.me.0.reads ≡ true = ap (λ m. m.0.reads) i.me ∙ c.requires.reads in (
      i.tie ∙ c.requires.tie ∙ sym (ap (λ b. b.tie) c.self.view_is),
      inside_seen g.row.W _ _ _ _ c.requires.seen all c.loop-k-test.true,
      fetches g.row.W row.key row.table_id.slots c.loop-k.pin.id c.loop-k.pin.me _ reads,
    )

pub returns-clause-entry : goal.returns-clause-entry
returns-clause-entry g c =
    let i = c.loop-k.invariant in
    ext_get_or 0 _ _ (i.long ∙ sym (c.requires.wide c.args.place c.requires.seen))
    (λ j lt. i.words j (omega (arith, lt, i.long, c.loop-k-test.false)))
