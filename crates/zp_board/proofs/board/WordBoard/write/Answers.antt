use Rattle.std.proofs.Common.{◌≡◌, ◌+◌, ◌<◌, ◌≤◌, length, true, sym, ap, ◌∙◌, arith, rules}
use Rattle.std.proofs.lemmas.List.{length-take-le}
use Rattle.zp_board.proofs.Words.{inside_row, next_at}
use Rattle.zp_board.proofs.Steps.{writes}
use Rattle.zp_board.proofs.board.WordBoard.write.Goals as goal

pub overflow_add-at : goal.overflow_add-at
overflow_add-at g c =
    let row = c.self.inside.row.shared in
    let room : length c.args.pin.now.me.0.entries ≤ c.self.inside.capacity = omega (arith, c.requires.room, ap (λ b. b.capacity) c.self.view_is) in
    let inside : c.args.at + c.loop-k.k < row.table_id.words = inside_row g.row.W _ _ _ _ _ room c.self.invariant.1 c.requires.at c.loop-k-test.true in
    search (rules, inside)

pub store-requires : goal.store-requires
store-requires g c =
    let i = c.loop-k.invariant in
    let row = c.self.inside.row.shared in
    let room : length c.args.pin.now.me.0.entries ≤ c.self.inside.capacity = omega (arith, c.requires.room, ap (λ b. b.capacity) c.self.view_is) in
    let inside : c.args.at + c.loop-k.k < row.table_id.words = inside_row g.row.W _ _ _ _ _ room c.self.invariant.1 c.requires.at c.loop-k-test.true in
    let same : length c.loop-k.pin.me.0.entries ≡ length c.args.pin.now.me.0.entries = ap (λ m. length m.0.entries) i.me in
    let far : length c.loop-k.pin.me.0.next ≡ c.loop-k.k = ap (λ m. length m.0.next) i.me ∙ length-take-le c.loop-k.k c.args.entry.now (search rules) in
    let stores : c.loop-k.pin.me.0.stores ≡ true = ap (λ m. m.0.stores) i.me ∙ c.requires.stores in (
      i.tie ∙ c.requires.tie ∙ sym (ap (λ b. b.tie) c.self.view_is),
      inside,
      writes g.row.W row.key row.table_id.slots c.loop-k.pin.id c.loop-k.pin.me _ _ stores (next_at g.row.W _ _ _ _ _ c.requires.at same far) (omega (arith, inside, c.self.invariant.0)),
    )
