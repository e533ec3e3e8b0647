use Rattle.std.proofs.Common.{◌≡◌, length, true, sym, ap, ◌∙◌, arith, rules}
use Rattle.zp_board.proofs.Steps.{opens}
use Rattle.zp_board.proofs.board.WordPublisher.publish.Goals as goal

pub store-requires : goal.store-requires
store-requires g c =
    let w = c.write.ensures in
    let row = c.board.inside.row.shared in
    let stores : c.write.new.pin.me.0.stores ≡ true = ap (λ m. m.0.stores) w.me ∙ c.self.invariant.1 in
    let number : length c.write.new.pin.me.0.entries ≡ c.self.inside.published = ap (λ m. length m.0.entries) w.me ∙ c.self.invariant.4 in
    let whole : length c.write.new.pin.me.0.next ≡ g.row.W = ap (λ m. length m.0.next) w.me ∙ (search rules) in (
      w.tie ∙ ap (λ p. p.tie) c.self.view_is ∙ c.requires.tie ∙ sym (ap (λ b. b.tie) c.board.view_is),
      omega (arith, c.board.invariant.1),
      opens g.row.W row.key row.table_id.slots c.write.new.pin.id c.write.new.pin.me _ stores (omega (arith, number)) whole,
    )

pub overflow_add-self : goal.overflow_add-self
overflow_add-self g c =
    omega (arith, c.self.invariant.4, c.requires.room, ap (λ p. length p.published) c.self.view_is, ap (λ b. b.capacity) c.board.view_is, c.board.invariant.2)
