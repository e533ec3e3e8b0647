use Rattle.std.proofs.Common.{List, ℕ, ◌∙◌, subst, sym}
use Rattle.zp_open_gate.specs.Rooms.{IsKnownAs}
use Rattle.zp_open_gate.proofs.Keys.{opening_known}
use Rattle.zp_open_gate.proofs.open_row.opening.opened_lock.Goals as goal

pub new-requires-3-clause-known : goal.new-requires-3-clause-known
new-requires-3-clause-known c =
    let config = c.args.config.now in let made = c.in_ok-room.ensures in
    let named = c.in-Some.ensures.some ∙ c.as_bytes.ensures.value in
    subst (λ (name : List ℕ). IsKnownAs (record { name = name; base = config.base; pages = config.pages; min = config.min; largest = config.largest }) c.in_ok-room.room) (sym named)
    (opening_known c.in_ok-room.room config.name.now config.largest config.base config.pages config.min made.zone made.worker)
