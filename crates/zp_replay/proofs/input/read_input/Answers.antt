use Rattle.std.proofs.Common.{arith, ◌≡◌, length}
use Rattle.zp_replay.specs.declared.input.TheConstants.{INPUT_LIMIT}
use Rattle.zp_replay.proofs.Reading.{read-filled, take-front}
use Rattle.zp_replay.proofs.input.read_input.Goals as goal

pub returns-clause-ok : goal.returns-clause-ok
returns-clause-ok g c =
    let size : length c.fill.new.buffer ≡ INPUT_LIMIT = omega (arith, c.fill.auto.buffer, c.deref_mut.ensures.len, c.in_ok-text.ensures) in
    let full : length c.fill.new.buffer ≡ c.in_ok-text.text.len = omega (arith, c.fill.auto.buffer, c.deref_mut.ensures.len) in
    read-filled _ _ _ _ _ c.in-Ok.ensures.ok size (take-front _ _ _ _ _ full c.truncate.ensures.items)
