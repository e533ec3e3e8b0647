use Rattle.zp_states.proofs.Steps.{replay_opened}
use Rattle.zp_states.proofs.replaying.Replay.open.Goals as goal

pub invariant_of-result : goal.invariant_of-result
invariant_of-result c = replay_opened c.args.trace.now c.in_ok-office.office c.in_ok-office.ensures.office c.requires c.in_ok-office.ensures.turns
