use Rattle.zp_states.proofs.Steps.{next_there, stepped_there, worker_there}
use Rattle.zp_states.proofs.replaying.Replay.step.Goals as goal

pub carry_out_next-requires-clause-worker : goal.carry_out_next-requires-clause-worker
carry_out_next-requires-clause-worker c =
    worker_there c.self.inside.trace.now c.self.inside.done c.self.inside.office c.index-commands-self.result c.as_slice-commands.result.now c.self.invariant c.as_slice-commands.ensures c.if-self-commands.false c.index-commands-self.is

pub carry_out_next-requires-clause-next : goal.carry_out_next-requires-clause-next
carry_out_next-requires-clause-next c =
    next_there c.self.inside.trace.now c.self.inside.done c.self.inside.office c.index-commands-self.result c.as_slice-commands.result.now c.self.invariant c.as_slice-commands.ensures c.if-self-commands.false c.index-commands-self.is

pub invariant_of-self : goal.invariant_of-self
invariant_of-self c =
    stepped_there c.self.inside.trace.now c.self.inside.done c.self.inside.office c.carry_out_next.new.self c.index-commands-self.result c.as_slice-commands.result.now c.self.invariant c.as_slice-commands.ensures c.if-self-commands.false c.index-commands-self.is c.carry_out_next.ensures.office c.carry_out_next.ensures.bases
