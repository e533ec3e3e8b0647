use Rattle.zp_replay_tests.proofs.Schedules.{due_at}
use Rattle.zp_replay_tests.proofs.memory.Schedule.after.Goals as goal

pub returns-clause-due : goal.returns-clause-due
returns-clause-due c k = due_at k c.args.calls
