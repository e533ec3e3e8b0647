use Rattle.zp_replay_tests.proofs.Schedules.{never_due}
use Rattle.zp_replay_tests.proofs.memory.Schedule.never.Goals as goal

pub returns-clause-due : goal.returns-clause-due
returns-clause-due c k = never_due k
