use Rattle.zp_laws.proofs.RunsOwn.{freed_own}
use Rattle.zp_laws.proofs.run_laws.freed_runs_tell_their_part.Goals as goal

pub returns : goal.returns
returns c = λ z w h n. freed_own z w h n
