use Rattle.zp_trials.proofs.zones.Asked.give_clear_run.Goals as goal

pub give_run-requires : goal.give_run-requires
give_run-requires g c = c.is_clear_run-is_clear.ensures.0 c.if-is_clear.true
