use Rattle.zp_share.proofs.commands.+alloc.Given as goal

abbrev pub decreases-alloc : goal.decreases-alloc
decreases-alloc g l = l.zone
