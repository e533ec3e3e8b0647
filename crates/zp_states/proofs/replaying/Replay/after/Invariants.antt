use Rattle.std.proofs.Common.{◌≡◌}
use Rattle.zp_states.proofs.replaying.Replay.after.Given as goal

-- one request was carried out each time
abbrev pub invariant-requests : goal.invariant-requests
invariant-requests l = record { trace : l.replay.trace ≡ l.trace; done : l.replay.done ≡ l._request }
