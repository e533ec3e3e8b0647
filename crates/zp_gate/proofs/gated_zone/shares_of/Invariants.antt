use Rattle.std.proofs.Common.{◌≡◌, ◌≤◌, ◌==◌, take}
use Rattle.std.specs.List.{count_by}
use Rattle.zp_share.specs.Shares.{ShareState}
use Rattle.zp_gate.proofs.gated_zone.shares_of.Given as goal

abbrev pub invariant-loop-share : goal.invariant-loop-share
invariant-loop-share l =
    record { within : l.count ≤ l.share-index; counted : l.count ≡ count_by (λ (s : ShareState). s.worker == l.fn.number) (take l.share-index l.shares) }
