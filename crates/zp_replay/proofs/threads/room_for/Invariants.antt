use Rattle.std.proofs.Common.{◌≡◌, ◌≤◌, ◌*◌, take}
use Rattle.zp_replay.specs.Rooms.{room_for}
use Rattle.zp_replay.specs.declared.threads.TheConstants.{MOST_ENTRIES}
use Rattle.zp_replay.proofs.threads.room_for.Given as goal

-- room for the commands so far
abbrev pub invariant-loop-command : goal.invariant-loop-command
invariant-loop-command l = record {
  room : l.room ≡ room_for (take l.command-index l.commands);
  within : l.room ≤ MOST_ENTRIES * l.command-index;
}
