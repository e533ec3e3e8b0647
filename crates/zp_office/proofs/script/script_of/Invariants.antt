use Rattle.std.proofs.Common.{◌≡◌, ◌≤◌, length, map, take, vec_capacity}
use Rattle.zp_office.specs.Scripts.{names_of, scripted}
use Rattle.zp_office.proofs.script.script_of.Given as goal

-- the calls so far as the desk carries them out, and there is room for the others
abbrev pub invariant-loop-call : goal.invariant-loop-call
invariant-loop-call l =
    record {
      script : l.script.items ≡ map (scripted (names_of l.zones) l.call-items) (take l.call-index l.call-items);
      room : length l.call-items ≤ vec_capacity l.script;
    }
