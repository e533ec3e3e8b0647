use Rattle.std.proofs.Common.{◌≡◌, ◌≤◌, length, map, take, vec_capacity}
use Rattle.zp_crew.specs.Opening.{plain_config}
use Rattle.zp_capture.specs.Opening.{planned_config}
use Rattle.zp_capture.proofs.opening.planned_configs.Given as goal

-- the configs of the plans so far, and there is room for the others
abbrev pub invariant-loop-plan : goal.invariant-loop-plan
invariant-loop-plan l =
    record {
      configs : map plain_config l.configs.items ≡ map (planned_config l.settings) (take l.plan-index l.plans);
      room : length l.plans ≤ vec_capacity l.configs;
    }
