use Rattle.std.proofs.Common.{◌≡◌, ◌≤◌, length, map, take, vec_capacity}
use Rattle.zp_crew.specs.Opening.{plain_config}
use Rattle.zp_office.specs.Opening.{declared_config}
use Rattle.zp_office.proofs.opening.declared_configs.Given as goal

-- the configs of the lines so far, and there is room for the others
abbrev pub invariant-loop-line : goal.invariant-loop-line
invariant-loop-line l =
    record {
      configs : map plain_config l.configs.items ≡ map declared_config (take l.line-index l.lines);
      room : length l.lines ≤ vec_capacity l.configs;
    }
