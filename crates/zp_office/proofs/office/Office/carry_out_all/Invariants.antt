use Rattle.std.proofs.Common.{◌≡◌, drop, take}
use Rattle.zp_office.specs.Offices.{HaveCommands, in_order, workers_in}
use Rattle.zp_office.proofs.office.Office.carry_out_all.Given as goal

-- the commands so far were carried out, and the others can be
abbrev pub invariant-loop-command : goal.invariant-loop-command
invariant-loop-command l =
    record {
      done : l.self ≡ in_order l.initial.self (take l.command-index (workers_in l.commands));
      left : HaveCommands l.self (drop l.command-index (workers_in l.commands));
    }
