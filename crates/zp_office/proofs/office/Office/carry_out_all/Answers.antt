use Rattle.std.proofs.Common.{◌<◌, ◌+◌, zero, drop, length, subst, sym, arith}
use Rattle.zp_office.specs.Offices.{OfficeState, HaveCommands, workers_in}
use Rattle.zp_office.proofs.Commands.{have_here, have_next, have_more, order_more, turn-last}
use Rattle.zp_office.proofs.office.Office.carry_out_all.Goals as goal

pub carry_out_next-requires-clause-worker : goal.carry_out_next-requires-clause-worker
carry_out_next-requires-clause-worker c =
    let at : c.loop-command.command-index < length c.args.commands.now = omega arith in
    (have_here _ _ _ _ at c.command-item.is c.loop-command.invariant.left).workers zero c.command-item.result.worker (omega arith)

pub carry_out_next-requires-clause-next : goal.carry_out_next-requires-clause-next
carry_out_next-requires-clause-next c =
    let at : c.loop-command.command-index < length c.args.commands.now = omega arith in
    have_next _ _ _ (have_here _ _ _ _ at c.command-item.is c.loop-command.invariant.left)

pub loop-command-preserved : goal.loop-command-preserved
loop-command-preserved c =
    let at : c.loop-command.command-index < length c.args.commands.now = omega arith in
    record {
      done = order_more _ _ _ _ _ _ c.loop-command.invariant.done c.carry_out_next.ensures.office (turn-last _ _ _ at c.command-item.is);
      left = subst (λ (o : OfficeState). HaveCommands o (drop (c.loop-command.command-index + 1) (workers_in c.args.commands.now))) (sym c.carry_out_next.ensures.office) (have_more _ _ _ (have_here _ _ _ _ at c.command-item.is c.loop-command.invariant.left));
    }
