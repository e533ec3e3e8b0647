use Rattle.std.proofs.Common.{ℕ, ◌≡◌, List, Err, sym, ap, subst}
use Rattle.std.proofs.lemmas.Result.{err_from_is_err_and}
use Rattle.zp_trace.specs.declared.trace.TraceFault.{TraceFault}
use Rattle.zp_trace.specs.declared.trace.TraceFault.TheVariants as fault
use Rattle.zp_trace.specs.Grammar.{IsBadLine}
use Rattle.zp_trace.proofs.CommandLines.{each_command}
use Rattle.zp_trace.proofs.parser.parse_trace.Goals as goal

pub returns-in_err-commands-clause-bad : goal.returns-in_err-commands-clause-bad
returns-in_err-commands-clause-bad c n e =
    let p = err_from_is_err_and c.from_residual-in_err-commands.result c.from_residual-in_err-commands.ensures.1 in
    let was = p.1 in
    let is = p.2 in
    let same : c.in_err-commands.field-0.0 ≡ fault.BadLine n = cc in
    subst (λ (text : List ℕ). IsBadLine text n) (sym c.in_ok-header.ensures.good.1) (c.in_err-commands.ensures.bad n (ap (λ (f : TraceFault). Err f) same))

pub returns-clause-commands : goal.returns-clause-commands
returns-clause-commands c =
    each_command c.in_ok-header.header c.in_ok-commands.commands c.in_ok-commands.ensures.good.allowed
