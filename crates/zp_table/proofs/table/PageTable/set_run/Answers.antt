use Rattle.std.proofs.Common.{◌+◌, ◌-◌, ◌≤◌, ◌∙◌, ap, arith, length, replicate}
use Rattle.zp_model.specs.Rows.{with_run}
use Rattle.zp_model.proofs.Runs.{run_written}
use Rattle.zp_table.proofs.table.PageTable.set_run.Goals as goal

pub returns : goal.returns
returns c =
    let from = c.index-from.result in
    let was = c.self.inside.entries.items in
    let inside : from + c.args.pages ≤ length was = omega (arith, c.requires, ap length c.self.view_is, c.index-from.ensures.same) in
    run_written was c.deref_mut.result.now c.write_each.new.entries from c.args.pages (from + c.args.pages - from) c.self.inside.entries.len c.args.entry c.deref_mut.ensures.value inside (omega arith)
    (omega (arith, c.deref_mut.ensures.len, ap length c.deref_mut.ensures.value)) (c.write_each.ensures ∙ ap (replicate _) c.new.ensures)
    ∙ (λ i. with_run (c.self.view_is i) (c.index-from.ensures.same i) c.args.pages c.args.entry)
