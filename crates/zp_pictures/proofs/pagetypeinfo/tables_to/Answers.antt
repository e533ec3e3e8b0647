use Rattle.std.proofs.Common.{ap, ◌∙◌, length, min}
use Rattle.zp_states.specs.Replays.{office_at}
use Rattle.zp_pictures.specs.Tables.{largest_of, tables_of}
use Rattle.zp_pictures.proofs.Counted.{tables_made}
use Rattle.zp_pictures.proofs.pagetypeinfo.tables_to.Goals as goal

pub returns-in-Ok-clause-tables : goal.returns-in-Ok-clause-tables
returns-in-Ok-clause-tables c =
    let t = c.args.trace.now in
    let replayed = c.in_ok-replay.ensures.after ∙ ap (λ n. record { trace = t; done = min n (length t.commands) }) c.requests_to.ensures in
    let most = c.largest_of.ensures ∙ ap largest_of c.zones.ensures.zones in
    let told = c.deref.ensures.value ∙ c.in_ok-counts.ensures in
    tables_made (office_at c.in_ok-replay.replay).zones c.largest_of.result _ _ _ c.new-text.ensures.items c.in-Ok.ensures most told
    ∙ ap (λ r. tables_of (office_at r).zones) replayed
