use Rattle.std.proofs.Common.{◌∙◌, sym, subst}
use Rattle.zp_office.specs.Desks.{IsReady}
use Rattle.zp_shared.proofs.Opening.{keys_back}
use Rattle.zp_office_tests.proofs.tests.workers.watch_zones.Goals as goal

pub watch_as-requires-clause-ready : goal.watch_as-requires-clause-ready
watch_as-requires-clause-ready g c =
    let os = c.in_ok-opened.opened in
    let same = c.readers_of.ensures.same ∙ c.deref_mut.ensures.value in
    let keys = keys_back os.items c.readers_of.new.opened os.len c.args.zones.items same os.ok.0 c.in_ok-opened.ensures.zones in
    subst (λ k. IsReady k c.args.desk) (sym keys) c.requires.ready
