use Rattle.std.proofs.Common.{◌≡◌, ◌∙◌, ◌++◌, All, ap, arith, refl, sym, subst, length, take, drop}
use Rattle.zp_office.specs.Desks.{IsReady}
use Rattle.zp_model.proofs.RowLists.{written_back}
use Rattle.zp_shared.proofs.Opening.{keys_back}
use Rattle.zp_office.proofs.Running.{rows_lent}
use Rattle.zp_office_tests.proofs.tests.rows.run_zones.Goals as goal

pub run_as-requires-clause-readers : goal.run_as-requires-clause-readers
run_as-requires-clause-readers g c κs within =
    let os = c.in_ok-opened.opened in
    let lent = c.reader_rows.new.opened in
    let here : c.deref_mut.result.now ≡ os.items = c.deref_mut.ensures.value in
    let back : take os.len (lent ++ drop (length lent) os.items) ≡ os.items =
    let same = c.reader_rows.ensures.same ∙ here in written_back lent os.items os.len (ap length same) os.ok.0 ∙ same in
    let rows = c.in_ok-readers.readers.items in
    let many : length rows ≡ length c.args.desks.items = omega (arith, c.in_ok-readers.ensures.many, c.len.ensures) in
    rows_lent c.deref_mut.result.now _ c.in_ok-readers.readers.items _ c.args.desks.items (back ∙ sym here) refl c.in_ok-readers.ensures.fit many

pub run_as-requires-clause-ready : goal.run_as-requires-clause-ready
run_as-requires-clause-ready g c κs within =
    let os = c.in_ok-opened.opened in
    let same = c.reader_rows.ensures.same ∙ c.deref_mut.ensures.value in
    let keys = keys_back os.items c.reader_rows.new.opened os.len c.args.zones.items same os.ok.0 c.in_ok-opened.ensures.zones in
    subst (λ k. All (IsReady k) c.args.desks.items) (sym keys) c.requires.ready
