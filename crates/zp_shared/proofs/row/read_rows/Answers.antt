use Rattle.std.proofs.Common.{◌≡◌, ◌≢◌, ◌≤◌, ◌<◌, ◌+◌, ap, arith, get_or, length, set, subst, sym, take, ◌++◌, ◌∷◌, [], ◌∙◌}
use Rattle.std.specs.List.{AllZip}
use Rattle.std.proofs.lemmas.List.{get_or-set_other, take_all, take_more, take_more_set}
use Rattle.zp_shared.specs.Rows.{AreKept, HaveReadAt}
use Rattle.zp_shared.proofs.Places.{zip_more}
use Rattle.zp_shared.proofs.Readers.{HasReadRow, zip_both}
use Rattle.zp_shared.proofs.row.read_rows.Given.{Over}
use Rattle.zp_shared.proofs.row.read_rows.Goals as goal

pub loop-row-preserved : goal.loop-row-preserved
loop-row-preserved g c =
    let i = c.loop-row.invariant in
    let n = c.loop-row.row-index in
    let R = HasReadRow g.J.Naming.zones g.J.Naming.boards c.args.guarded.now in
    let old = c.args.readers.now in
    let now = c.loop-row.readers in
    let lt : n < length now = omega (arith, c.loop-row-test.true, c.loop-row.auto.readers, c.loop-row.auto.row-index-end) in
    let there : n < length old = omega (arith, lt, c.loop-row.auto.readers) in
    let d = c.row-item.result in
    let row = get_or now n d in
    let new = c.read_row.new.readers in
    let was : get_or old n d ≡ row = sym (i.rest n d (omega arith)) in
    let read : R row new = subst (λ v. HasReadRow g.J.Naming.zones g.J.Naming.boards v row new) i.same (c.read_row.ensures.read, c.read_row.ensures.readers) in
    record {
      same = c.read_row.ensures.same ∙ i.same;
      read =
          subst (λ l. AllZip R l (take (n + 1) (set now n new))) (sym (take_more old n d there ∙ ap (λ x. take n old ++ x ∷ []) was))
          (subst (AllZip R (take n old ++ row ∷ [])) (sym (take_more_set now n new lt)) (zip_more R (take n old) (take n now) row new i.read read));
      rest = λ k e le. let other : k ≢ n = omega arith in let before : n ≤ k = omega arith in get_or-set_other now n k new e other ∙ i.rest k e before;
    }

all_read : (g : Over) (c : goal.After-loop-row g) → AllZip (HasReadRow g.J.Naming.zones g.J.Naming.boards c.args.guarded.now) c.args.readers.now c.loop-row.readers
all_read g c =
    let n = c.loop-row.row-index in
    let R = HasReadRow g.J.Naming.zones g.J.Naming.boards c.args.guarded.now in
    let old = take_all n c.args.readers.now c.loop-row-test.false in
    let now = take_all n c.loop-row.readers (omega (arith, c.loop-row.auto.readers, c.loop-row-test.false)) in
    subst (λ l. AllZip R l c.loop-row.readers) old (subst (AllZip R (take n c.args.readers.now)) now c.loop-row.invariant.read)

pub returns-clause-read : goal.returns-clause-read
returns-clause-read g c =
    (zip_both (HaveReadAt c.args.guarded.now.place c.args.guarded.now.zone) (AreKept g.J.Naming.zones g.J.Naming.boards) c.args.readers.now c.loop-row.readers (all_read g c)).0

pub returns-clause-readers : goal.returns-clause-readers
returns-clause-readers g c =
    (zip_both (HaveReadAt c.args.guarded.now.place c.args.guarded.now.zone) (AreKept g.J.Naming.zones g.J.Naming.boards) c.args.readers.now c.loop-row.readers (all_read g c)).1
