use Rattle.std.proofs.Common.{◌≡◌, ◌<◌, ◌+◌, ◌∙◌, ◌++◌, ◌∷◌, [], append_assoc, ap, sym, subst, length, take, get_or, length-append, arith}
use Rattle.std.specs.List.{AllZip}
use Rattle.zp_replay.specs.Judging.{IsJudged}
use Rattle.zp_replay.specs.Serving.{entries_judged}
use Rattle.zp_replay.proofs.Histories.{entries_more, judged_more}
use Rattle.zp_replay.proofs.journals.judge.Goals as goal

pub loop-journal-preserved : goal.loop-journal-preserved
loop-journal-preserved c =
    let i = c.loop-journal.invariant in
    let n = c.args.header.now.workers in
    let lines = c.as_slice-lines.result.now in
    let js = c.loop-journal.judged.items in
    let j = c.in_ok-judge.field-0 in
    let ys = c.loop-journal.yielded in
    let y = c.in-Some.journal in
    let rest = c.next.new.self.rest.items in
    let p = c.push_reserved.ensures in
    let one : length (ys ++ y ∷ []) ≡ length ys + 1 = length-append ys (y ∷ []) in
    let whole : ys ++ y ∷ [] ++ rest ≡ c.args.journals.items =
    append_assoc ys (y ∷ []) rest ∙ ap (λ r. ys ++ r) (sym c.in-Some.ensures.steps.0) ∙ i.whole in
    let at : length js < length lines =
    omega (arith, i.many, ap length whole, length-append (ys ++ y ∷ []) rest, one, c.requires.many, ap length c.as_slice-lines.ensures.same) in
    let here : c.index-lines-len.result ≡ get_or lines (length js) c.index-lines-len.result =
    c.index-lines-len.is ∙ ap (λ k. get_or lines k c.index-lines-len.result) (omega (arith, c.len.ensures ∙ c.loop-journal.judged.ok.0)) in
    record {
      judged =
          subst (λ xs. AllZip (IsJudged n) (take (length xs) lines) xs) (sym p.items)
          (judged_more n lines js c.index-lines-len.result j at here i.judged c.in_ok-judge.ensures.judged);
      entries = ap entries_judged p.items ∙ entries_more js ys j y i.entries c.in_ok-judge.ensures.entries;
      many = ap length p.items ∙ length-append js (j ∷ []) ∙ ap (λ k. k + 1) i.many ∙ sym one;
      whole = whole;
      room = omega (arith, i.room, p.capacity);
    }
