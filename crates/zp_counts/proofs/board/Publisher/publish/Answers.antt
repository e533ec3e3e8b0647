use Rattle.std.proofs.Common.{length, sym, ap, ◌∙◌, arith}
use Rattle.std.proofs.lemmas.List.{length-map}
use Rattle.zp_counts.specs.Kinds.{published_counts}
use Rattle.zp_counts.specs.Packing.{packed_in, paired_in}
use Rattle.zp_counts.proofs.CountLists.{counts_more}
use Rattle.zp_counts.proofs.board.Publisher.publish.Goals.{in-Fixed, in-Turning, in-Wide}
use Rattle.zp_counts.proofs.board.Publisher.publish.Goals as goal

pub publish-requires-in-Turning : goal.publish-requires-in-Turning
publish-requires-in-Turning c =
    let p = sym c.self.view_is ∙ ap published_counts c.in-Turning.is in
    let many = sym (length-map c.in-Turning.entries.published packed_in) ∙ sym (ap (λ q. length q.published) p) in
    let tied = ap (λ t. t.table) (sym (ap (λ q. q.tie) p) ∙ c.requires.tie ∙ c.turning.ensures.tie) in
    (omega arith, (omega arith, (omega arith, (tied, omega (arith, many, c.requires.room, c.turning.ensures.capacity)))))

pub publish-requires-in-Wide : goal.publish-requires-in-Wide
publish-requires-in-Wide c =
    let p = sym c.self.view_is ∙ ap published_counts c.in-Wide.is in
    let many = sym (length-map c.in-Wide.entries.published paired_in) ∙ sym (ap (λ q. length q.published) p) in
    let tied = ap (λ t. t.table) (sym (ap (λ q. q.tie) p) ∙ c.requires.tie ∙ c.wide.ensures.tie) in
    (omega arith, (omega arith, (omega arith, (tied, omega (arith, many, c.requires.room, c.wide.ensures.capacity)))))

pub returns-clause-published : goal.returns-clause-published
returns-clause-published c =
    let before = ap (λ p. p.published) (sym c.self.view_is) in
    elim c.match-self.branch [
      | in-Fixed w ↦ counts_more paired_in _ _ w.paired_words.result (before ∙ ap (λ k. (published_counts k).published) w.in-Fixed.is)
          (ap (λ p. (published_counts p.kind).published) w.self-inside-is) w.publish.ensures.published w.paired_words.ensures.back
      | in-Turning w ↦ counts_more packed_in _ _ w.packed_words.result (before ∙ ap (λ k. (published_counts k).published) w.in-Turning.is)
          (ap (λ p. (published_counts p.kind).published) w.self-inside-is) w.publish-in-Turning.ensures.published w.packed_words.ensures.back
      | in-Wide w ↦ counts_more paired_in _ _ w.paired_words-in-Wide.result (before ∙ ap (λ k. (published_counts k).published) w.in-Wide.is)
          (ap (λ p. (published_counts p.kind).published) w.self-inside-is) w.publish-in-Wide.ensures.published w.paired_words-in-Wide.ensures.back
    ]
