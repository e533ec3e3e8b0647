use Rattle.std.proofs.Common.{sym, ap, ◌∙◌}
use Rattle.zp_counts.specs.Kinds.{published_counts, seen_counts}
use Rattle.zp_counts.specs.Packing.{packed_in, paired_in}
use Rattle.zp_counts.proofs.CountLists.{prefix_counts, reading_kept}
use Rattle.zp_counts.proofs.board.Publisher.show_board.Goals.{in-Fixed-Fixed, in-Turning-Turning, in-Wide-Wide}
use Rattle.zp_counts.proofs.board.Publisher.show_board.Goals as goal

pub returns-clause-before : goal.returns-clause-before
returns-clause-before c =
    let before = ap (λ r. r.seen) (sym c.reader.view_is) in
    let after = ap (λ p. p.published) (sym c.self.view_is) in
    elim c.match-self.branch [
      | in-Fixed-Fixed w ↦ let i = w.in-Fixed-Fixed in
          prefix_counts paired_in _ _ (before ∙ ap (λ k. (seen_counts k).seen) i.is-1) (after ∙ ap (λ k. (published_counts k).published) i.is-0) w.show_board.ensures.before
      | in-Turning-Turning w ↦ let i = w.in-Turning-Turning in
          prefix_counts packed_in _ _ (before ∙ ap (λ k. (seen_counts k).seen) i.is-1) (after ∙ ap (λ k. (published_counts k).published) i.is-0) w.show_board-in-Turning-Turning.ensures.before
      | in-Wide-Wide w ↦ let i = w.in-Wide-Wide in
          prefix_counts paired_in _ _ (before ∙ ap (λ k. (seen_counts k).seen) i.is-1) (after ∙ ap (λ k. (published_counts k).published) i.is-0) w.show_board-in-Wide-Wide.ensures.before
    ]

pub returns-clause-kept : goal.returns-clause-kept
returns-clause-kept c = λ r taken. reading_kept _ _ r (returns-clause-before c) taken
