use Rattle.std.proofs.Common.{◌+◌, sym, ap, ◌∙◌}
use Rattle.zp_counts.specs.Kinds.{seen_counts}
use Rattle.zp_counts.specs.Packing.{packed_in, paired_in}
use Rattle.zp_counts.proofs.CountLists.{prefix_counts, reading_kept, reading_last}
use Rattle.zp_counts.proofs.FreshReads.{fixed_read, turning_read, wide_read}
use Rattle.zp_counts.proofs.board.BoardReader.read.Goals.{in-Fixed, in-Turning, in-Wide}
use Rattle.zp_counts.proofs.board.BoardReader.read.Goals as goal

pub returns-clause-seen : goal.returns-clause-seen
returns-clause-seen c =
    let before = ap (λ r. r.seen) (sym c.self.view_is) in
    elim c.match-self.branch [
      | in-Fixed w ↦ prefix_counts paired_in _ _ (before ∙ ap (λ k. (seen_counts k).seen) w.in-Fixed.is) (ap (λ r. (seen_counts r.kind).seen) w.self-inside-is) w.read.ensures.seen
      | in-Turning w ↦ prefix_counts packed_in _ _ (before ∙ ap (λ k. (seen_counts k).seen) w.in-Turning.is) (ap (λ r. (seen_counts r.kind).seen) w.self-inside-is) w.read-in-Turning.ensures.seen
      | in-Wide w ↦ prefix_counts paired_in _ _ (before ∙ ap (λ k. (seen_counts k).seen) w.in-Wide.is) (ap (λ r. (seen_counts r.kind).seen) w.self-inside-is) w.read-in-Wide.ensures.seen
    ]

pub returns-clause-taken : goal.returns-clause-taken
returns-clause-taken c =
    elim c.match-self.branch [
      | in-Fixed w ↦ reading_last paired_in _ w.read.result.words _ (ap (λ r. (seen_counts r.kind).seen) w.self-inside-is)
          (ap (λ r. r.place + 1) w.result-is ∙ ap (λ n. n + 1) w.reading_of.ensures.place ∙ w.read.ensures.place) w.read.ensures.last (ap (λ r. r.counts) w.result-is ∙ w.reading_of.ensures.counts)
      | in-Turning w ↦ reading_last packed_in _ w.read-in-Turning.result.words _ (ap (λ r. (seen_counts r.kind).seen) w.self-inside-is)
          (ap (λ r. r.place + 1) w.result-is ∙ ap (λ n. n + 1) w.turned_reading_of.ensures.place ∙ w.read-in-Turning.ensures.place) w.read-in-Turning.ensures.last (ap (λ r. r.counts) w.result-is ∙ w.turned_reading_of.ensures.counts)
      | in-Wide w ↦ reading_last paired_in _ w.read-in-Wide.result.words _ (ap (λ r. (seen_counts r.kind).seen) w.self-inside-is)
          (ap (λ r. r.place + 1) w.result-is ∙ ap (λ n. n + 1) w.wide_reading_of.ensures.place ∙ w.read-in-Wide.ensures.place) w.read-in-Wide.ensures.last (ap (λ r. r.counts) w.result-is ∙ w.wide_reading_of.ensures.counts)
    ]

pub returns-clause-kept : goal.returns-clause-kept
returns-clause-kept c = λ r taken. reading_kept _ _ r (returns-clause-seen c) taken

pub returns-clause-fresh : goal.returns-clause-fresh
returns-clause-fresh c =
    let before = sym c.self.view_is in
    elim c.match-self.branch [
      | in-Fixed w ↦ fixed_read _ _ w.read.result.place (before ∙ ap seen_counts w.in-Fixed.is) (ap (λ r. seen_counts r.kind) w.self-inside-is) w.read.ensures.seen w.read.ensures.looked w.read.ensures.place
      | in-Turning w ↦ let found = w.read-in-Turning.ensures in
          turning_read _ _ (before ∙ ap seen_counts w.in-Turning.is) (ap (λ r. seen_counts r.kind) w.self-inside-is) found.fresh found.known.0 found.known.1
      | in-Wide w ↦ let found = w.read-in-Wide.ensures in
          wide_read _ _ (before ∙ ap seen_counts w.in-Wide.is) (ap (λ r. seen_counts r.kind) w.self-inside-is) found.fresh found.known.0 found.known.1
    ]
