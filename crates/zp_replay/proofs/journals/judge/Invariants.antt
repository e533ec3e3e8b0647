use Rattle.std.proofs.Common.{◌≡◌, ◌≤◌, ◌++◌, length, map, take, vec_capacity}
use Rattle.std.specs.List.{AllZip}
use Rattle.zp_journal.specs.Journals.{JournalState}
use Rattle.zp_replay.specs.Judging.{JudgedJournal, IsJudged}
use Rattle.zp_replay.proofs.journals.judge.Given as goal

-- the journals of the lines so far were replayed, and there is room for the others
abbrev pub invariant-loop-journal : goal.invariant-loop-journal
invariant-loop-journal l =
    record {
      judged : AllZip (IsJudged l.header.workers) (take (length l.judged.items) l.lines) l.judged.items;
      entries : map (λ (j : JudgedJournal). j.entries) l.judged.items ≡ map (λ (j : JournalState). j.entries) l.yielded;
      many : length l.judged.items ≡ length l.yielded;
      whole : l.yielded ++ l.journal-iterator.rest.items ≡ l.fn.journals.items;
      room : length l.lines ≤ vec_capacity l.judged;
    }
