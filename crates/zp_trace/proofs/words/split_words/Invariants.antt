use Rattle.std.proofs.Common.{◌≡◌, ◌==◌, ◌++◌, length}
use Rattle.std.specs.List.{slice_split}
use Rattle.zp_trace.specs.Spelling.{spelled, space}
use Rattle.zp_trace.proofs.words.split_words.Given as goal

-- the words so far, and those of the rest, are the words of the line
abbrev pub invariant-loop-word : goal.invariant-loop-word
invariant-loop-word l =
    spelled l.words.items ++ slice_split (λ b. b == space) l.rest ≡ slice_split (λ b. b == space) l.line

abbrev pub decreases-loop-word : goal.decreases-loop-word
decreases-loop-word l = length l.rest
