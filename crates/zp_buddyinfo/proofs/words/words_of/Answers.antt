use Rattle.std.proofs.Common.{ℕ, nat_lt, List, length, filter, arith, ap, ◌∙◌, take_all}
use Rattle.std.proofs.lemmas.Bool.Decides.{nat_tests}
use Rattle.std.proofs.lemmas.List.{length-map}
use Rattle.std.specs.Borrow.{Bor}
use Rattle.zp_buddyinfo.specs.Rows.{spelled, words_of}
use Rattle.zp_buddyinfo.proofs.WordLists.{piece_kept, piece_left, nowhere}
use Rattle.zp_buddyinfo.proofs.words.words_of.Goals as goal
use Rattle.zp_buddyinfo.proofs.words.words_of.Goals.{then-not-is_empty+in_ok-push, else-not-is_empty}

pub loop-piece-preserved : goal.loop-piece-preserved
loop-piece-preserved c =
    elim c.if-not-is_empty.branch [
      | then-not-is_empty+in_ok-push w ↦ ap (λ v. spelled v.items) w.words-is ∙ piece_kept c.deref-piece-items.result.now c.loop-piece.words.items w.push.new.self.items nowhere c.loop-piece.piece-index c.loop-piece-test.true c.loop-piece.invariant (grind (arith, nat_tests)) w.in_ok-push.ensures.items
      | else-not-is_empty w ↦ ap (λ v. spelled v.items) w.words-is ∙ piece_left c.deref-piece-items.result.now c.loop-piece.words.items nowhere c.loop-piece.piece-index c.loop-piece-test.true c.loop-piece.invariant (grind (arith, nat_tests))
    ]

pub returns : goal.returns
unfolding words_of
returns c =
    c.loop-piece.invariant
    ∙ ap (filter (λ word. nat_lt 0 (length word))) (take_all _ _ (omega (arith, c.loop-piece-test.false, length-map c.deref-piece-items.result.now (λ (w : Bor (List ℕ)). w.now))) ∙ ap spelled c.deref-piece-items.ensures.value ∙ c.in_ok-pieces.ensures)
