use Rattle.std.proofs.Common.{ℕ, ◌≡◌, ◌<◌, ◌+◌, ◌&&◌, Bool, true, List, length, take, get_or, sym, ◌∙◌, ap, subst, IsTrue}
use Rattle.std.specs.List.{list_all}
use Rattle.std.proofs.lemmas.List.Elements.{All-more}
use Rattle.std.proofs.lemmas.List.Folds.{list_all_more}
use Rattle.zp_model.specs.Run.{is_out}
use Rattle.zp_zone.specs.Seats.{SeatState, has}
use Rattle.zp_journal.proofs.asking.holds_all.Goals as goal

all_more : (f : ℕ → Bool) (ps : List ℕ) (i p : ℕ) → i < length ps → p ≡ get_or ps i p → list_all f (take i ps) ≡ true → f p ≡ true → list_all f (take (i + 1) ps) ≡ true
all_more f ps i p lt is e g =
    list_all_more f ps i p lt ∙ ap (λ b. b && f (get_or ps i p)) e ∙ ap f (sym is) ∙ g

pub loop-page-preserved : goal.loop-page-preserved
loop-page-preserved c =
    let z = c.args.zone.now in
    let s : SeatState = c.args.seat.now in
    let was = c.loop-page.invariant in
    let p : ℕ = c.page-item.result in
    let held = sym c.held_by.ensures.out ∙ c.if-not-held_by.false in
    record {
      out =
          all_more (λ page. is_out z.plain s.worker page 0) c.args.pages.now c.loop-page.page-index p c.loop-page-test.true c.page-item.is was.out
          (ap (λ k. is_out z.plain s.worker p k) (sym c.zero.ensures) ∙ held);
      has = λ a. All-more (λ page. IsTrue (has s page 0)) c.args.pages.now c.loop-page.page-index p c.loop-page-test.true (was.has a)
          (subst (λ q. IsTrue (has s q 0)) c.page-item.is (ap (λ k. has s p k) (sym c.zero.ensures) ∙ sym (c.held_by.ensures.has a) ∙ c.if-not-held_by.false));
    }
