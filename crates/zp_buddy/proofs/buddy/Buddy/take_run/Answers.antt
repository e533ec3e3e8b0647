use Rattle.std.proofs.Common.{arith, ap, refl, sym, ◌∙◌}
use Rattle.zp_model.specs.Area.{pageblocks_of}
use Rattle.zp_model.specs.Take.{take_answer}
use Rattle.zp_buddy.proofs.Taking.{are_clear, fewer, run_off, still_may}
use Rattle.zp_buddy.proofs.buddy.Buddy.take_run.Goals as goal

pub returns-in_err-run-clause-none : goal.returns-in_err-run-clause-none
unfolding take_answer
returns-in_err-run-clause-none c = rw (c.from_residual.ensures, ← c.self.view_is, c.in_err-run.ensures.1) (rw c.in_err-run.ensures.0 refl, refl)

pub overflow_sub-self : goal.overflow_sub-self
overflow_sub-self c = omega (arith, fewer (run_off c.self.invariant c.in_ok-run.ensures))

pub invariant_of-self-2 : goal.invariant_of-self-2
invariant_of-self-2 c =
    let x = c.in_ok-run.ensures in
    rw x.largest (record {
      sound = x.sound;
      typed = x.typed ∙ c.self.invariant.typed ∙ ap (pageblocks_of c.self.inside.area.largest) (sym x.pages);
      counted = omega (arith, fewer (run_off c.self.invariant c.in_ok-run.ensures));
    })

pub returns-clause-clear : goal.returns-clause-clear
returns-clause-clear c = rw c.in_ok-run.ensures.largest (are_clear (run_off c.self.invariant c.in_ok-run.ensures))

pub returns-clause-kept : goal.returns-clause-kept
returns-clause-kept c = rw (← c.self.view_is, c.in_ok-run.ensures.largest) (still_may (run_off c.self.invariant c.in_ok-run.ensures))
