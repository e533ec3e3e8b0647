-- What one line makes of a run.
use Rattle.std.proofs.Common.{ℕ, ◌≡◌, List, Option, Some, Result, Ok, Err, IfSome, OnOk, refl, ap, subst}
use Rattle.zp_events.specs.declared.event.PageEvent.{PageEvent}
use Rattle.zp_kernel.specs.declared.line_counts.LineCounts.{LineCounts}
use Rattle.zp_kernel.specs.declared.line_counts.Remark.{Remark}
use Rattle.zp_kernel.specs.Events.{PlainKernel}
use Rattle.zp_kernel.specs.Lines.{IsRemark, with_event, with_other}
use Rattle.zp_kernel.specs.LineSteps.{AreOpen, Carries, Passes, after_one}

-- what follows from what is so where the call succeeds
pub where_ok : {A E : Type 0} {P Q : Type 0} (r : Result A E) → (P → Q) → OnOk r P → OnOk r Q
where_ok (Ok a) f p = f p
where_ok (Err e) f p = tt

-- what is so whether the call succeeds or not
pub at_any_rate : {A E : Type 0} {P : Type 0} (r : Result A E) → P → OnOk r P
at_any_rate (Ok a) p = p
at_any_rate (Err e) p = tt

module _ {O : Type 0} (hears : O → List ℕ → O → Type 0) (opens : O → PlainKernel → Type 0) where
  pub passes : {A E : Type 0} (r : Result A E) (o p : O) (k : Option PlainKernel) (c : LineCounts) (line : List ℕ) (remark : Remark) → IsRemark line remark → OnOk r (hears o line p) →
      (d : LineCounts) → d ≡ with_other remark c → OnOk r (Passes hears opens (record { onlooker = o; kernel = k; lines = c }) line (record { onlooker = p; kernel = k; lines = d }))
  passes r o p k c line remark is h d counted =
      where_ok r (λ heard. record { kernel = refl; heard = heard; remark = remark; remark_is = is; lines = counted }) h

  pub carries : (o p : O) (was found : Option PlainKernel) (k l : PlainKernel) (c d : LineCounts) (e : PageEvent) → IfSome found (AreOpen opens o was) → found ≡ Some k →
      l ≡ after_one e k → d ≡ with_event e.action c → Carries hears opens (record { onlooker = o; kernel = was; lines = c }) e (record { onlooker = p; kernel = Some l; lines = d })
  carries o p was found k l c d e open_is is after counted =
      record { opened = k; opened_is = subst (λ w. IfSome w (AreOpen opens o was)) is open_is; kernel = ap (λ x. Some x) after; lines = counted }
