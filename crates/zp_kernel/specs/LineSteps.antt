-- What one line of a text makes of a run.
use Rattle.std.specs.Prelude.{ℕ, ◌≡◌, List, Option, None, Some}
use Rattle.zp_events.specs.declared.event.PageEvent.{PageEvent}
use Rattle.zp_kernel.specs.declared.line_counts.Remark.{Remark}
use Rattle.zp_kernel.specs.Events.{PlainKernel, after_event}
use Rattle.zp_kernel.specs.Lines.{IsRemark, with_broken, with_event, with_other}
use Rattle.zp_kernel.specs.Runs.{RunState}

-- a kernel after an event
abbrev pub after_one : PageEvent → PlainKernel → PlainKernel
after_one e k = record k { state = after_event k.setting k.state e }

-- these zones are open, or opened now
abbrev pub AreOpen : {O : Type 0} → (O → PlainKernel → Type 0) → O → Option PlainKernel → PlainKernel → Type 0
AreOpen opens o None k = opens o k
AreOpen opens o (Some l) k = k ≡ l

module _ {O : Type 0} (hears : O → List ℕ → O → Type 0) (opens : O → PlainKernel → Type 0) where
  -- an event is carried out
  pub record Carries (r : RunState O) (e : PageEvent) (s : RunState O) : Type 0 where
    pub opened : PlainKernel
    pub opened_is : AreOpen opens r.onlooker r.kernel opened
    pub kernel : s.kernel ≡ Some (after_one e opened)
    pub lines : s.lines ≡ with_event e.action r.lines

  -- a line that is none of an event is heard
  pub record Passes (r : RunState O) (line : List ℕ) (s : RunState O) : Type 0 where
    pub kernel : s.kernel ≡ r.kernel
    pub heard : hears r.onlooker line s.onlooker
    pub remark : Remark
    pub remark_is : IsRemark line remark
    pub lines : s.lines ≡ with_other remark r.lines

-- a broken one is counted
pub record Drops {O : Type 0} (r s : RunState O) : Type 0 where
  pub kernel : s.kernel ≡ r.kernel
  pub onlooker : s.onlooker ≡ r.onlooker
  pub lines : s.lines ≡ with_broken r.lines
