-- A refill of which no more is told than whether it got pages.
use Rattle.std.specs.Prelude.{Result, Ok, Err}
use Rattle.zp_model.specs.declared.refused.Refused.{Refused}
use Rattle.zp_model.specs.declared.request.Reply.{Reply}
use Rattle.zp_share.specs.Sections.{IsRefilled}

-- what follows of each reply follows of the refill's
pub refilled_so : (P Q : Reply → Type 0) (r : Result (Unit {0}) Refused) → ((q : Reply) → P q → Q q) → IsRefilled P r → IsRefilled Q r
refilled_so P Q (Ok u) f x = (x.0, f _ x.1)
refilled_so P Q (Err e) f x = f _ x

-- what does not speak of the reply is so
pub refilled_anyhow : (A : Type 0) (r : Result (Unit {0}) Refused) → IsRefilled (λ q. A) r → A
refilled_anyhow A (Ok u) x = x.1
refilled_anyhow A (Err e) x = x
