use Rattle.std.proofs.Common.{refl, sym, ap, ◌∙◌}
use Rattle.std.specs.Option.{option_map}
use Rattle.zp_model.specs.Choose.{choose}
use Rattle.zp_plain.specs.Chosen.{as_chosen}
use Rattle.zp_plain.proofs.choose.choose.Goals as goal

pub returns-in-Some : goal.returns-in-Some
unfolding choose
returns-in-Some c = rw (sym c.own.ensures ∙ c.in-Some.is) refl

pub returns-in-Some-claim : goal.returns-in-Some-claim
unfolding choose
returns-in-Some-claim c = rw (sym c.own.ensures ∙ c.in_default.is, sym c.claim.ensures ∙ c.in-Some-claim.is) refl

pub returns-in_err-head : goal.returns-in_err-head
unfolding choose
returns-in_err-head c =
    ap (λ o. option_map as_chosen o) c.from_residual.ensures ∙ rw (sym c.own.ensures ∙ c.in_default.is, sym c.claim.ensures ∙ c.in_default-claim.is, sym c.in_err-head.ensures) refl

pub returns : goal.returns
unfolding choose
returns c = rw (sym c.own.ensures ∙ c.in_default.is, sym c.claim.ensures ∙ c.in_default-claim.is, sym c.in_ok-head.ensures) refl
