use Rattle.std.proofs.Common.{ℕ, ◌∙◌, ap, Option}
use Rattle.zp_model.specs.BlockSet.{first_of, orders_from}
use Rattle.zp_model.specs.Choose.{own}
use Rattle.zp_plain.specs.Chosen.{front_at}
use Rattle.zp_laws.proofs.Choosing.{or_None}
use Rattle.zp_plain.proofs.choose.own.Goals as goal

pub returns : goal.returns
unfolding own
returns c =
    c.first_front.ensures ∙ ap (λ (f : ℕ → Option ℕ). first_of f (orders_from c.args.area.now.largest c.args.order)) (λ i o. or_None (front_at c.args.area.now o c.args.kind) i)
