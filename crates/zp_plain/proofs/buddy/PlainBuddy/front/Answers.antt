use Rattle.std.proofs.Common.{◌≡◌, true, ap, sym, subst, ◌∙◌, IfSome}
use Rattle.zp_model.specs.Rows.{front, stands_in}
use Rattle.zp_model.specs.Area.{free_list}
use Rattle.zp_model.specs.Frames.{Frames}
use Rattle.zp_plain.proofs.Looking.{front_stands}
use Rattle.zp_plain.proofs.buddy.PlainBuddy.front.Goals as goal

pub returns-clause-on : goal.returns-clause-on
returns-clause-on c =
    let xs = free_list c.args.self.now.area c.args.order c.args.kind in
    let e = c.front.ensures ∙ ap (λ (f : Frames). front (free_list f.area c.args.order c.args.kind)) c.self.view_is in
    subst (λ o. IfSome o (λ p. stands_in p xs ≡ true)) (sym e) (front_stands xs)
