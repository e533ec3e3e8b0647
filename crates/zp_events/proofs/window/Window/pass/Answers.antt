use Rattle.std.proofs.Common.{ℕ, List, ◌∙◌, ap, drop, subst, sym, ◌≤◌, length}
use Rattle.zp_events.proofs.Filling.{later_between}
use Rattle.zp_events.proofs.window.Window.pass.Goals as goal

pub returns : goal.returns
returns c =
    later_between c.self.inside.start c.self.inside.end c.args.count c.self.inside.bytes.items c.self.invariant.0 (subst (λ (b : List ℕ). c.args.count ≤ length b) (sym c.self.view_is) c.requires)
    ∙ ap (drop c.args.count) c.self.view_is
