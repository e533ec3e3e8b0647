use Rattle.std.proofs.Common.{◌∙◌, ap, arith, get_or, List, sym}
use Rattle.zp_trace.specs.declared.line.ZoneLine.{ZoneLine}
use Rattle.zp_states.proofs.Steps.{first_there, low_there}
use Rattle.zp_states.proofs.replaying.Replay.first_page.Goals as goal

pub returns-clause-first : goal.returns-clause-first
returns-clause-first c =
    let z = c.index-as_slice-zone.result in
    let declared =
    first_there c.self.inside.trace.now c.self.inside.done c.self.inside.office c.args.self.now c.args.zone z c.self.invariant c.self.view_is c.requires
    (c.index-as_slice-zone.is ∙ ap (λ (l : List ZoneLine). get_or l c.args.zone z) c.as_slice.ensures.same) in
    omega (arith, declared, c.new.ensures, ap (λ (y : ZoneLine). y.base) c.index-as_slice-zone.is)

pub returns-clause-low : goal.returns-clause-low
returns-clause-low c =
    let z = c.index-as_slice-zone.result in
    let low =
    low_there c.self.inside.trace.now c.self.inside.done c.self.inside.office c.args.self.now c.args.zone z c.self.invariant c.self.view_is c.requires
    (c.index-as_slice-zone.is ∙ ap (λ (l : List ZoneLine). get_or l c.args.zone z) c.as_slice.ensures.same) in
    omega (arith, low, c.new.ensures, ap (λ (y : ZoneLine). y.base) c.index-as_slice-zone.is)
