use Rattle.std.proofs.Common.{◌∙◌, ap, subst, sym, take}
use Rattle.zp_model.specs.Run.{IsLegal, opening_of, run}
use Rattle.zp_journal.specs.declared.pieces.Piece.{Piece}
use Rattle.zp_shared.specs.Rows.{GuardedZone}
use Rattle.zp_shared.proofs.Cutting.{legal_rest}
use Rattle.zp_shared.proofs.guarded.cutting.Guarded+J+CutJournal.cut.Goals as goal

pub returns-clause-legal : goal.returns-clause-legal
returns-clause-legal g c =
    let z = c.self.inside.zone in
    let k = c.self.inside.journal in
    let kept = c.self.invariant.1 in
    subst (λ (v : GuardedZone). IsLegal (run (opening_of v.zone.plain) (take v.handed v.zone.entries)) c.cut.result.journal.entries) c.self.view_is
    (subst (IsLegal (run (opening_of z.plain) (take k.handed z.entries))) (sym (ap (λ (p : Piece). p.journal.entries) c.cut.ensures.piece ∙ kept.rest))
    (legal_rest (opening_of z.plain) z.entries k.handed kept.history.legal))
