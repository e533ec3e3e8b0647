use Rattle.std.proofs.Common.{◌≡◌, refl, rules, sym, subst}
use Rattle.std.specs.Prelude.{OnOk, Ok, Result}
use Rattle.std.specs.Arc.{arc_value}
use Rattle.zp_share.specs.Shares.{ShareState}
use Rattle.zp_gate.specs.declared.call_error.CallError.{CallError}
use Rattle.zp_gate.specs.GatedRows.{lock_key}
use Rattle.zp_gate.specs.GatedWorkers.{GatedShareState, HasTurned, IsFilled}
use Rattle.zp_gate.specs.GatedZones.{GateKey, IsBehind}
use Rattle.zp_gate.proofs.gated_share.GatedShare.refill.Goals.{in-Ok, in-Err}
use Rattle.zp_gate.proofs.gated_share.GatedShare.refill.Goals as goal

turned : (F : GateKey → ShareState → ShareState → Type 0) (d : GatedShareState) (k : GateKey) (s now : ShareState) (r : Result (Unit {0}) CallError) (u : Unit {0}) → record { key = k; share = s } ≡ d → r ≡ Ok u → F k s now
    → OnOk r (HasTurned (F d.key) d (record { key = k; share = now }))
turned F d k s now r u is e p =
    subst (λ (x : Result (Unit {0}) CallError). OnOk x (HasTurned (F d.key) d (record { key = k; share = now }))) (sym e) (subst (λ (x : GatedShareState). HasTurned (F x.key) x (record { key = k; share = now })) is (p, refl))

pub returns-clause-ok : goal.returns-clause-ok
returns-clause-ok c =
    let key = lock_key (arc_value c.self.inside.lock) in
    elim c.match-answer.branch [
      | in-Ok w ↦
          let behind : IsBehind key c.slot_mut-zone.result.now = search rules in
          let filled = w.in-Ok.ensures in
          turned (λ k. IsFilled k c.args.kind c.args.mark) c.args.self.now key c.self.inside.share c.fill-answer.new.share _ _ c.self.view_is w.result-is
          (filled.0, (c.slot_mut-zone.result.now, c.fill-answer.new.self, behind, filled.1))
      | in-Err w ↦ search rules
    ]
