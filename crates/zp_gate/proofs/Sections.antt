-- What a request to the zone comes to, once it was made.
use Rattle.std.proofs.Common.{◌≡◌, ◌==◌, true, false, refl, sym, ◌∙◌, ap, subst, inr}
use Rattle.std.specs.Prelude.{Result, Ok, Err}
use Rattle.zp_model.specs.declared.refused.Refused.{Refused as Refusal}
use Rattle.zp_model.specs.declared.refused.Refused.TheVariants.{NotLent}
use Rattle.zp_model.specs.declared.request.Request.{Request}
use Rattle.zp_model.specs.declared.request.Reply.{Reply}
use Rattle.zp_share.specs.declared.sections_made.TheConstants.{LAST_SECTION}
use Rattle.zp_share.specs.PlainShares.{lends_for}
use Rattle.zp_share.specs.Shares.{ShareState, share_at}
use Rattle.zp_share.specs.ZoneShares.{plain_share}
use Rattle.zp_share.proofs.Tried.{not_lent_alone}
use Rattle.zp_gate.specs.declared.call_error.CallError.{CallError}
use Rattle.zp_gate.specs.declared.call_error.CallError.TheVariants.{Refused}
use Rattle.zp_gate.specs.GatedZones.{GateKey, GatedState, IsBehind, IsSectionOf}
use Rattle.zp_gate.specs.GatedWorkers.{GatedShareState, IsSection, LacksBlock, LacksWorker}

-- the share before and after, at the lock with this key
abbrev at : GateKey → ShareState → GatedShareState
at k s = record { key = k; share = s }

abbrev Lends : Request → GatedShareState → Type 0
Lends r d = lends_for r (plain_share (share_at d.share 0)) ≡ true

no_block : (r : Request) (d : GatedShareState) → Lends r d → LacksBlock r d → ⊥
no_block r d lends lacks = let same : false ≡ true = sym lacks.1 ∙ lends in cc

module _ {A : Type 0} (r : Request) (given : A → Reply) (k : GateKey) (y z : GatedState) (s t : ShareState) (behind : IsBehind k y) where
  -- it was granted
  was_granted : (a : A) → IsSectionOf r (given a) y z s t → (LacksWorker r (at k s) → ⊥) → Lends r (at k s) → IsSection r given (Ok a) (at k s) (at k t)
  was_granted a x worker lends = record {
    ok = (((y, z, behind, x), refl), worker);
    worker = (λ e. absurd (cc), λ lacks. absurd (worker lacks));
    lent = (λ e. absurd (cc), λ lacks. absurd (no_block r (at k s) lends lacks));
    why = tt;
    denied = tt;
  }

  -- or refused
  was_refused : (e : Refusal) → IsSectionOf r (Reply.Refused e) y z s t → (LacksWorker r (at k s) → ⊥) → Lends r (at k s) → IsSection r given (Err (Refused e)) (at k s) (at k t)
  was_refused e x worker lends =
      let own = plain_share (share_at s 0) in
      let lent : e ≡ NotLent → ⊥ = λ same.
      let none : lends_for r own ≡ false = (not_lent_alone (lends_for r own) (own.sections.made == LAST_SECTION) r (Reply.Refused e) y.zone z.zone (share_at s 0) (share_at t 0) x.0.made).0 (ap (λ (w : Refusal). Reply.Refused w) same) in
      let bad : false ≡ true = sym none ∙ lends in cc in
      record {
        ok = tt;
        worker = (λ is. absurd (cc), λ lacks. absurd (worker lacks));
        lent = (λ is. absurd (lent (let same : e ≡ NotLent = cc in same)), λ lacks. absurd (no_block r (at k s) lends lacks));
        why = tt;
        denied = inr (e, refl, lent, ((y, z, behind, x), refl));
      }

  pub granted : (a : A) (result : Result A CallError) (d : GatedShareState) → at k s ≡ d → result ≡ Ok a → IsSectionOf r (given a) y z s t → (LacksWorker r d → ⊥) → Lends r d → IsSection r given result d (at k t)
  granted a result d is told x worker lends =
      subst (λ (w : Result A CallError). IsSection r given w d (at k t)) (sym told)
      (subst (λ (e : GatedShareState). (LacksWorker r e → ⊥) → Lends r e → IsSection r given (Ok a) e (at k t)) is (was_granted a x) worker lends)

  pub denied : (e : Refusal) (result : Result A CallError) (d : GatedShareState) → at k s ≡ d → result ≡ Err (Refused e) → IsSectionOf r (Reply.Refused e) y z s t → (LacksWorker r d → ⊥) → Lends r d →
      IsSection r given result d (at k t)
  denied e result d is told x worker lends =
      subst (λ (w : Result A CallError). IsSection r given w d (at k t)) (sym told)
      (subst (λ (f : GatedShareState). (LacksWorker r f → ⊥) → Lends r f → IsSection r given (Err (Refused e)) f (at k t)) is (was_refused e x) worker lends)
