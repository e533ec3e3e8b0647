use Rattle.std.proofs.Common.{◌≡◌, ◌≤◌, ◌∙◌, List, All, ap, arith, length, map, subst, sym}
use Rattle.std.specs.List.{range_with_len}
use Rattle.std.specs.Prelude.{IfOk}
use Rattle.std.proofs.lemmas.List.{length-map}
use Rattle.std.proofs.lemmas.Result.{IfErr-weaker, IfOk-weaker}
use Rattle.std.proofs.lemmas.Simd.{map-map}
use Rattle.zp_model.specs.declared.constants.TheConstants.{TRACE_ZONES}
use Rattle.zp_zone.specs.NamedZone.{NamedZone}
use Rattle.zp_share.specs.PlainShares.{PlainShare}
use Rattle.zp_share.specs.Shares.{named_zone, plain}
use Rattle.zp_crew.specs.declared.opening.Crew.{Crew}
use Rattle.zp_crew.specs.Opening as crew
use Rattle.zp_crew.specs.Opening.{CanBeMade, PlainConfig, opened_zone, plain_config}
use Rattle.zp_crew.proofs.Refusing.{memory_wants}
use Rattle.zp_office.specs.Opening.{declared_config}
use Rattle.zp_office.proofs.DeclaredZones.{all_can}
use Rattle.zp_office.proofs.opening.declared_crew.Goals as goal

pub open_crew-requires-clause-some : goal.open_crew-requires-clause-some
open_crew-requires-clause-some c =
    let zones = c.args.header.now.zones in
    let same = ap (map plain_config) c.deref.ensures.value ∙ c.in_ok-configs.ensures.configs ∙ ap (map declared_config) c.as_slice.ensures.same in
    omega (arith, length-map c.deref.result.now plain_config, ap length same, length-map zones declared_config, c.requires.some)

pub open_crew-requires-clause-few : goal.open_crew-requires-clause-few
open_crew-requires-clause-few c =
    let zones = c.args.header.now.zones in
    let same = ap (map plain_config) c.deref.ensures.value ∙ c.in_ok-configs.ensures.configs ∙ ap (map declared_config) c.as_slice.ensures.same in
    omega (arith, length-map c.deref.result.now plain_config, ap length same, length-map zones declared_config, c.requires.few)

pub returns-clause-zones : goal.returns-clause-zones
returns-clause-zones c =
    let h = c.args.header.now in
    let same = ap (map plain_config) c.deref.ensures.value ∙ c.in_ok-configs.ensures.configs ∙ ap (map declared_config) c.as_slice.ensures.same in
    subst (λ (l : List NamedZone). IfOk c.open_crew.result (λ (k : Crew). map named_zone k.zones.items ≡ l))
    (ap (map (opened_zone h.workers)) same ∙ map-map (opened_zone h.workers) declared_config h.zones)
    c.open_crew.ensures.zones

pub returns-clause-shares : goal.returns-clause-shares
returns-clause-shares c =
    let h = c.args.header.now in
    let same = ap (map plain_config) c.deref.ensures.value ∙ c.in_ok-configs.ensures.configs ∙ ap (map declared_config) c.as_slice.ensures.same in
    let batch : c.in-Some.lists.batch ≡ h.batch = omega (arith, c.in-Some.ensures.some.0, c.requires.lists.most) in
    let high : c.in-Some.lists.high_len ≡ h.high = omega (arith, c.in-Some.ensures.some.1, c.requires.lists.longest) in
    subst (λ (l : List PlainShare). IfOk c.open_crew.result (λ (k : Crew). map plain k.shares.items ≡ l))
    (λ i. map (crew.opening_share (batch i) (high i) (same i)) (range_with_len 0 h.workers))
    c.open_crew.ensures.shares

pub returns-clause-few : goal.returns-clause-few
returns-clause-few c =
    let zones = c.args.header.now.zones in
    let same = ap (map plain_config) c.deref.ensures.value ∙ c.in_ok-configs.ensures.configs ∙ ap (map declared_config) c.as_slice.ensures.same in
    IfOk-weaker c.open_crew.result (λ (k : Crew). length k.zones.items ≡ length c.deref.result.now) (λ (k : Crew). length k.zones.items ≤ TRACE_ZONES)
    (λ k many. omega (arith, many, length-map c.deref.result.now plain_config, ap length same, length-map zones declared_config, c.requires.few))
    c.open_crew.ensures.many

pub returns-clause-why : goal.returns-clause-why
returns-clause-why c =
    let h = c.args.header.now in
    let same = ap (map plain_config) c.deref.ensures.value ∙ c.in_ok-configs.ensures.configs ∙ ap (map declared_config) c.as_slice.ensures.same in
    let all : All (CanBeMade h.workers) (map plain_config c.deref.result.now) = subst (λ (l : List PlainConfig). All (CanBeMade h.workers) l) (sym same) (all_can h c.requires) in
    IfErr-weaker c.open_crew.result _ _ (λ r why. memory_wants h.workers (map plain_config c.deref.result.now) r all why) c.open_crew.ensures.why
