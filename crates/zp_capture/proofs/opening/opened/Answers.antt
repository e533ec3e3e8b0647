use Rattle.std.proofs.Common.{◌≡◌, ◌∙◌, List, ap, arith, length, map, subst}
use Rattle.std.specs.List.{range_with_len}
use Rattle.std.specs.Prelude.{IfErr, IfOk}
use Rattle.std.proofs.lemmas.List.{length-map}
use Rattle.std.proofs.lemmas.Simd.{map-map}
use Rattle.zp_zone.specs.NamedZone.{NamedZone}
use Rattle.zp_share.specs.PlainShares.{PlainShare}
use Rattle.zp_share.specs.Shares.{named_zone, plain}
use Rattle.zp_crew.specs.declared.opening.Crew.{Crew}
use Rattle.zp_crew.specs.Opening as crew
use Rattle.zp_crew.specs.Opening.{IsWhyNone, PlainConfig, opened_zone, plain_config}
use Rattle.zp_capture.specs.Opening.{planned_config}
use Rattle.zp_capture.proofs.opening.opened.Goals as goal

pub open_crew-requires-clause-some : goal.open_crew-requires-clause-some
open_crew-requires-clause-some c =
    let m = c.args.settings.now in
    let plans = c.args.plans.now in
    let same = ap (map plain_config) c.deref.ensures.value ∙ c.in_ok-configs.ensures.configs in
    omega (arith, length-map c.deref.result.now plain_config, ap length same, length-map plans (planned_config m), c.requires.some)

pub open_crew-requires-clause-few : goal.open_crew-requires-clause-few
open_crew-requires-clause-few c =
    let m = c.args.settings.now in
    let plans = c.args.plans.now in
    let same = ap (map plain_config) c.deref.ensures.value ∙ c.in_ok-configs.ensures.configs in
    omega (arith, length-map c.deref.result.now plain_config, ap length same, length-map plans (planned_config m), c.requires.few)

pub returns-clause-zones : goal.returns-clause-zones
returns-clause-zones c =
    let m = c.args.settings.now in
    let plans = c.args.plans.now in
    let same = ap (map plain_config) c.deref.ensures.value ∙ c.in_ok-configs.ensures.configs in
    subst (λ (l : List NamedZone). IfOk c.open_crew.result (λ (k : Crew). map named_zone k.zones.items ≡ l))
    (ap (map (opened_zone m.workers)) same ∙ map-map (opened_zone m.workers) (planned_config m) plans)
    c.open_crew.ensures.zones

pub returns-clause-shares : goal.returns-clause-shares
returns-clause-shares c =
    let m = c.args.settings.now in
    let same = ap (map plain_config) c.deref.ensures.value ∙ c.in_ok-configs.ensures.configs in
    subst (λ (l : List PlainShare). IfOk c.open_crew.result (λ (k : Crew). map plain k.shares.items ≡ l))
    (ap (λ (cs : List PlainConfig). map (crew.opening_share m.lists.batch m.lists.high_len cs) (range_with_len 0 m.workers)) same)
    c.open_crew.ensures.shares

pub returns-clause-why : goal.returns-clause-why
returns-clause-why c =
    let m = c.args.settings.now in
    let same = ap (map plain_config) c.deref.ensures.value ∙ c.in_ok-configs.ensures.configs in
    subst (λ (cs : List PlainConfig). IfErr c.open_crew.result (IsWhyNone m.workers cs)) same c.open_crew.ensures.why
