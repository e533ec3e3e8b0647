use Rattle.std.specs.Prelude.{IsSome, true, ◌↔◌}
use Rattle.std.proofs.Common.{List, ◌≡◌, ◌∙◌, ◌++◌, All, length, take, ◌∷◌, [], ap, arith, map, subst, sym}
use Rattle.std.proofs.lemmas.List.{get_or_default, map_more, map_push}
use Rattle.std.proofs.lemmas.List.Elements.{All-more, All-push}
use Rattle.zp_share.specs.Shares.{ZoneKey}
use Rattle.zp_gate.specs.declared.opening.OpenedZone.{OpenedZone}
use Rattle.zp_gate.specs.GatedZones.{GateKey}
use Rattle.zp_gate.specs.GatedRows.{HaveBoards, IsGoodConfig, key_for, untied}
use Rattle.zp_gate.proofs.Keys.{key_in}
use Rattle.zp_gate.proofs.Refusals.{why_no_row}
use Rattle.zp_gate.proofs.opening.opened_zones.Goals as goal

pub loop-config-preserved : goal.loop-config-preserved
loop-config-preserved c =
    let kept = c.loop-config.invariant in let n = c.args.workers in let configs = c.args.configs.now in
    let i = c.loop-config.config-index in let config = c.config-item.result in let lt = c.loop-config-test.true in
    let zone = c.in-Ok-opened_zone.zone in let made = c.in-Ok-opened_zone.ensures in let was = c.loop-config.zones.items in
    let pushed = c.push_reserved.ensures.items in
    let HasBoard : GateKey → Type 0 = λ k. IsSome k.board ↔ (c.args.boards ≡ true) in
    let HasSeats : OpenedZone → Type 0 = λ z. length z.seats.items ≡ n in
    record {
      many = omega (arith, c.push_reserved.ensures.len, kept.many);
      good = All-more (IsGoodConfig n) configs i config lt kept.good (subst (IsGoodConfig n) c.config-item.is made.good);
      room = omega (arith, c.push_reserved.ensures.capacity, kept.room);
      keys =
          ap (λ zs. map untied (map key_in zs)) pushed ∙ ap (map untied) (map_push key_in was zone) ∙ map_push untied (map key_in was) (key_in zone) ∙ ap (λ (ks : List ZoneKey). ks ++ untied (key_in zone) ∷ []) kept.keys
          ∙ ap (λ (k : ZoneKey). map (key_for n) (take i configs) ++ k ∷ []) (made.key ∙ ap (key_for n) c.config-item.is) ∙ sym (map_more (key_for n) configs i config lt);
      boards = subst (HaveBoards c.args.boards) (sym (ap (map key_in) pushed ∙ map_push key_in was zone)) (All-push HasBoard (map key_in was) (key_in zone) kept.boards made.board);
      seats = subst (All HasSeats) (sym pushed) (All-push HasSeats was zone kept.seats made.seats);
    }

pub returns-in-Err-clause-why : goal.returns-in-Err-clause-why
returns-in-Err-clause-why c =
    let i = c.loop-config.config-index in let config = c.config-item.result in let lt = c.loop-config-test.true in
    why_no_row c.args.workers c.args.configs.now i config c.loop-config.invariant.good (lt, λ none. get_or_default c.args.configs.now i none config lt ∙ sym c.config-item.is) c.in-Err.why c.in-Err.ensures.why
