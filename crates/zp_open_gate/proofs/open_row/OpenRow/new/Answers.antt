use Rattle.std.proofs.Common.{List, ◌∙◌, ◌++◌, ◌∷◌, [], ap, arith, map, subst, sym, take}
use Rattle.std.proofs.lemmas.List.{get_or_default, map_more, map_push}
use Rattle.std.proofs.lemmas.List.Elements.{All-more}
use Rattle.zp_open_gate.specs.declared.room_key.RoomKey.{RoomKey}
use Rattle.zp_open_gate.specs.Rows.{IsGoodConfig, key_for, lock_key}
use Rattle.zp_open_gate.proofs.Refusals.{why_no_row}
use Rattle.zp_open_gate.proofs.open_row.OpenRow.new.Goals as goal

pub loop-config-preserved : goal.loop-config-preserved
loop-config-preserved c =
    let kept = c.loop-config.invariant in let configs = c.args.configs.now in
    let i = c.loop-config.config-index in let config = c.config-item.result in let lt = c.loop-config-test.true in
    let lock = c.in-Ok-opened_lock.lock in let made = c.in-Ok-opened_lock.ensures in let was = c.loop-config.locks.items in
    record {
      many = omega (arith, c.push_reserved.ensures.len, kept.many);
      good = All-more IsGoodConfig configs i config lt kept.good (subst IsGoodConfig c.config-item.is made.good);
      room = omega (arith, c.push_reserved.ensures.capacity, kept.room);
      keys =
          ap (map lock_key) c.push_reserved.ensures.items ∙ map_push lock_key was lock ∙ ap (λ (ks : List RoomKey). ks ++ lock_key lock ∷ []) kept.keys
          ∙ ap (λ (k : RoomKey). map key_for (take i configs) ++ k ∷ []) (made.key ∙ ap key_for c.config-item.is) ∙ sym (map_more key_for configs i config lt);
    }

pub returns-in-Err-clause-why : goal.returns-in-Err-clause-why
returns-in-Err-clause-why c =
    let i = c.loop-config.config-index in let config = c.config-item.result in let lt = c.loop-config-test.true in
    why_no_row c.args.configs.now i config c.loop-config.invariant.good (lt, λ none. get_or_default c.args.configs.now i none config lt ∙ sym c.config-item.is) c.in-Err.why c.in-Err.ensures.why
