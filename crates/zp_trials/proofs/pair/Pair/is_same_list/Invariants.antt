use Rattle.std.proofs.Common.{IfSome}
use Rattle.zp_model.specs.Rows.{IsOn}
use Rattle.zp_model.specs.Area.{list_number}
use Rattle.zp_trials.proofs.pair.Pair.is_same_list.Given as goal

-- the blocks looked at stand on their lists
abbrev pub invariant-blocks-2 : goal.invariant-blocks-2
invariant-blocks-2 l = record {
  linked : IfSome l.head (λ at. IsOn l.self.buddy.area.lists (list_number l.order l.kind) at);
  plain : IfSome l.plain_head (λ at. IsOn l.self.plain.area.lists (list_number l.order l.kind) at);
}
