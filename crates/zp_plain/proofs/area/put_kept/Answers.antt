use Rattle.std.proofs.Common.{arith, sym, ◌∙◌}
use Rattle.zp_plain.proofs.Settled.{put, skip, room, drop_begins, stands_at}
use Rattle.zp_plain.proofs.area.put_kept.Goals as goal
use Rattle.zp_plain.proofs.area.put_kept.Goals.{then-belongs, else-belongs}

pub belongs-requires-clause-head : goal.belongs-requires-clause-head
belongs-requires-clause-head c = c.requires.inside _ (stands_at c.args.old.now _ _ c.head-item.is c.kept-test.true)

pub push-requires : goal.push-requires
push-requires c =
    let lt = room _ _ _ _ _ _ (drop_begins _ _ _ c.head-item.is c.kept-test.true) c.kept.invariant (sym c.belongs.ensures ∙ c.if-belongs.true) in
    omega (arith, lt, c.requires.room)

pub kept-preserved : goal.kept-preserved
kept-preserved c =
    let next = drop_begins _ _ _ c.head-item.is c.kept-test.true in
    elim c.if-belongs.branch [
      | then-belongs w ↦ rw (w.new-is, w.push.ensures) (put _ _ _ _ _ _ next c.kept.invariant (sym c.belongs.ensures ∙ w.if-belongs.true))
      | else-belongs w ↦ rw w.new-is (skip _ _ _ _ _ _ next c.kept.invariant (sym c.belongs.ensures ∙ w.if-belongs.false))
    ]
