use Rattle.std.proofs.Common.{◌+◌, arith}
use Rattle.zp_tree.proofs.FirstPlaces.{IsFirstUpTo, next_level_first, next_level_later}
use Rattle.zp_tree.proofs.word.Word.first.Goals.{then-place-end, else-place-end}
use Rattle.zp_tree.proofs.word.Word.first.Goals as goal

pub levels-preserved : goal.levels-preserved
levels-preserved c =
    let next : IsFirstUpTo c.args.self c.args.least (c.levels.level + 1) c.if-place-end.first c.if-place-end.end = elim c.if-place-end.branch [
      | then-place-end w ↦
          rw (w.first-is, w.end-is, c.unwrap_or-place.ensures) (next_level_first _ _ _ _ _ _ c.levels.invariant c.first_of.ensures c.levels.auto.level (omega (arith, c.unwrap_or-place.ensures, w.if-place-end.true)))
      | else-place-end w ↦ rw (w.first-is, w.end-is) (next_level_later _ _ _ _ _ _ c.levels.invariant c.first_of.ensures (omega (arith, c.unwrap_or-place.ensures, w.if-place-end.false)))
    ] in
    next
