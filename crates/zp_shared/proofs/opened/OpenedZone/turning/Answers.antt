use Rattle.std.proofs.Common.{◌∙◌, sym, arith}
use Rattle.std.proofs.lemmas.Bool.{leb-true}
use Rattle.zp_shared.proofs.Publishing.{published_opening}
use Rattle.zp_shared.proofs.opened.OpenedZone.turning.Goals as goal

pub invariant_of-result : goal.invariant_of-result
invariant_of-result g c =
    let w = c.in-Ok.ensures in
    let room = rw (← w.capacity) at c.requires.room in
    (c.requires.keeps, room, rw c.requires.new (omega arith), w.tie, published_opening c.args.zone c.in-Ok.publisher.published c.history.ensures c.requires.new w.published, λ e. leb-true _ _ (sym w.packed ∙ e))
