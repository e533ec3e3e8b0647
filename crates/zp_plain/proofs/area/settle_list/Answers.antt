use Rattle.std.proofs.Common.{◌≡◌, ◌≤◌, ◌++◌, length, arith, ◌∙◌, ap}
use Rattle.std.specs.List.{filter}
use Rattle.zp_model.specs.Area.{belongs, settled}
use Rattle.zp_plain.proofs.Settled.{length-settled-le, settled_parts}
use Rattle.zp_plain.proofs.area.settle_list.Goals as goal

pub put_kept-requires-clause-room : goal.put_kept-requires-clause-room
put_kept-requires-clause-room c =
    let p = belongs c.args.largest c.args.free.now c.args.kinds.now c.args.list in
    let e : length (c.put_fresh.new.new ++ filter p c.args.old.now) ≡ length (settled c.args.largest c.args.free.now c.args.kinds.now c.args.list c.args.old.now) =
    ap length (ap (λ q. q ++ filter p c.args.old.now) c.put_fresh.ensures ∙ settled_parts _ _ _ _ _) in
    let n : length (settled c.args.largest c.args.free.now c.args.kinds.now c.args.list c.args.old.now) ≤ length c.args.free.now = length-settled-le _ _ _ _ _ c.requires.distinct in
    omega arith

pub returns : goal.returns
returns c =
    c.put_kept.ensures
    ∙ ap (λ q. q ++ filter (belongs c.args.largest c.args.free.now c.args.kinds.now c.args.list) c.args.old.now) c.put_fresh.ensures ∙ settled_parts _ _ _ _ _
