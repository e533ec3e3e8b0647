use Rattle.std.proofs.Common.{◌≡◌, ◌&&◌, ℕ, not, length, List, Bool, arith, sym, ◌∙◌}
use Rattle.std.proofs.lemmas.List.{append-nil}
use Rattle.zp_model.specs.declared.pageblock_type.PageblockType.{PageblockType}
use Rattle.zp_model.specs.Rows.{stands_in}
use Rattle.zp_model.specs.Area.{belongs}
use Rattle.zp_plain.proofs.Settled.{put, skip, room, falling_begins, length-falling-le}
use Rattle.zp_plain.proofs.area.put_fresh.Goals as goal

abbrev fresh_on : ℕ → List Bool → List PageblockType → ℕ → List ℕ → ℕ → Bool
fresh_on m free kinds list old h = belongs m free kinds list h && not (stands_in h old)

pub push-requires : goal.push-requires
push-requires c =
    let lt = room (fresh_on c.args.largest c.args.free.now c.args.kinds.now c.args.list c.args.old.now) _ _ _ _ _ (falling_begins _ _ c.at-head.ensures c.fresh-test.true) c.fresh.invariant.fresh (sym c.is_fresh.ensures ∙ c.if-is_fresh.true) in
    omega (arith, lt, length-falling-le (fresh_on c.args.largest c.args.free.now c.args.kinds.now c.args.list c.args.old.now) (length c.args.free.now))

pub fresh-preserved-then-is_fresh : goal.fresh-preserved-then-is_fresh
fresh-preserved-then-is_fresh c = record {
  within = omega (arith, c.fresh.invariant.within);
  fresh = rw c.push.ensures (put (fresh_on c.args.largest c.args.free.now c.args.kinds.now c.args.list c.args.old.now) _ _ _ _ _ (falling_begins _ _ c.at-head.ensures c.fresh-test.true) c.fresh.invariant.fresh (sym c.is_fresh.ensures ∙ c.if-is_fresh.true));
}

pub fresh-preserved : goal.fresh-preserved
fresh-preserved c = record {
  within = omega (arith, c.fresh.invariant.within);
  fresh = skip (fresh_on c.args.largest c.args.free.now c.args.kinds.now c.args.list c.args.old.now) _ _ _ _ _ (falling_begins _ _ c.at-head.ensures c.fresh-test.true) c.fresh.invariant.fresh (sym c.is_fresh.ensures ∙ c.if-is_fresh.false);
}

pub returns : goal.returns
returns c = let none : c.fresh.left ≡ 0 = omega arith in sym (append-nil c.fresh.new) ∙ rw none at c.fresh.invariant.fresh
