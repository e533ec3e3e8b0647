use Rattle.std.proofs.Common.{◌≡◌, [], ◌∙◌, ap, arith, get_or-set_same, get_or-set_other, length-set, below_more}
use Rattle.std.proofs.lemmas.List.{get_or_default}
use Rattle.std.proofs.lemmas.List.FromFn.{fill_by_all}
use Rattle.zp_model.specs.Rows.{list_at}
use Rattle.zp_model.specs.Area.{lists_count, settled, settle}
use Rattle.zp_plain.proofs.area.settle.Goals.{After-as_slice}
use Rattle.zp_plain.proofs.area.settle.Goals as goal

-- the list is as it was, until it is settled
unsettled : (c : After-as_slice) → c.as_slice.result.now ≡ list_at c.args.lists.now.items c.lists.list
unsettled c =
    c.as_slice.ensures ∙ c.index.ensures ∙ get_or_default c.lists.lists.items c.lists.list _ [] (omega (arith, c.lists.invariant.table)) ∙ c.lists.invariant.left c.lists.list (omega arith)

pub settle_list-requires-clause-distinct : goal.settle_list-requires-clause-distinct
settle_list-requires-clause-distinct c = rw (unsettled (goal.at.settle_list-requires-clause-distinct c).After-as_slice) (c.requires.distinct c.lists.list (omega arith))

pub settle_list-requires-clause-inside : goal.settle_list-requires-clause-inside
settle_list-requires-clause-inside c = rw (unsettled (goal.at.settle_list-requires-clause-inside c).After-as_slice) (λ p s. c.requires.inside c.lists.list p (omega arith) s)

pub lists-preserved : goal.lists-preserved
lists-preserved c =
    let e = unsettled (goal.at.lists-preserved c).After-as_slice in
    record {
      table = length-set _ _ _ ∙ c.lists.invariant.table;
      done =
          below_more _ _ (λ q lt. get_or-set_other c.lists.lists.items c.lists.list q c.swap.new.x [] (omega arith) ∙ c.lists.invariant.done q lt)
          (get_or-set_same c.lists.lists.items c.lists.list c.swap.new.x [] (omega (arith, c.lists.invariant.table)) ∙ c.swap.ensures.x_after ∙ c.settle_list.ensures ∙ ap (λ xs. settled c.args.largest c.args.free.now c.args.kinds.now c.lists.list xs) e);
      left = λ q le. get_or-set_other c.lists.lists.items c.lists.list q c.swap.new.x [] (omega arith) ∙ c.lists.invariant.left q (omega arith);
    }

pub returns : goal.returns
unfolding settle
returns c =
    fill_by_all (λ r. settled c.args.largest c.args.free.now c.args.kinds.now r (list_at c.args.lists.now.items r)) c.lists.lists.items (lists_count c.args.largest) [] c.lists.invariant.table
    (λ q lt. c.lists.invariant.done q (omega arith))
