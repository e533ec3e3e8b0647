use Rattle.std.proofs.Common.{ℕ, ◌∙◌, ap, replicate, arith, rules, [], Option, sym, subst}
use Rattle.zp_model.specs.Rows.{Rows, IsLoose}
use Rattle.zp_links.specs.declared.ends.Ends.{Ends}
use Rattle.zp_links.specs.Linked.{states_of}
use Rattle.zp_links.proofs.Writes.{Spell, opened}
use Rattle.zp_links.proofs.Moving.{empty_loose}
use Rattle.zp_links.proofs.lists.Lists.new.Goals.{In_ok-ends}
use Rattle.zp_links.proofs.lists.Lists.new.Goals as goal

made : (c : In_ok-ends) → Spell c.args.table c.in_ok-ends.ends.items (record { lists = replicate c.args.count []; states = states_of c.args.table })
made c =
    let copies : Option ℕ → _ = λ q. replicate c.args.count (let e : Ends = record { first = q; last = q; len = 0 } in e) in
    opened c.args.table c.in_ok-ends.ends.items c.args.count (omega arith) c.requires (c.in_ok-ends.ensures.items_if_clones_equal (λ y e. search rules) ∙ ap copies c.none-nowhere.ensures)

pub invariant_of-result : goal.invariant_of-result
invariant_of-result c = (made (goal.at.invariant_of-result c).In_ok-ends).0

pub returns-clause-lists : goal.returns-clause-lists
returns-clause-lists c = (made (goal.at.returns-clause-lists c).In_ok-ends).1

pub returns-clause-loose : goal.returns-clause-loose
returns-clause-loose c p = let P : Rows → Type 0 = λ w. IsLoose w.lists p in subst P (sym (returns-clause-lists c)) (empty_loose c.args.count p)
