use Rattle.std.proofs.Common.{◌∙◌, ap, sym}
use Rattle.zp_model.specs.Rows.{list_at, rest}
use Rattle.zp_links.specs.declared.ends.Ends.{Ends}
use Rattle.zp_links.proofs.Places.{put_back}
use Rattle.zp_links.proofs.Splice.{row_of}
use Rattle.zp_links.proofs.Writes.{linked_in, read_ends}
use Rattle.zp_links.proofs.lists.Lists.pop_front.Goals as goal

pub returns-in-Some-clause-after : goal.returns-in-Some-clause-after
returns-in-Some-clause-after c =
    let x = row_of _ _ _ (linked_in _ _ _ c.self.view_is c.self.invariant) c.args.list in
    let own = read_ends _ _ _ _ _ c.self.view_is c.self.invariant c.requires c.index-ends.ensures in
    let at = sym (ap (λ (e : Ends). e.first) own ∙ x.front) ∙ sym c.page.ensures ∙ c.in-Some.is in
    rw (ap rest (put_back c.in-Some.at (list_at c.args.self.now.lists c.args.list) 0 at (λ k e. x.once k 0 c.in-Some.at e at))) c.remove.ensures.after
