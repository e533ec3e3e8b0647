use Rattle.std.proofs.Common.{ap, sym, ◌∙◌}
use Rattle.zp_model.specs.Area.{pageblocks_of}
use Rattle.zp_buddy.proofs.Settled.{length-pages}
use Rattle.zp_buddy.proofs.buddy.Buddy.pageblocks.Goals as goal

pub returns-clause-pages : goal.returns-clause-pages
returns-clause-pages c =
    let a = c.self.inside.area in
    rw (← c.self.view_is) (c.pageblocks.ensures.same ∙ c.self.invariant.typed ∙ ap (pageblocks_of a.largest) (sym (length-pages a.rows.states)))
