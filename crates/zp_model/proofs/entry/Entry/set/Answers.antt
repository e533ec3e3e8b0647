use Rattle.std.proofs.Common.{◌∙◌}
use Rattle.zp_model.specs.Entries.{entry_of_parts}
use Rattle.zp_model.proofs.EntryParts.{parts_whole}
use Rattle.zp_model.proofs.entry.Entry.set.Goals as goal

pub returns : goal.returns
returns c =
    (λ i. entry_of_parts c.args.worker (c.asked_of-self-inside.ensures i) (c.answered_of-self-inside.ensures i) (c.set_pages.ensures i))
    ∙ parts_whole c.args.worker c.args.request.now c.args.reply.now _ c.requires
