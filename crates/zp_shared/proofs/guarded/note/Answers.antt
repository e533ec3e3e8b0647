use Rattle.std.proofs.Common.{◌∙◌, ◌++◌, ◌∷◌, [], ap, subst, sym}
use Rattle.zp_model.specs.declared.counts.Counts.{Counts}
use Rattle.zp_counts.specs.CountBoards.{ArePackable}
use Rattle.zp_counts.proofs.FewBlocks.{few_blocks}
use Rattle.zp_shared.proofs.guarded.note.Goals as goal

pub publish-requires-clause-packable : goal.publish-requires-clause-packable
publish-requires-clause-packable g c = λ packed.
    let area = c.args.zone.now.plain.area in
    subst ArePackable (sym c.counts.ensures.counts) (few_blocks area.largest area.free (c.requires.counts packed))

pub returns-clause-published : goal.returns-clause-published
returns-clause-published g c =
    c.publish.ensures.published ∙ ap (λ (counts : Counts). c.args.publisher.now.published ++ counts ∷ []) c.counts.ensures.counts
