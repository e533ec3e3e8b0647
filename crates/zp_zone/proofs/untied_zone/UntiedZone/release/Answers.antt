use Rattle.std.proofs.Common.{◌≡◌, ◌<◌, Some, ap, sym, subst, arith, ◌∙◌}
use Rattle.std.specs.Prelude.{slice_get}
use Rattle.std.proofs.lemmas.Option.{slice_get-get_or}
use Rattle.zp_model.specs.declared.pageblock_type.PageblockType.{PageblockType}
use Rattle.zp_model.specs.declared.pageblock_type.PageblockType.TheVariants.{Movable}
use Rattle.zp_model.specs.declared.request.Request.TheVariants as request
use Rattle.zp_model.specs.Frames.{Frames}
use Rattle.zp_model.specs.Step.{Outcome}
use Rattle.zp_model.specs.Zone.{workers_of}
use Rattle.zp_zone.specs.Kept.{plain_of}
use Rattle.zp_zone.specs.NamedZone.{KeepsOut, NamedZone}
use Rattle.zp_zone.proofs.RetypeSteps.{released_it, release-kept, released_left, released_kept}
use Rattle.zp_zone.proofs.Callers.{reply_in, after_in}
use Rattle.zp_zone.proofs.untied_zone.UntiedZone.release.Goals.{After-retype}
use Rattle.zp_zone.proofs.untied_zone.UntiedZone.release.Goals as goal

-- the type that the pageblock has now
there : (c : After-retype) → slice_get (c.self.inside.buddy).area.kinds c.args.pageblock ≡ Some c.pageblock_type.result
there c =
    slice_get-get_or (c.self.inside.buddy).area.kinds c.args.pageblock Movable (omega (arith, c.pageblocks.ensures.typed, c.if-number-pageblocks.false))
    ∙ ap (λ (t : PageblockType). Some t) (sym c.pageblock_type.ensures)

pub invariant_of-self : goal.invariant_of-self
invariant_of-self c =
    let f : Frames = c.self.inside.buddy in
    let workers : c.args.worker < workers_of (plain_of f c.self.inside.base c.self.inside.min) = rw (← c.self.view_is) at c.requires.worker in
    let b = (goal.at.invariant_of-self c).After-retype in
    rw (c.retype.ensures.after, c.pageblock_type-2.ensures)
    (released_kept f c.self.inside.base c.self.inside.min c.args.worker c.args.pageblock c.args.kind c.pageblock_type.result c.pages-pages.ensures.framed (there b) (sym c.if-not-is_isolate.ensures) c.self.inside.name c.self.invariant workers)

pub returns-clause-reply : goal.returns-clause-reply
returns-clause-reply c =
    let f : Frames = c.self.inside.buddy in
    reply_in c.args.self.now _ (plain_of f c.self.inside.base c.self.inside.min) c.args.worker (request.Release c.args.pageblock c.args.kind) _ c.self.view_is
    (ap (λ (o : Outcome). o.reply) (sym (released_it (plain_of f c.self.inside.base c.self.inside.min) c.args.pageblock c.pageblock_type.result (there c) c.args.kind (sym c.if-not-is_isolate.ensures))))

pub returns-clause-after : goal.returns-clause-after
returns-clause-after c =
    let f : Frames = c.self.inside.buddy in
    after_in c.args.self.now _ (plain_of f c.self.inside.base c.self.inside.min) _ c.args.worker (request.Release c.args.pageblock c.args.kind) c.self.view_is
    (ap (λ (q : Frames). plain_of q c.self.inside.base c.self.inside.min) (rw c.pageblock_type-2.ensures at c.retype.ensures.after)
    ∙ released_left f c.self.inside.base c.self.inside.min c.args.worker c.args.pageblock c.args.kind c.pageblock_type.result c.pages-pages.ensures.framed (there c) (sym c.if-not-is_isolate.ensures) c.self.invariant.lawful)

pub returns-clause-kept : goal.returns-clause-kept
returns-clause-kept c =
    subst (KeepsOut c.args.self.now.plain) (sym (ap (λ (n : NamedZone). n.plain) (returns-clause-after c))) (release-kept c.args.self.now.plain c.args.worker c.args.pageblock c.args.kind)
