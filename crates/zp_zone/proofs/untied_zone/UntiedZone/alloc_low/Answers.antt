use Rattle.zp_model.specs.Run.{is_out}
use Rattle.std.proofs.Common.{subst, true, sym, ℕ, Option, ◌+◌, ◌≡◌, ◌<◌, ap, ◌∙◌}
use Rattle.zp_model.specs.declared.block.Block.{Block}
use Rattle.zp_model.specs.declared.request.Request.TheVariants as request
use Rattle.zp_model.specs.Area.{kind_at}
use Rattle.zp_model.specs.PageblockType.{noted_type}
use Rattle.zp_model.specs.Frames.{Frames}
use Rattle.zp_model.specs.Step.{alloc_low_at}
use Rattle.zp_model.specs.Zone.{workers_of}
use Rattle.zp_laws.proofs.StaysOut.{alloc_low-kept, alloc_low-handed}
use Rattle.zp_zone.specs.NamedZone.{KeepsOut, NamedZone}
use Rattle.zp_zone.specs.Kept.{plain_of}
use Rattle.zp_zone.proofs.BlockSteps.{IsAsked, stays_left, stays_kept, none_stays, low_out, low_left, kind_stays, low_reply, held_low, low_out_kept}
use Rattle.zp_zone.proofs.Callers.{lawful_in, reply_in, after_in}
use Rattle.zp_zone.proofs.untied_zone.UntiedZone.alloc_low.Goals as goal

pub invariant_of-self : goal.invariant_of-self
invariant_of-self c =
    stays_kept _ _ _ _ _ c.self.invariant c.pages-pages.ensures.framed (none_stays _ _ _ c.in_default.ensures.answer c.in_default.ensures.after)

pub returns-in_default-clause-reply : goal.returns-in_default-clause-reply
returns-in_default-clause-reply c =
    let f : Frames = c.self.inside.buddy in
    reply_in c.args.self.now _ (plain_of f c.self.inside.base c.self.inside.min) c.args.worker (request.AllocLow c.args.order) _ c.self.view_is (ap (λ (o : Option ℕ). (alloc_low_at (plain_of f c.self.inside.base c.self.inside.min) c.args.worker c.args.order o).reply) c.in_default.ensures.answer)

pub returns-in_default-clause-after : goal.returns-in_default-clause-after
returns-in_default-clause-after c =
    let f : Frames = c.self.inside.buddy in
    let x : IsAsked f c.self.inside.base c.self.inside.min = record { framed = c.pages-pages.ensures.framed; lawful = c.self.invariant.lawful } in
    after_in c.args.self.now _ (plain_of f c.self.inside.base c.self.inside.min) _ c.args.worker (request.AllocLow c.args.order) c.self.view_is
    (stays_left _ _ _ _ x (none_stays _ _ _ c.in_default.ensures.answer c.in_default.ensures.after) ∙ ap (λ (o : Option ℕ). (alloc_low_at (plain_of f c.self.inside.base c.self.inside.min) c.args.worker c.args.order o).zone) c.in_default.ensures.answer)

pub returns-in_default-clause-kept : goal.returns-in_default-clause-kept
returns-in_default-clause-kept c =
    subst (KeepsOut c.args.self.now.plain) (sym (ap (λ (n : NamedZone). n.plain) (returns-in_default-clause-after c))) (alloc_low-kept c.args.self.now.plain c.args.worker c.args.order (lawful_in _ _ _ c.self.view_is c.self.invariant.lawful))

-- the type that is noted, and the frames that hold the block
noted_kind : (c : goal.After-new) → c.noted-noted.result ≡ noted_type (kind_at (c.self.inside.buddy).area.largest (c.self.inside.buddy).area.kinds c.in-Some.head)
noted_kind c =
    c.noted-noted.ensures
    ∙ ap noted_type (kind_stays _ c.take_low.new.self _ _ c.type_of.result c.in-Some.ensures.after c.in-Some.ensures.answer c.type_of.ensures)

held : (c : goal.After-new) → c.hold.new.self ≡ low_out c.self.inside.buddy c.args.worker c.in-Some.head c.args.order
held c =
    held_low _ c.take_low.new.self _ _ _ _ _ c.in-Some.ensures.after c.in-Some.ensures.answer (noted_kind c)
    (c.hold.ensures.after)

pub invariant_of-self-2 : goal.invariant_of-self-2
invariant_of-self-2 c =
    let f : Frames = c.self.inside.buddy in
    let workers : c.args.worker < workers_of (plain_of f c.self.inside.base c.self.inside.min) = rw (← c.self.view_is) at c.requires.worker in
    rw (held c) (low_out_kept _ _ _ _ _ _ _ c.self.invariant c.pages-pages.ensures.framed workers c.in-Some.ensures.answer)

pub returns-clause-reply : goal.returns-clause-reply
returns-clause-reply c =
    let f : Frames = c.self.inside.buddy in
    let page : c.new.result ≡ c.self.inside.base + c.in-Some.head = c.new.ensures ∙ ap (λ n. c.self.inside.base + n) c.number.ensures.same in
    reply_in c.args.self.now _ (plain_of f c.self.inside.base c.self.inside.min) c.args.worker (request.AllocLow c.args.order) _ c.self.view_is
    (low_reply f c.self.inside.base c.self.inside.min c.args.worker c.in-Some.head c.args.order c.new.result c.noted-noted.result c.in-Some.ensures.answer page (noted_kind c))

pub returns-clause-after : goal.returns-clause-after
returns-clause-after c =
    let f : Frames = c.self.inside.buddy in
    let x : IsAsked f c.self.inside.base c.self.inside.min = record { framed = c.pages-pages.ensures.framed; lawful = c.self.invariant.lawful } in
    after_in c.args.self.now _ (plain_of f c.self.inside.base c.self.inside.min) _ c.args.worker (request.AllocLow c.args.order) c.self.view_is
    (ap (λ (q : Frames). plain_of q c.self.inside.base c.self.inside.min) (held c) ∙ low_left f _ _ _ _ _ x c.in-Some.ensures.answer)

pub returns-clause-kept : goal.returns-clause-kept
returns-clause-kept c =
    subst (KeepsOut c.args.self.now.plain) (sym (ap (λ (n : NamedZone). n.plain) (returns-clause-after c))) (alloc_low-kept c.args.self.now.plain c.args.worker c.args.order (lawful_in _ _ _ c.self.view_is c.self.invariant.lawful))

-- the block that is answered
abbrev answered : goal.After-new → Block
answered c = record { page = c.new.result; order = c.args.order; kind = c.noted-noted.result }

pub returns-clause-out : goal.returns-clause-out
returns-clause-out c =
    subst (λ z. is_out z c.args.worker c.new.result c.args.order ≡ true) (sym (ap (λ (n : NamedZone). n.plain) (returns-clause-after c)))
    (alloc_low-handed c.args.self.now.plain c.args.worker c.args.order (lawful_in _ _ _ c.self.view_is c.self.invariant.lawful) (answered c) (returns-clause-reply c)).1.out

pub returns-clause-fresh : goal.returns-clause-fresh
returns-clause-fresh c =
    (alloc_low-handed c.args.self.now.plain c.args.worker c.args.order (lawful_in _ _ _ c.self.view_is c.self.invariant.lawful) (answered c) (returns-clause-reply c)).1.fresh
