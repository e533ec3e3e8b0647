use Rattle.zp_model.specs.Run.{is_out}
use Rattle.std.proofs.Common.{subst, refl, ◌≡◌, ◌+◌, ◌<◌, true, false, Some, ap, sym, ◌∙◌}
use Rattle.zp_model.specs.declared.request.Request.TheVariants as request
use Rattle.zp_model.specs.declared.request.Reply.TheVariants as Reply
use Rattle.zp_model.specs.Choose.{Chosen, choose}
use Rattle.zp_model.specs.Frames.{Frames}
use Rattle.zp_model.specs.Mark.{passes}
use Rattle.zp_model.specs.Step.{Outcome}
use Rattle.zp_model.specs.Zone.{workers_of}
use Rattle.zp_laws.proofs.StaysOut.{alloc-kept, alloc-handed}
use Rattle.zp_zone.specs.NamedZone.{KeepsOut, NamedZone}
use Rattle.zp_zone.specs.Kept.{plain_of}
use Rattle.zp_zone.proofs.BlockSteps.{alloc_below, alloc_none, chosen_none, chosen_some, held_by, passes_by, stays_left, stays_kept, nothing, held_out, some_left, some_reply, some_kept}
use Rattle.zp_zone.proofs.Callers.{lawful_in, reply_in, after_in}
use Rattle.zp_zone.proofs.untied_zone.UntiedZone.alloc.Goals as goal

-- the mark's test fails
below : (c : goal.Then-not-is_above) → passes (plain_of c.self.inside.buddy c.self.inside.base c.self.inside.min) c.args.order c.args.mark ≡ false
below c = passes_by c.self.inside.buddy c.self.inside.base c.self.inside.min _ c.args.order c.args.mark false refl c.if-not-is_above.ensures

pub returns-then-not-is_above-clause-reply : goal.returns-then-not-is_above-clause-reply
returns-then-not-is_above-clause-reply c =
    reply_in c.args.self.now _ _ c.args.worker (request.Alloc c.args.order c.args.kind c.args.mark) _ c.self.view_is (ap (λ (o : Outcome). o.reply) (sym (alloc_below _ _ _ _ _ (below c))))

pub returns-then-not-is_above-clause-after : goal.returns-then-not-is_above-clause-after
returns-then-not-is_above-clause-after c =
    sym c.self.view_is
    ∙ after_in c.args.self.now _ _ _ c.args.worker (request.Alloc c.args.order c.args.kind c.args.mark) c.self.view_is (ap (λ (o : Outcome). o.zone) (sym (alloc_below _ _ _ _ _ (below c))))

-- the test passes, and no block is chosen
pub invariant_of-self : goal.invariant_of-self
invariant_of-self c = stays_kept _ _ _ _ _ c.self.invariant c.pages-pages.ensures.framed (nothing _ _ _ _ c.in_default.ensures.answer c.in_default.ensures.after)

pub returns-in_default-clause-reply : goal.returns-in_default-clause-reply
returns-in_default-clause-reply c =
    let p = passes_by c.self.inside.buddy c.self.inside.base c.self.inside.min _ c.args.order c.args.mark true refl c.if-not-is_above.ensures in
    let none = chosen_none (c.self.inside.buddy).area c.args.order c.args.kind c.in_default.ensures.answer in
    reply_in c.args.self.now _ _ c.args.worker (request.Alloc c.args.order c.args.kind c.args.mark) _ c.self.view_is (ap (λ (o : Outcome). o.reply) (sym (alloc_none _ _ _ _ _ p none)))

pub returns-in_default-clause-after : goal.returns-in_default-clause-after
returns-in_default-clause-after c =
    let p = passes_by c.self.inside.buddy c.self.inside.base c.self.inside.min _ c.args.order c.args.mark true refl c.if-not-is_above.ensures in
    let none = chosen_none (c.self.inside.buddy).area c.args.order c.args.kind c.in_default.ensures.answer in
    after_in c.args.self.now _ _ _ c.args.worker (request.Alloc c.args.order c.args.kind c.args.mark) c.self.view_is
    (stays_left _ _ _ _ (record { framed = c.pages-pages.ensures.framed; lawful = c.self.invariant.lawful }) (nothing _ _ _ _ c.in_default.ensures.answer c.in_default.ensures.after) ∙ ap (λ (o : Outcome). o.zone) (sym (alloc_none _ _ _ _ _ p none)))

-- the test passes, and this block is chosen and held
above : (c : goal.After-new) → passes (plain_of c.self.inside.buddy c.self.inside.base c.self.inside.min) c.args.order c.args.mark ≡ true
above c = passes_by c.self.inside.buddy c.self.inside.base c.self.inside.min _ c.args.order c.args.mark true refl c.if-not-is_above.ensures

chosen : (c : goal.After-new) → (x : Chosen) × (choose (c.self.inside.buddy).area c.args.order c.args.kind ≡ Some x) × (x.head ≡ c.in-Some.head)
chosen c = chosen_some (c.self.inside.buddy).area c.args.order c.in-Some.head c.args.kind c.in-Some.ensures.answer

held : (c : goal.After-new) → c.hold.new.self ≡ held_out c.self.inside.buddy c.args.worker c.args.order c.args.kind (chosen c).0
held c = held_by _ _ _ _ _ _ _ _ c.in-Some.ensures.after (chosen c).1 (chosen c).2 c.hold.ensures.after

pub invariant_of-self-2 : goal.invariant_of-self-2
invariant_of-self-2 c =
    let workers : c.args.worker < workers_of (plain_of c.self.inside.buddy c.self.inside.base c.self.inside.min) = rw (← c.self.view_is) at c.requires.worker in
    rw (held c) (some_kept _ _ _ _ _ _ c.args.mark _ (chosen c).1 c.self.inside.name c.self.invariant c.pages-pages.ensures.framed workers)

pub returns-clause-reply : goal.returns-clause-reply
returns-clause-reply c =
    let e : c.new.result ≡ c.self.inside.base + (chosen c).0.head = c.new.ensures ∙ ap (λ n. c.self.inside.base + n) (c.number.ensures.same ∙ sym (chosen c).2) in
    reply_in c.args.self.now _ _ c.args.worker (request.Alloc c.args.order c.args.kind c.args.mark) _ c.self.view_is (ap (λ n. Reply.Page n) e ∙ some_reply _ _ _ _ _ _ _ _ (chosen c).1 (above c))

pub returns-clause-after : goal.returns-clause-after
returns-clause-after c =
    after_in c.args.self.now _ _ _ c.args.worker (request.Alloc c.args.order c.args.kind c.args.mark) c.self.view_is
    (ap (λ (q : Frames). plain_of q c.self.inside.base c.self.inside.min) (held c)
    ∙ some_left _ _ _ _ _ _ _ _ (chosen c).1 (record { framed = c.pages-pages.ensures.framed; lawful = c.self.invariant.lawful }) (above c))

pub returns-in_default-clause-kept : goal.returns-in_default-clause-kept
returns-in_default-clause-kept c =
    subst (KeepsOut c.args.self.now.plain) (sym (ap (λ (n : NamedZone). n.plain) (returns-in_default-clause-after c))) (alloc-kept _ _ _ _ _ (lawful_in _ _ _ c.self.view_is c.self.invariant.lawful))

pub returns-clause-kept : goal.returns-clause-kept
returns-clause-kept c =
    subst (KeepsOut c.args.self.now.plain) (sym (ap (λ (n : NamedZone). n.plain) (returns-clause-after c))) (alloc-kept _ _ _ _ _ (lawful_in _ _ _ c.self.view_is c.self.invariant.lawful))

pub returns-clause-out : goal.returns-clause-out
returns-clause-out c =
    subst (λ z. is_out z c.args.worker c.new.result c.args.order ≡ true) (sym (ap (λ (n : NamedZone). n.plain) (returns-clause-after c)))
    (alloc-handed _ _ _ _ _ (lawful_in _ _ _ c.self.view_is c.self.invariant.lawful) _ (returns-clause-reply c)).out

pub returns-clause-fresh : goal.returns-clause-fresh
returns-clause-fresh c = (alloc-handed _ _ _ _ _ (lawful_in _ _ _ c.self.view_is c.self.invariant.lawful) _ (returns-clause-reply c)).fresh
