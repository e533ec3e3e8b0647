use Rattle.zp_laws.proofs.Held.{out-to}
use Rattle.zp_laws.proofs.StaysOut.{handed_on-gone, handed_on-kept}
use Rattle.std.proofs.Common.{subst, ℕ, ◌-◌, ◌+◌, ◌^◌, ◌≡◌, ◌<◌, ◌++◌, [], ◌∷◌, false, set, ap, sym, ◌∙◌, arith}
use Rattle.zp_model.specs.declared.request.Request.TheVariants as request
use Rattle.zp_model.specs.Block.{has}
use Rattle.zp_model.specs.Frames.{Frames}
use Rattle.zp_model.specs.Rows.{list_at, state_at}
use Rattle.zp_model.specs.Zone.{workers_of, holding_at}
use Rattle.zp_model.specs.Step.{handed_on, step}
use Rattle.zp_zone.specs.NamedZone.{KeepsOutBut, IsFresh, NamedZone}
use Rattle.zp_zone.specs.Kept.{plain_of, IsKept}
use Rattle.zp_zone.proofs.BlockSteps.{IsAsked, held_used, holding_in}
use Rattle.zp_zone.proofs.Callers.{after_in}
use Rattle.zp_zone.proofs.PostSteps.{posted_few, IsNotedOut, noted_out, posted_frames, plain-posted, posted_kept}
use Rattle.zp_zone.proofs.untied_zone.UntiedZone.post.Goals.{In-Out, After-side_push_back}
use Rattle.zp_zone.proofs.untied_zone.UntiedZone.post.Goals as goal

-- the page of the block is not free
used : (c : In-Out) → has (c.self.inside.buddy).area.free c.at-at.result ≡ false
used c =
    let f : Frames = c.self.inside.buddy in
    let place : c.at-at.result ≡ c.args.page - c.self.inside.base = c.at-at.ensures ∙ ap (λ n. n - c.self.inside.base) c.number.ensures.same in
    let held = holding_in c.args.self.now c.self.inside.name f c.self.inside.base c.self.inside.min c.args.worker c.args.page c.args.order c.self.view_is c.requires.out in
    let asked : IsAsked f c.self.inside.base c.self.inside.min = record { framed = c.pages-pages.ensures.framed; lawful = c.self.invariant.lawful } in
    ap (has f.area.free) place ∙ held_used f c.self.inside.base c.self.inside.min _ _ _ asked held

pub hold-requires-clause-used : goal.hold-requires-clause-used
hold-requires-clause-used c = used (goal.at.hold-requires-clause-used c).In-Out

pub side_push_back-requires-clause-used : goal.side_push_back-requires-clause-used
side_push_back-requires-clause-used c =
    ap (λ (f : Frames). has f.area.free c.at-at.result) c.hold.ensures.after ∙ used (goal.at.side_push_back-requires-clause-used c).In-Out

-- the place of the page
place : (c : After-side_push_back) → c.at-at.result ≡ c.args.page - c.self.inside.base
place c = c.at-at.ensures ∙ ap (λ n. n - c.self.inside.base) c.number.ensures.same

-- the block is out there, with the type that is noted
noted : (c : After-side_push_back) → IsNotedOut c.self.inside.buddy c.self.inside.base c.self.inside.min c.args.worker c.at-at.result c.args.order c.in-Out.kind
noted c =
    let f : Frames = c.self.inside.buddy in
    let held = holding_in c.args.self.now c.self.inside.name f c.self.inside.base c.self.inside.min c.args.worker c.args.page c.args.order c.self.view_is c.requires.out in
    rw (place c) (noted_out f _ _ _ _ _ _ _ _ held (ap (state_at f.states) (sym (place c)) ∙ sym c.holding.ensures ∙ c.in-Out.is))

-- the frames that hold the block, in the words of the definitions
left : (c : After-side_push_back) → c.side_push_back.new.self ≡ posted_frames c.self.inside.buddy c.args.to c.at-at.result c.args.order c.in-Out.kind
left c =
    let push : Frames → ℕ → Frames = λ f q. record f { sides = set f.sides q (list_at f.sides q ++ c.at-at.result ∷ []) } in
    c.side_push_back.ensures.after
    ∙ ap (λ (q : ℕ). push c.hold.new.self q) c.number-2.ensures.same
    ∙ ap (λ (f : Frames). push f c.args.to) c.hold.ensures.after

workers : (c : After-side_push_back) → c.args.to < workers_of (plain_of c.self.inside.buddy c.self.inside.base c.self.inside.min)
workers c = rw (← c.self.view_is) at c.requires.to

kept : (c : After-side_push_back) → IsKept c.self.inside.name c.side_push_back.new.self c.self.inside.base c.self.inside.min (c.self.inside.posted + 2 ^ c.args.order)
kept c = rw (left c) (posted_kept _ _ _ _ _ _ _ _ _ c.self.invariant c.pages-pages.ensures.framed (noted c) (workers c))

pub overflow_add-self : goal.overflow_add-self
overflow_add-self c =
    let b = (goal.at.overflow_add-self c).After-side_push_back in
    omega (arith, c.pages-pages-2.ensures.pages, posted_few _ _ _ _ _ (kept b))

pub invariant_of-self : goal.invariant_of-self
invariant_of-self c = rw c.pages-pages-2.ensures.pages (kept (goal.at.invariant_of-self c).After-side_push_back)

pub returns-clause-after : goal.returns-clause-after
returns-clause-after c =
    let b = (goal.at.returns-clause-after c).After-side_push_back in
    let f : Frames = c.self.inside.buddy in
    let asked : IsAsked f c.self.inside.base c.self.inside.min = record { framed = c.pages-pages.ensures.framed; lawful = c.self.invariant.lawful } in
    let z = plain_of f c.self.inside.base c.self.inside.min in
    let same : plain_of c.side_push_back.new.self c.self.inside.base c.self.inside.min ≡ (step z c.args.worker (request.Post c.args.page c.args.order c.args.to)).zone =
    ap (λ (q : Frames). plain_of q c.self.inside.base c.self.inside.min) (left b)
    ∙ plain-posted f _ _ _ _ _ _ _ asked (noted b)
    ∙ ap (λ h. handed_on z c.args.to h (holding_at z.out h)) (place b) in
    after_in c.args.self.now _ z _ c.args.worker (request.Post c.args.page c.args.order c.args.to) c.self.view_is same

pub returns-clause-gone : goal.returns-clause-gone
returns-clause-gone c =
    subst (λ z. IsFresh z c.args.page) (sym (ap (λ (n : NamedZone). n.plain) (returns-clause-after c))) (handed_on-gone c.args.self.now.plain c.args.page c.args.to)

pub returns-clause-kept : goal.returns-clause-kept
returns-clause-kept c =
    subst (KeepsOutBut c.args.page c.args.self.now.plain) (sym (ap (λ (n : NamedZone). n.plain) (returns-clause-after c)))
    (handed_on-kept c.args.self.now.plain c.args.page c.args.to _ (out-to c.args.self.now.plain c.args.worker c.args.page c.args.order c.requires.out).0)
