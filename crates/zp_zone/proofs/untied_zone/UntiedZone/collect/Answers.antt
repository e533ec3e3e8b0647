use Rattle.zp_model.specs.Run.{is_out}
use Rattle.std.proofs.Common.{subst, true, ℕ, ◌+◌, ◌^◌, ◌≡◌, ◌<◌, set, ap, sym, ◌∙◌, arith}
use Rattle.zp_model.specs.declared.block.Block.{Block}
use Rattle.zp_model.specs.declared.request.Request.TheVariants as request
use Rattle.zp_model.specs.declared.state.State.TheVariants.{Out, Posted}
use Rattle.zp_model.specs.Frames.{Frames}
use Rattle.zp_model.specs.Rows.{list_at, state_at, front, rest}
use Rattle.zp_model.specs.Zone.{workers_of, posted_pages}
use Rattle.zp_laws.proofs.StaysOut.{collect-kept, collect-handed}
use Rattle.zp_zone.specs.NamedZone.{KeepsOut, NamedZone}
use Rattle.zp_zone.specs.Kept.{plain_of}
use Rattle.zp_zone.proofs.Callers.{lawful_in, reply_in, after_in}
use Rattle.zp_zone.proofs.PostSteps.{IsFront, none_left, front_noted, front_block, collected_frames, plain-collected, collected_reply, pages_left, collected_kept}
use Rattle.zp_zone.proofs.untied_zone.UntiedZone.collect.Goals.{After-side_pop_front, After-pages-pages}
use Rattle.zp_zone.proofs.untied_zone.UntiedZone.collect.Goals as goal

-- the list is the receiver's
number : (c : After-side_pop_front) → c.number.result ≡ c.args.receiver
number c = c.number.ensures.same

answer : (c : After-side_pop_front) → c.side_pop_front.result ≡ front (list_at (c.self.inside.buddy).sides c.args.receiver)
answer c = c.side_pop_front.ensures.answer ∙ ap (λ n. front (list_at (c.self.inside.buddy).sides n)) (number c)

abbrev popped : Frames → ℕ → Frames
popped f w = record f { sides = set f.sides w (rest (list_at f.sides w)) }

after : (c : After-side_pop_front) → c.side_pop_front.new.self ≡ popped c.self.inside.buddy c.args.receiver
after c = c.side_pop_front.ensures.after ∙ ap (popped c.self.inside.buddy) (number c)

workers : (c : After-side_pop_front) → c.args.receiver < workers_of (plain_of c.self.inside.buddy c.self.inside.base c.self.inside.min)
workers c = rw (← c.self.view_is) at c.requires.receiver

-- nothing is posted to the worker
pub invariant_of-self : goal.invariant_of-self
invariant_of-self c =
    let b = (goal.at.invariant_of-self c).After-side_pop_front in
    let stays : c.side_pop_front.new.self ≡ c.self.inside.buddy = none_left _ _ _ (sym c.in_default.is ∙ answer b) (after b) in
    rw stays c.self.invariant

-- what is in front is noted as posted
pub unreachable-requires : goal.unreachable-requires
unreachable-requires c =
    let b = (goal.at.unreachable-requires c).After-side_pop_front in
    let f : Frames = c.self.inside.buddy in
    let r = front_noted f c.args.receiver c.in-Some.head c.self.invariant.aside (sym c.in-Some.is ∙ answer b) in
    c.in_default-holding.not-Posted r.0 r.1 c.args.receiver (c.holding.ensures ∙ ap (λ (g : Frames). state_at g.states c.in-Some.head) (after b) ∙ r.2)

-- the block in front, by its note
in_front : (c : After-pages-pages) → c.side_pop_front.result ≡ front (list_at (c.self.inside.buddy).sides c.args.receiver) →
    c.side_pop_front.new.self ≡ popped c.self.inside.buddy c.args.receiver → IsFront c.self.inside.buddy c.args.receiver c.in-Some.head c.in-Posted.order c.in-Posted.kind
in_front c answer after =
    let f : Frames = c.self.inside.buddy in
    let noted : state_at f.states c.in-Some.head ≡ Posted c.in-Posted.order c.in-Posted.kind c.in-Posted.field-2 =
    sym (ap (λ (g : Frames). state_at g.states c.in-Some.head) after) ∙ sym c.holding.ensures ∙ c.in-Posted.is in
    front_block f c.args.receiver _ _ _ _ c.self.invariant.aside (sym c.in-Some.is ∙ answer) noted (rw after at c.in-Some.ensures.head.0) (rw after at c.in-Some.ensures.loose)

-- the frames that hold the block, in the words of the definitions
left : (c : After-pages-pages) → c.side_pop_front.new.self ≡ popped c.self.inside.buddy c.args.receiver →
    c.hold.new.self ≡ collected_frames c.self.inside.buddy c.args.receiver c.in-Some.head c.in-Posted.order c.in-Posted.kind
left c after =
    let out : Frames → ℕ → Frames = λ f w. record f { states = set f.states c.in-Some.head (Out c.in-Posted.order c.in-Posted.kind w) } in
    c.hold.ensures.after ∙ ap (λ f. out f c.args.receiver) after

pub overflow_sub-self : goal.overflow_sub-self
overflow_sub-self c =
    let b = (goal.at.overflow_sub-self c).After-side_pop_front in
    let d = (goal.at.overflow_sub-self c).After-pages-pages in
    let f : Frames = c.self.inside.buddy in
    let counted : c.self.inside.posted ≡ posted_pages (plain_of f c.self.inside.base c.self.inside.min) = c.self.invariant.counted in
    let less = pages_left f c.self.inside.base c.self.inside.min _ _ _ _ (in_front d (answer b) (after b)) (workers b) in
    let p : c.pages-pages.result ≡ 2 ^ c.in-Posted.order = c.pages-pages.ensures.pages in
    omega (arith, less)

pub invariant_of-self-2 : goal.invariant_of-self-2
invariant_of-self-2 c =
    let b = (goal.at.invariant_of-self-2 c).After-side_pop_front in
    let d = (goal.at.invariant_of-self-2 c).After-pages-pages in
    let f : Frames = c.self.inside.buddy in
    rw (c.pages-pages.ensures.pages, left d (after b))
    (collected_kept c.self.inside.name f c.self.inside.base c.self.inside.min _ _ _ _ c.self.invariant (in_front d (answer b) (after b)) (workers b))

pub returns-clause-reply : goal.returns-clause-reply
returns-clause-reply c =
    let b = (goal.at.returns-clause-reply c).After-side_pop_front in
    let d = (goal.at.returns-clause-reply c).After-pages-pages in
    let f : Frames = c.self.inside.buddy in
    let page : c.new-page.result ≡ c.self.inside.base + c.in-Some.head = c.new-page.ensures ∙ ap (λ n. c.self.inside.base + n) c.number-2.ensures.same in
    reply_in c.args.self.now c.self.inside.name (plain_of f c.self.inside.base c.self.inside.min) c.args.receiver request.Collect _ c.self.view_is
    (collected_reply f _ _ _ _ _ _ (in_front d (answer b) (after b)) _ page)

pub returns-clause-after : goal.returns-clause-after
returns-clause-after c =
    let b = (goal.at.returns-clause-after c).After-side_pop_front in
    let d = (goal.at.returns-clause-after c).After-pages-pages in
    let f : Frames = c.self.inside.buddy in
    after_in c.args.self.now c.self.inside.name (plain_of f c.self.inside.base c.self.inside.min) _ c.args.receiver request.Collect c.self.view_is
    (ap (λ (q : Frames). plain_of q c.self.inside.base c.self.inside.min) (left d (after b)) ∙ plain-collected f _ _ _ _ _ _ (in_front d (answer b) (after b)))

-- the block that is answered
abbrev answered : goal.After-new-page → Block
answered c = record { page = c.new-page.result; order = c.in-Posted.order; kind = c.in-Posted.kind }

pub returns-clause-out : goal.returns-clause-out
returns-clause-out c =
    subst (λ z. is_out z c.args.receiver c.new-page.result c.in-Posted.order ≡ true) (sym (ap (λ (n : NamedZone). n.plain) (returns-clause-after c)))
    (collect-handed c.args.self.now.plain c.args.receiver (lawful_in _ _ _ c.self.view_is c.self.invariant.lawful) c.requires.receiver (answered c) (returns-clause-reply c)).out

pub returns-clause-fresh : goal.returns-clause-fresh
returns-clause-fresh c =
    (collect-handed c.args.self.now.plain c.args.receiver (lawful_in _ _ _ c.self.view_is c.self.invariant.lawful) c.requires.receiver (answered c) (returns-clause-reply c)).fresh

pub returns-clause-kept : goal.returns-clause-kept
returns-clause-kept c =
    subst (KeepsOut c.args.self.now.plain) (sym (ap (λ (n : NamedZone). n.plain) (returns-clause-after c))) (collect-kept c.args.self.now.plain c.args.receiver (lawful_in _ _ _ c.self.view_is c.self.invariant.lawful) c.requires.receiver)
