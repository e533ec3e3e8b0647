use Rattle.zp_laws.proofs.Held.{out-to}
use Rattle.zp_laws.proofs.StaysOut.{freed-gone, freed-kept}
use Rattle.std.proofs.Common.{subst, sym, ℕ, ◌≡◌, ◌-◌, true, List, ap, ◌∙◌}
use Rattle.zp_model.specs.Frames.{Frames, given}
use Rattle.zp_model.specs.Run.{is_out}
use Rattle.zp_model.specs.Step.{freed}
use Rattle.zp_zone.specs.NamedZone.{KeepsOutBut, IsFresh, NamedZone}
use Rattle.zp_zone.specs.Kept.{plain_of}
use Rattle.zp_zone.proofs.BlockSteps.{IsAsked, named, held_clear, plain-given, given_kept, holding_in}
use Rattle.zp_zone.proofs.untied_zone.UntiedZone.free.Goals as goal

-- giving back what the zone has out, by its fields, is the step of the zone
given_in : (Z : NamedZone) (name : List ℕ) (f : Frames) (base min w p k : ℕ) → named name (plain_of f base min) ≡ Z → is_out Z.plain w p k ≡ true →
    IsAsked f base min → named name (plain_of (given f (p - base) k) base min) ≡ record Z { plain = freed Z.plain (p - Z.plain.base) k }
given_in Z name f base min w p k e o x =
    let h = holding_in Z name f base min w p k e o in
    let back : NamedZone → NamedZone = λ z. record z { plain = freed z.plain (p - z.plain.base) k } in
    ap (named name) (plain-given f base min w (p - base) k x h) ∙ ap back e

pub give-requires : goal.give-requires
give-requires c =
    let place : c.at-at.result ≡ c.args.page - c.self.inside.base = c.at-at.ensures ∙ ap (λ n. n - c.self.inside.base) c.number.ensures.same in
    rw place (held_clear c.self.inside.buddy c.self.inside.base c.self.inside.min c.args.worker (c.args.page - c.self.inside.base) c.args.order
    (record { framed = c.pages-pages.ensures.framed; lawful = c.self.invariant.lawful }) (holding_in _ _ _ _ _ _ _ _ c.self.view_is c.requires.out))

pub invariant_of-self : goal.invariant_of-self
invariant_of-self c =
    let place : c.at-at.result ≡ c.args.page - c.self.inside.base = c.at-at.ensures ∙ ap (λ n. n - c.self.inside.base) c.number.ensures.same in
    let left : c.give.new.self ≡ given c.self.inside.buddy (c.args.page - c.self.inside.base) c.args.order = c.give.ensures ∙ ap (λ n. given c.self.inside.buddy n c.args.order) place in
    rw left (given_kept c.self.inside.name c.self.inside.buddy c.self.inside.base c.self.inside.min c.args.worker (c.args.page - c.self.inside.base) c.args.order c.self.invariant
    c.pages-pages.ensures.framed (holding_in _ _ _ _ _ _ _ _ c.self.view_is c.requires.out))

pub returns-clause-after : goal.returns-clause-after
returns-clause-after c =
    let place : c.at-at.result ≡ c.args.page - c.self.inside.base = c.at-at.ensures ∙ ap (λ n. n - c.self.inside.base) c.number.ensures.same in
    let left : c.give.new.self ≡ given c.self.inside.buddy (c.args.page - c.self.inside.base) c.args.order = c.give.ensures ∙ ap (λ n. given c.self.inside.buddy n c.args.order) place in
    ap (λ f. named c.self.inside.name (plain_of f c.self.inside.base c.self.inside.min)) left
    ∙ given_in c.args.self.now c.self.inside.name c.self.inside.buddy c.self.inside.base c.self.inside.min c.args.worker c.args.page c.args.order c.self.view_is c.requires.out
    (record { framed = c.pages-pages.ensures.framed; lawful = c.self.invariant.lawful })

pub returns-clause-gone : goal.returns-clause-gone
returns-clause-gone c =
    subst (λ z. IsFresh z c.args.page) (sym (ap (λ (n : NamedZone). n.plain) (returns-clause-after c))) (freed-gone c.args.self.now.plain c.args.page c.args.order)

pub returns-clause-kept : goal.returns-clause-kept
returns-clause-kept c =
    subst (KeepsOutBut c.args.page c.args.self.now.plain) (sym (ap (λ (n : NamedZone). n.plain) (returns-clause-after c))) (freed-kept c.args.self.now.plain c.args.page c.args.order (out-to c.args.self.now.plain c.args.worker c.args.page c.args.order c.requires.out).0)
