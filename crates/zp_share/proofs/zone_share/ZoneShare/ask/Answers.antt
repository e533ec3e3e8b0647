use Rattle.std.proofs.Common.{◌≡◌, ◌==◌, sym, ◌∙◌, ap, subst, rules, true, false}
use Rattle.zp_model.specs.Zone.{workers_of}
use Rattle.zp_share.specs.declared.sections_made.TheConstants.{LAST_SECTION}
use Rattle.zp_share.specs.declared.zone_share.ZoneShare.TheInside.{Inside}
use Rattle.zp_share.specs.PlainShares.{refusal}
use Rattle.zp_share.specs.Sections.{ComesOf, IsReplyTo}
use Rattle.zp_share.proofs.Closing.{IsFit, IsAnswered, answered-plainly, answered_parts, replied-plainly, section_is, share_of}
use Rattle.zp_share.proofs.Asking.{IsAsking, asking, fits, has_places, may_seat, reply_to}
use Rattle.zp_share.proofs.zone_share.ZoneShare.ask.Goals as goal

pub ask-reply-requires-clause-may : goal.ask-reply-requires-clause-may
ask-reply-requires-clause-may c = may_seat _ c.args.request.now c.self.inside c.requires.plain (asking _ _ _ _ _ c.self.view_is c.self.invariant c.requires.may c.lends_for.ensures.lent c.if-not-lends_for.false)

pub note-requires : goal.note-requires
note-requires c =
    let x = asking _ c.args.request.now c.self.inside _ _ c.self.view_is c.self.invariant c.requires.may c.lends_for.ensures.lent c.if-not-lends_for.false in
    has_places c.args.request.now c.ask-reply.result c.self.inside c.self.invariant (fits _ c.args.request.now c.ask-reply.result c.self.inside c.ask-reply.new.seat x (c.ask-reply.ensures.seat ∙ replied-plainly c.args.zone.now.plain c.args.request.now c.ask-reply.result c.self.inside.seat c.requires.plain) c.ask-reply.ensures.given)

abbrev after : goal.After-add → Inside
after c = record { seat = c.ask-reply.new.seat; uses = c.note.new.self; cached = c.note_lists.new.lists; sections = c.add.new.self }

asks : (c : goal.After-add) → IsAsking (workers_of c.args.zone.now.plain) c.args.request.now c.self.inside
asks c = asking _ c.args.request.now c.self.inside _ _ c.self.view_is c.self.invariant c.requires.may c.lends_for.ensures.lent c.if-not-lends_for.false

fit : (c : goal.After-add) → IsFit c.args.request.now c.ask-reply.result (share_of c.self.inside)
fit c = fits _ c.args.request.now c.ask-reply.result c.self.inside c.ask-reply.new.seat (asks c) (c.ask-reply.ensures.seat ∙ replied-plainly c.args.zone.now.plain c.args.request.now c.ask-reply.result c.self.inside.seat c.requires.plain) c.ask-reply.ensures.given

made : (c : goal.After-add) → IsAnswered c.args.request.now c.ask-reply.result c.self.inside (after c)
made c =
    answered_parts c.args.request.now c.ask-reply.result c.self.inside (after c) c.worker-worker.result c.self.invariant (fit c)
    (c.ask-reply.ensures.seat ∙ replied-plainly c.args.zone.now.plain c.args.request.now c.ask-reply.result c.self.inside.seat c.requires.plain) c.note.ensures c.note_lists.ensures c.add.ensures c.worker-worker.ensures

pub invariant_of-self : goal.invariant_of-self
invariant_of-self c = (made c).whole

pub returns-clause-section : goal.returns-clause-section
returns-clause-section c =
    let full : (c.args.self.now.sections.made == LAST_SECTION) ≡ false = ap (λ s. s.sections.made == LAST_SECTION) (sym c.self.view_is) ∙ sym c.are_full.ensures.full ∙ c.if-are_full.false in
    let one = section_is c.args.request.now c.ask-reply.result c.args.zone.now c.ask-reply.new.self c.self.inside (after c) c.args.self.now c.self.invariant c.self.view_is (made c).whole ((made c).same ∙ answered-plainly c.args.zone.now.plain c.args.request.now c.ask-reply.result (share_of c.self.inside) c.requires.plain)
    c.ask-reply.ensures.reply c.ask-reply.ensures.after c.requires.seat c.ask-reply.ensures.fits c.ask-reply.ensures.known c.ask-reply.ensures.agrees in
    record {
      made =
          subst (λ b. ComesOf (refusal b (c.args.self.now.sections.made == LAST_SECTION)) c.args.request.now c.ask-reply.result c.args.zone.now c.ask-reply.new.self c.args.self.now (share_of (after c)))
          (sym (sym c.lends_for.ensures.lent ∙ c.if-not-lends_for.false))
          (subst (λ b. ComesOf (refusal true b) c.args.request.now c.ask-reply.result c.args.zone.now c.ask-reply.new.self c.args.self.now (share_of (after c))) (sym full) one);
      reply =
          subst (λ s. IsReplyTo c.args.request.now c.ask-reply.result s (share_of (after c))) c.self.view_is
          (reply_to c.args.request.now c.ask-reply.result c.args.zone.now.plain c.self.inside.seat.worker c.self.inside.seat c.ask-reply.new.seat (share_of c.self.inside) (share_of (after c)) c.requires.plain (fit c) (made c).same
          c.ask-reply.ensures.reply c.ask-reply.ensures.given);
      same = record { tie = search rules; worker = search rules };
      fits = c.ask-reply.ensures.fits;
      seats = c.ask-reply.ensures.seats;
    }
