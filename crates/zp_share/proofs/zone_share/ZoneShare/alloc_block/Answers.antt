use Rattle.std.proofs.Common.{◌≡◌, ◌==◌, ◌+◌, sym, ◌∙◌, ap, subst, refl, rules, true, false, Some}
use Rattle.zp_model.specs.Zone.{workers_of}
use Rattle.zp_model.specs.declared.request.Request.{Request}
use Rattle.zp_model.specs.declared.request.Request.TheVariants as request
use Rattle.zp_model.specs.declared.request.Reply.{Reply}
use Rattle.zp_zone.specs.Asking.{IsGiven}
use Rattle.zp_zone.specs.NamedZone.{page_reply}
use Rattle.zp_share.specs.declared.sections_made.TheConstants.{LAST_SECTION}
use Rattle.zp_share.specs.declared.zone_share.ZoneShare.TheInside.{Inside}
use Rattle.zp_share.specs.PlainShares.{refusal}
use Rattle.zp_share.specs.Sections.{ComesOf, IsReplyTo}
use Rattle.zp_share.proofs.Closing.{IsFit, IsAnswered, answered_parts, section_is, share_of}
use Rattle.zp_share.proofs.Asking.{IsAsking, fits, given_page, reply_to}
use Rattle.zp_share.proofs.zone_share.ZoneShare.alloc_block.Goals as goal

abbrev asked : goal.After-add → Request
asked c = request.Alloc c.args.order c.args.kind c.args.mark

abbrev reply : goal.After-add → Reply
reply c = page_reply c.alloc-got.result

abbrev after : goal.After-add → Inside
after c = record { seat = c.alloc-got.new.seat; uses = c.note_alloc.new.self; cached = c.self.inside.cached; sections = c.add.new.self }

asks : (c : goal.After-add) → IsAsking (workers_of c.args.zone.now.plain) (asked c) c.self.inside
asks c = record { whole = c.self.invariant; lent = refl; may = tt }

given : (c : goal.After-add) → IsGiven (asked c) (reply c) c.self.inside.seat c.alloc-got.new.seat
given c = given_page c.args.order c.args.kind c.args.mark c.alloc-got.result c.self.inside.seat c.alloc-got.new.seat c.alloc-got.ensures.has c.alloc-got.ensures.fresh

fit : (c : goal.After-add) → IsFit (asked c) (reply c) (share_of c.self.inside)
fit c = fits _ (asked c) (reply c) c.self.inside c.alloc-got.new.seat (asks c) c.alloc-got.ensures.seat (given c)

made : (c : goal.After-add) → IsAnswered (asked c) (reply c) c.self.inside (after c)
made c =
    answered_parts (asked c) (reply c) c.self.inside (after c) c.worker-worker.result c.self.invariant (fit c)
    c.alloc-got.ensures.seat c.note_alloc.ensures refl
    (subst (λ q. c.add.new.self ≡ record { made = c.self.inside.sections.made + 1; last = Some (record { worker = c.worker-worker.result; request = asked c; reply = q }) }) c.page_reply-reply.ensures c.add.ensures)
    c.worker-worker.ensures

pub invariant_of-self : goal.invariant_of-self
invariant_of-self c = (made c).whole

pub returns-clause-section : goal.returns-clause-section
returns-clause-section c =
    let full : (c.args.self.now.sections.made == LAST_SECTION) ≡ false = ap (λ s. s.sections.made == LAST_SECTION) (sym c.self.view_is) ∙ sym c.are_full.ensures.full ∙ c.if-are_full.false in
    let one = section_is (asked c) (reply c) c.args.zone.now c.alloc-got.new.self c.self.inside (after c) c.args.self.now c.self.invariant c.self.view_is (made c).whole (made c).same
    c.alloc-got.ensures.reply c.alloc-got.ensures.after c.requires.seat c.alloc-got.ensures.fits c.alloc-got.ensures.known c.alloc-got.ensures.agrees in
    record {
      made = subst (λ b. ComesOf (refusal true b) (asked c) (reply c) c.args.zone.now c.alloc-got.new.self c.args.self.now (share_of (after c))) (sym full) one;
      reply =
          subst (λ s. IsReplyTo (asked c) (reply c) s (share_of (after c))) c.self.view_is
          (reply_to (asked c) (reply c) c.args.zone.now.plain c.self.inside.seat.worker c.self.inside.seat c.alloc-got.new.seat (share_of c.self.inside) (share_of (after c)) tt (fit c) (made c).same
          c.alloc-got.ensures.reply (given c));
      same = record { tie = search rules; worker = search rules };
      fits = c.alloc-got.ensures.fits;
      seats = c.alloc-got.ensures.seats;
    }
