use Rattle.std.proofs.Common.{◌≡◌, ◌==◌, sym, ◌∙◌, ap, subst, refl, rules, true, false}
use Rattle.zp_model.specs.Zone.{workers_of}
use Rattle.zp_model.specs.declared.request.Request.{Request}
use Rattle.zp_model.specs.declared.request.Request.TheVariants as request
use Rattle.zp_model.specs.declared.request.Reply.{Reply}
use Rattle.zp_model.specs.declared.request.Reply.TheVariants as reply
use Rattle.zp_model.specs.Step.{step}
use Rattle.zp_zone.specs.Asking.{IsGiven}
use Rattle.zp_zone.specs.Seats.{replied}
use Rattle.zp_share.specs.declared.sections_made.TheConstants.{LAST_SECTION}
use Rattle.zp_share.specs.declared.zone_share.ZoneShare.TheInside.{Inside}
use Rattle.zp_share.specs.PlainShares.{refusal}
use Rattle.zp_share.specs.Sections.{ComesOf, IsReplyTo, MayAsk}
use Rattle.zp_model.specs.declared.constants.TheConstants.{MAX_BATCH}
use Rattle.zp_share.proofs.Closing.{IsFit, IsAnswered, answered_parts, section_is, share_of}
use Rattle.zp_share.proofs.Asking.{IsAsking, fits, given_pages, has_places, reply_to}
use Rattle.zp_share.proofs.zone_share.ZoneShare.fill.Goals as goal

pub set_all-requires : goal.set_all-requires
set_all-requires c =
    let r : Request = request.Refill c.args.kind c.args.mark c.args.count in
    let q : Reply = reply.Pages c.as_slice-got.result.now in
    let taken : c.as_slice-got.result.now ≡ c.in-Ok.pages.items = c.as_slice-got.ensures.value in
    let may = subst (λ s. MayAsk (workers_of c.args.zone.now.plain) MAX_BATCH r s) (sym c.self.view_is) c.requires.may in
    let asks : IsAsking (workers_of c.args.zone.now.plain) r c.self.inside = record { whole = c.self.invariant; lent = refl; may = may } in
    let given =
    given_pages c.args.kind c.args.mark c.args.count c.in-Ok.pages.items c.as_slice-got.result.now c.self.inside.seat c.refill.new.seat taken
    c.in-Ok.ensures.some c.in-Ok.ensures.most c.in-Ok.ensures.has c.in-Ok.ensures.distinct c.in-Ok.ensures.fresh in
    let seat : c.refill.new.seat ≡ replied r q c.self.inside.seat = c.in-Ok.ensures.seat ∙ ap (λ ps. replied r (reply.Pages ps) c.self.inside.seat) (sym taken) in
    has_places r q c.self.inside c.self.invariant (fits _ r q c.self.inside c.refill.new.seat asks seat given)

-- the pages that come

abbrev asked : goal.After-add_refill → Request
asked c = request.Refill c.args.kind c.args.mark c.args.count

abbrev pages : goal.After-add_refill → Reply
pages c = reply.Pages c.as_slice-got.result.now

asks : (c : goal.After-add_refill) → IsAsking (workers_of c.args.zone.now.plain) (asked c) c.self.inside
asks c = record { whole = c.self.invariant; lent = refl; may = subst (λ s. MayAsk (workers_of c.args.zone.now.plain) MAX_BATCH (asked c) s) (sym c.self.view_is) c.requires.may }

-- the slice is what the zone gave
taken : (c : goal.After-add_refill) → c.as_slice-got.result.now ≡ c.in-Ok.pages.items
taken c = c.as_slice-got.ensures.value

given : (c : goal.After-add_refill) → IsGiven (asked c) (pages c) c.self.inside.seat c.refill.new.seat
given c =
    given_pages c.args.kind c.args.mark c.args.count c.in-Ok.pages.items c.as_slice-got.result.now c.self.inside.seat c.refill.new.seat (taken c)
    c.in-Ok.ensures.some c.in-Ok.ensures.most c.in-Ok.ensures.has c.in-Ok.ensures.distinct c.in-Ok.ensures.fresh

seat : (c : goal.After-add_refill) → c.refill.new.seat ≡ replied (asked c) (pages c) c.self.inside.seat
seat c = c.in-Ok.ensures.seat ∙ ap (λ ps. replied (asked c) (reply.Pages ps) c.self.inside.seat) (sym (taken c))

stepped : (c : goal.After-add_refill) → pages c ≡ (step c.args.zone.now.plain c.self.inside.seat.worker (asked c)).reply
stepped c = ap reply.Pages (taken c) ∙ c.in-Ok.ensures.reply

fit : (c : goal.After-add_refill) → IsFit (asked c) (pages c) (share_of c.self.inside)
fit c = fits _ (asked c) (pages c) c.self.inside c.refill.new.seat (asks c) (seat c) (given c)

abbrev after : goal.After-add_refill → Inside
after c = record { seat = c.refill.new.seat; uses = c.set_all.new.self; cached = c.put_pages.new.lists; sections = c.add_refill.new.self }

made : (c : goal.After-add_refill) → IsAnswered (asked c) (pages c) c.self.inside (after c)
made c =
    answered_parts (asked c) (pages c) c.self.inside (after c) c.worker-worker.result c.self.invariant (fit c)
    (seat c) c.set_all.ensures c.put_pages.ensures c.add_refill.ensures c.worker-worker.ensures

pub invariant_of-self : goal.invariant_of-self
invariant_of-self c = (made c).whole

pub returns-in-Ok-clause-section : goal.returns-in-Ok-clause-section
returns-in-Ok-clause-section c =
    let full : (c.args.self.now.sections.made == LAST_SECTION) ≡ false = ap (λ s. s.sections.made == LAST_SECTION) (sym c.self.view_is) ∙ sym c.are_full.ensures.full ∙ c.if-are_full.false in
    let one = section_is (asked c) (pages c) c.args.zone.now c.refill.new.self c.self.inside (after c) c.args.self.now c.self.invariant c.self.view_is (made c).whole (made c).same
    (stepped c) c.refill.ensures.after c.requires.seat c.refill.ensures.fits c.refill.ensures.known c.refill.ensures.agrees in (
      c.as_slice-got.result.now,
      record {
        made = subst (λ b. ComesOf (refusal true b) (asked c) (pages c) c.args.zone.now c.refill.new.self c.args.self.now (share_of (after c))) (sym full) one;
        reply =
            subst (λ s. IsReplyTo (asked c) (pages c) s (share_of (after c))) c.self.view_is
            (reply_to (asked c) (pages c) c.args.zone.now.plain c.self.inside.seat.worker c.self.inside.seat c.refill.new.seat (share_of c.self.inside) (share_of (after c)) tt (fit c) (made c).same
            (stepped c) (given c));
        same = record { tie = search rules; worker = search rules };
        fits = c.refill.ensures.fits;
        seats = c.refill.ensures.seats;
      },
    )

-- the refusal

abbrev asked_in_vain : goal.After-add → Request
asked_in_vain c = request.Refill c.args.kind c.args.mark c.args.count

abbrev refused : goal.After-add → Reply
refused c = reply.Refused c.in-Err.refused

abbrev after_refusal : goal.After-add → Inside
after_refusal c = record { seat = c.refill.new.seat; uses = c.self.inside.uses; cached = c.self.inside.cached; sections = c.add.new.self }

made_in_vain : (c : goal.After-add) → IsAnswered (asked_in_vain c) (refused c) c.self.inside (after_refusal c)
made_in_vain c =
    answered_parts (asked_in_vain c) (refused c) c.self.inside (after_refusal c) c.worker-worker.result c.self.invariant tt
    c.in-Err.ensures.seat refl refl c.add.ensures c.worker-worker.ensures

pub invariant_of-self-in-Err : goal.invariant_of-self-in-Err
invariant_of-self-in-Err c = (made_in_vain c).whole

pub returns-in-Err-clause-section : goal.returns-in-Err-clause-section
returns-in-Err-clause-section c =
    let full : (c.args.self.now.sections.made == LAST_SECTION) ≡ false = ap (λ s. s.sections.made == LAST_SECTION) (sym c.self.view_is) ∙ sym c.are_full.ensures.full ∙ c.if-are_full.false in
    let one = section_is (asked_in_vain c) (refused c) c.args.zone.now c.refill.new.self c.self.inside (after_refusal c) c.args.self.now c.self.invariant c.self.view_is (made_in_vain c).whole (made_in_vain c).same
    c.in-Err.ensures.reply c.refill.ensures.after c.requires.seat c.refill.ensures.fits c.refill.ensures.known c.refill.ensures.agrees in
    record {
      made = subst (λ b. ComesOf (refusal true b) (asked_in_vain c) (refused c) c.args.zone.now c.refill.new.self c.args.self.now (share_of (after_refusal c))) (sym full) one;
      reply =
          subst (λ s. IsReplyTo (asked_in_vain c) (refused c) s (share_of (after_refusal c))) c.self.view_is
          (reply_to (asked_in_vain c) (refused c) c.args.zone.now.plain c.self.inside.seat.worker c.self.inside.seat c.refill.new.seat (share_of c.self.inside) (share_of (after_refusal c)) tt tt (made_in_vain c).same
          c.in-Err.ensures.reply tt);
      same = record { tie = search rules; worker = search rules };
      fits = c.refill.ensures.fits;
      seats = c.refill.ensures.seats;
    }
