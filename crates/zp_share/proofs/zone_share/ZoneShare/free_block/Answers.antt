use Rattle.std.proofs.Common.{◌≡◌, ◌==◌, sym, ◌∙◌, ap, subst, refl, rules, true, false}
use Rattle.zp_model.specs.Zone.{workers_of}
use Rattle.zp_model.specs.declared.request.Request.{Request}
use Rattle.zp_model.specs.declared.request.Request.TheVariants as request
use Rattle.zp_model.specs.declared.request.Reply.TheVariants as reply
use Rattle.zp_share.specs.declared.sections_made.TheConstants.{LAST_SECTION}
use Rattle.zp_share.specs.declared.zone_share.ZoneShare.TheInside.{Inside}
use Rattle.zp_share.specs.PlainShares.{refusal}
use Rattle.zp_share.specs.Sections.{ComesOf}
use Rattle.zp_share.proofs.Closing.{IsAnswered, answered_parts, section_is, share_of}
use Rattle.zp_share.proofs.Asking.{asking, has_places, may_seat}
use Rattle.zp_share.proofs.zone_share.ZoneShare.free_block.Goals as goal

pub free-requires-clause-has : goal.free-requires-clause-has
free-requires-clause-has c =
    may_seat (workers_of c.args.zone.now.plain) (request.Free c.args.page c.args.order) c.self.inside tt
    (asking _ (request.Free c.args.page c.args.order) c.self.inside _ _ c.self.view_is c.self.invariant tt c.is_lent.ensures.lent c.if-not-is_lent.false)

pub note-requires : goal.note-requires
note-requires c =
    let x = asking (workers_of c.args.zone.now.plain) (request.Free c.args.page c.args.order) c.self.inside _ _ c.self.view_is c.self.invariant tt c.is_lent.ensures.lent c.if-not-is_lent.false in
    has_places (request.Free c.args.page c.args.order) reply.Freed c.self.inside c.self.invariant x.lent

abbrev asked : goal.After-add → Request
asked c = request.Free c.args.page c.args.order

abbrev after : goal.After-add → Inside
after c = record { seat = c.free.new.seat; uses = c.note.new.self; cached = c.self.inside.cached; sections = c.add.new.self }

made : (c : goal.After-add) → IsAnswered (asked c) reply.Freed c.self.inside (after c)
made c =
    let x = asking (workers_of c.args.zone.now.plain) (asked c) c.self.inside _ _ c.self.view_is c.self.invariant tt c.is_lent.ensures.lent c.if-not-is_lent.false in
    answered_parts (asked c) reply.Freed c.self.inside (after c) c.worker-worker.result c.self.invariant x.lent c.free.ensures.seat c.note.ensures refl c.add.ensures c.worker-worker.ensures

pub invariant_of-self : goal.invariant_of-self
invariant_of-self c = (made c).whole

pub returns-clause-section : goal.returns-clause-section
returns-clause-section c =
    let full : (c.args.self.now.sections.made == LAST_SECTION) ≡ false = ap (λ s. s.sections.made == LAST_SECTION) (sym c.self.view_is) ∙ sym c.are_full.ensures.full ∙ c.if-are_full.false in
    let one = section_is (asked c) reply.Freed c.args.zone.now c.free.new.self c.self.inside (after c) c.args.self.now c.self.invariant c.self.view_is (made c).whole (made c).same
    refl c.free.ensures.after c.requires.seat c.free.ensures.fits c.free.ensures.known c.free.ensures.agrees in
    record {
      made =
          subst (λ b. ComesOf (refusal b (c.args.self.now.sections.made == LAST_SECTION)) (asked c) reply.Freed c.args.zone.now c.free.new.self c.args.self.now (share_of (after c)))
          (sym (sym c.is_lent.ensures.lent ∙ c.if-not-is_lent.false))
          (subst (λ b. ComesOf (refusal true b) (asked c) reply.Freed c.args.zone.now c.free.new.self c.args.self.now (share_of (after c))) (sym full) one);
      reply = tt;
      same = record { tie = search rules; worker = search rules };
      fits = c.free.ensures.fits;
      seats = c.free.ensures.seats;
    }
