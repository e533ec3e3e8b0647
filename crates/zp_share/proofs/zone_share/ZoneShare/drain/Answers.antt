use Rattle.std.proofs.Common.{◌≡◌, ◌==◌, sym, ◌∙◌, ap, subst, refl, rules, true, false}
use Rattle.std.specs.Prelude.{slice_set}
use Rattle.zp_model.specs.MigrateType.{type_number}
use Rattle.zp_model.specs.Rows.{list_at}
use Rattle.zp_model.specs.declared.request.Request.{Request}
use Rattle.zp_model.specs.declared.request.Request.TheVariants as request
use Rattle.zp_model.specs.declared.request.Reply.TheVariants as reply
use Rattle.zp_share.specs.declared.sections_made.TheConstants.{LAST_SECTION}
use Rattle.zp_share.specs.declared.zone_share.ZoneShare.TheInside.{Inside}
use Rattle.zp_share.specs.PlainShares.{back, refusal, without_back}
use Rattle.zp_share.specs.Sections.{ComesOf, IsAsked, IsBack}
use Rattle.zp_share.specs.ZoneShares.{cached_of}
use Rattle.zp_share.proofs.Asking.{has_places}
use Rattle.zp_share.proofs.Closing.{IsAnswered, answered_parts, back_distinct, back_has, back_read, section_is, share_of}
use Rattle.zp_share.proofs.zone_share.ZoneShare.drain.Goals as goal

pub drain-requires-clause-has : goal.drain-requires-clause-has
drain-requires-clause-has c =
    back_has c.self.inside c.args.kind c.back-pages.result.now c.self.invariant
    (back_read c.self.inside c.args.self.now c.args.kind c.number.result c.args.count c.index-lists-number.result c.back-pages.result.now c.self.view_is c.self.invariant c.number.ensures.number
    c.requires.within c.back-pages.ensures.pages c.back-pages.ensures.many)

pub drain-requires-clause-distinct : goal.drain-requires-clause-distinct
drain-requires-clause-distinct c =
    back_distinct c.self.inside c.args.kind c.back-pages.result.now c.self.invariant
    (back_read c.self.inside c.args.self.now c.args.kind c.number.result c.args.count c.index-lists-number.result c.back-pages.result.now c.self.view_is c.self.invariant c.number.ensures.number
    c.requires.within c.back-pages.ensures.pages c.back-pages.ensures.many)

pub set_all-requires : goal.set_all-requires
set_all-requires c =
    has_places (request.Drain c.args.kind c.back-pages.result.now) reply.Drained c.self.inside c.self.invariant
    (back_read c.self.inside c.args.self.now c.args.kind c.number.result c.args.count c.index-lists-number.result c.back-pages.result.now c.self.view_is c.self.invariant c.number.ensures.number
    c.requires.within c.back-pages.ensures.pages c.back-pages.ensures.many)

abbrev asked : goal.After-drop_pages → Request
asked c = request.Drain c.args.kind c.back-pages.result.now

gone : (c : goal.After-drop_pages) → IsBack (share_of c.self.inside) c.args.kind c.back-pages.result.now
gone c =
    back_read c.self.inside c.args.self.now c.args.kind c.number.result c.args.count c.index-lists-number.result c.back-pages.result.now c.self.view_is c.self.invariant c.number.ensures.number
    c.requires.within c.back-pages.ensures.pages c.back-pages.ensures.many

abbrev after : goal.After-drop_pages → Inside
after c = record { seat = c.drain.new.seat; uses = c.set_all.new.self; cached = c.drop_pages.new.lists; sections = c.add_drain.new.self }

made : (c : goal.After-drop_pages) → IsAnswered (asked c) reply.Drained c.self.inside (after c)
made c =
    answered_parts (asked c) reply.Drained c.self.inside (after c) c.worker-worker.result c.self.invariant (gone c) c.drain.ensures.seat c.set_all.ensures
    (subst (λ n. c.drop_pages.new.lists ≡ slice_set c.self.inside.cached (type_number c.args.kind) (without_back n (list_at c.self.inside.cached (type_number c.args.kind)))) (sym c.back-pages.ensures.many)
    c.drop_pages.ensures)
    c.add_drain.ensures c.worker-worker.ensures

-- the pages are those that the contract names
named : (c : goal.After-drop_pages) → c.back-pages.result.now ≡ back c.args.count (cached_of c.args.self.now c.args.kind)
named c =
    (gone c).pages ∙ ap (λ n. back n (cached_of (share_of c.self.inside) c.args.kind)) c.back-pages.ensures.many ∙ ap (λ s. back c.args.count (cached_of s c.args.kind)) c.self.view_is

pub invariant_of-self-2 : goal.invariant_of-self-2
invariant_of-self-2 c = (made c).whole

pub returns-clause-section : goal.returns-clause-section
returns-clause-section c =
    let full : (c.args.self.now.sections.made == LAST_SECTION) ≡ false = ap (λ s. s.sections.made == LAST_SECTION) (sym c.self.view_is) ∙ sym c.are_full.ensures.full ∙ c.if-are_full.false in
    let one = section_is (asked c) reply.Drained c.args.zone.now c.drain.new.self c.self.inside (after c) c.args.self.now c.self.invariant c.self.view_is (made c).whole (made c).same
    refl c.drain.ensures.after c.requires.seat c.drain.ensures.fits c.drain.ensures.known c.drain.ensures.agrees in
    subst (λ ps. IsAsked (request.Drain c.args.kind ps) reply.Drained c.args.zone.now c.drain.new.self c.args.self.now (share_of (after c))) (named c)
    (record {
      made = subst (λ b. ComesOf (refusal true b) (asked c) reply.Drained c.args.zone.now c.drain.new.self c.args.self.now (share_of (after c))) (sym full) one;
      reply = tt;
      same = record { tie = search rules; worker = search rules };
      fits = c.drain.ensures.fits;
      seats = c.drain.ensures.seats;
    })
