use Rattle.std.proofs.Common.{◌≡◌, ◌==◌, sym, ◌∙◌, ap, subst, refl, rules, true, false}
use Rattle.zp_model.specs.declared.request.Request.{Request}
use Rattle.zp_model.specs.declared.request.Request.TheVariants as request
use Rattle.zp_model.specs.declared.request.Reply.TheVariants as reply
use Rattle.zp_share.specs.declared.sections_made.TheConstants.{LAST_SECTION}
use Rattle.zp_share.specs.declared.zone_share.ZoneShare.TheInside.{Inside}
use Rattle.zp_share.specs.PlainShares.{refusal}
use Rattle.zp_share.specs.PageUses.{is_lent_run}
use Rattle.zp_share.specs.Sections.{ComesOf}
use Rattle.zp_share.specs.ZoneShares.{answered_in}
use Rattle.zp_share.proofs.Closing.{IsRunUsed, IsWhole, run_parts_answered, section_is, share_of}
use Rattle.zp_share.proofs.RunSections.{freed_used, seat_has_run}
use Rattle.zp_share.proofs.zone_share.ZoneShare.free_lent_run.Goals.{After-add}
use Rattle.zp_share.proofs.zone_share.ZoneShare.free_lent_run.Goals as goal

pub free_run-requires-2-clause-has : goal.free_run-requires-2-clause-has
free_run-requires-2-clause-has c =
    rw c.check.ensures.same.1
    (seat_has_run c.args.zone.now c.self.inside c.self.invariant c.check.ensures.agrees c.args.page c.args.pages (rw c.check.ensures.same.0 at c.pages-pages.ensures.lawful) (ap (λ b. is_lent_run b c.self.inside.uses.uses c.args.page c.args.pages) c.self.invariant.0 ∙ ap (λ s. is_lent_run s.seat.part.base s.uses c.args.page c.args.pages) c.self.view_is ∙ c.requires.lent))

abbrev asked : After-add → Request
asked c = request.FreeRun c.args.page c.args.pages

abbrev after : After-add → Inside
after c = record { seat = c.free_run-2.new.seat; uses = c.free_run.new.self; cached = c.self.inside.cached; sections = c.add.new.self }

used : (c : After-add) → IsRunUsed c.args.zone.now.plain (asked c) reply.Freed c.self.inside.seat.part.base c.self.inside.seat.worker c.self.inside.uses.uses c.free_run.new.self.uses
used c =
    freed_used c.args.zone.now c.self.inside c.free_run.new.self c.args.page c.args.pages c.self.invariant c.check.ensures.agrees c.free_run.ensures.cached c.free_run.ensures.pages
    (rw (c.check.ensures.same.0, c.worker-worker.ensures) at c.free_run.ensures.held)

made : (c : After-add) → IsWhole (after c) × (share_of (after c) ≡ answered_in c.args.zone.now.plain (asked c) reply.Freed (share_of c.self.inside))
made c =
    run_parts_answered c.args.zone.now.plain (asked c) reply.Freed c.self.inside (after c) c.worker-worker.result c.self.invariant (used c)
    (rw (c.check.ensures.same.0, c.check.ensures.same.1) at c.free_run-2.ensures.seat) c.free_run.ensures.base refl refl c.add.ensures c.worker-worker.ensures

pub invariant_of-self : goal.invariant_of-self
invariant_of-self c = (made c).0

pub returns-clause-section : goal.returns-clause-section
returns-clause-section c =
    let full : (c.args.self.now.sections.made == LAST_SECTION) ≡ false = ap (λ s. s.sections.made == LAST_SECTION) (sym c.self.view_is) ∙ sym c.are_full.ensures.full ∙ c.if-are_full.false in
    let one = section_is (asked c) reply.Freed c.args.zone.now c.free_run-2.new.self c.self.inside (after c) c.args.self.now c.self.invariant c.self.view_is (made c).0 (made c).1
    refl (rw (c.check.ensures.same.0, c.check.ensures.same.1) at c.free_run-2.ensures.after) c.requires.seat c.free_run-2.ensures.fits c.check.ensures.known (c.check.ensures.agrees, c.free_run-2.ensures.agrees.1) in
    record {
      made =
          subst (λ b. ComesOf (refusal b (c.args.self.now.sections.made == LAST_SECTION)) (asked c) reply.Freed c.args.zone.now c.free_run-2.new.self c.args.self.now (share_of (after c))) (sym c.requires.lent)
          (subst (λ b. ComesOf (refusal true b) (asked c) reply.Freed c.args.zone.now c.free_run-2.new.self c.args.self.now (share_of (after c))) (sym full) one);
      reply = tt;
      same = record { tie = search rules; worker = search rules };
      fits = c.free_run-2.ensures.fits;
      seats = rw c.check.ensures.same.0 at c.free_run-2.ensures.seats;
    }
