use Rattle.std.proofs.Common.{ℕ, ◌≡◌, ◌≤◌, ◌<◌, arith, ◌==◌, sym, ◌∙◌, ap, subst, refl, rules, true, false, inr, Bool}
use Rattle.zp_model.specs.declared.constants.TheConstants.{LARGEST_ORDER, ORDERS}
use Rattle.zp_model.specs.declared.refused.Refused.TheVariants.{JournalFull}
use Rattle.zp_model.specs.declared.request.Request.{Request}
use Rattle.zp_model.specs.declared.request.Request.TheVariants as request
use Rattle.zp_model.specs.declared.request.Reply.TheVariants as reply
use Rattle.zp_share.specs.declared.sections_made.TheConstants.{LAST_SECTION}
use Rattle.zp_share.specs.declared.zone_share.ZoneShare.TheInside.{Inside}
use Rattle.zp_share.specs.PlainShares.{refusal}
use Rattle.zp_share.specs.PageUses.{is_lent_run}
use Rattle.zp_share.specs.Sections.{ComesOf}
use Rattle.zp_share.specs.ZoneShares.{answered_in}
use Rattle.zp_share.proofs.Closing.{IsWhole, run_parts_answered, section_is, share_of}
use Rattle.zp_share.proofs.RunSections.{one_has, one_inside, one_place, one_run, one_used}
use Rattle.zp_share.proofs.RunUses.{one_lent}
use Rattle.zp_share.proofs.zone_share.ZoneShare.free_run_as_block.Goals.{After-add}
use Rattle.zp_share.proofs.zone_share.ZoneShare.free_run_as_block.Goals as goal

-- as an order has it
below : (k n : ℕ) → n ≡ k → n ≤ LARGEST_ORDER → k < ORDERS
below k n is le = omega (arith, is, le)

pub free_run_as_block-requires-clause-has : goal.free_run_as_block-requires-clause-has
free_run_as_block-requires-clause-has c = one_run c.self.inside c.self.invariant c.args.page c.args.pages c.args.order (one_inside c.self.inside c.args.self.now c.args.page c.args.pages c.args.order c.self.invariant c.self.view_is c.requires.block)

pub free_run_as_block-requires-clause-block : goal.free_run_as_block-requires-clause-block
free_run_as_block-requires-clause-block c = one_has c.self.inside c.self.invariant c.args.page c.args.pages c.args.order (one_inside c.self.inside c.args.self.now c.args.page c.args.pages c.args.order c.self.invariant c.self.view_is c.requires.block)

pub free_run_as_block-requires-clause-size : goal.free_run_as_block-requires-clause-size
free_run_as_block-requires-clause-size c = c.requires.block.size

pub set-requires : goal.set-requires
set-requires c = one_place c.self.inside c.self.invariant c.args.page c.args.pages c.args.order (one_inside c.self.inside c.args.self.now c.args.page c.args.pages c.args.order c.self.invariant c.self.view_is c.requires.block)

abbrev asked : After-add → Request
asked c = request.FreeRun c.args.page c.args.pages

abbrev after : After-add → Inside
after c = record { seat = c.free_run_as_block.new.seat; uses = c.set.new.self; cached = c.self.inside.cached; sections = c.add.new.self }

made : (c : After-add) → IsWhole (after c) × (share_of (after c) ≡ answered_in c.args.zone.now.plain (asked c) reply.Freed (share_of c.self.inside))
made c =
    let zone = c.free_run_as_block.ensures in
    let block = one_inside c.self.inside c.args.self.now c.args.page c.args.pages c.args.order c.self.invariant c.self.view_is c.requires.block in
    run_parts_answered c.args.zone.now.plain (asked c) reply.Freed c.self.inside (after c) c.worker-worker.result c.self.invariant
    (one_used c.args.zone.now c.self.inside c.set.new.self c.args.page c.args.pages c.args.order c.self.invariant zone.agrees.0 c.pages-pages.ensures.lawful zone.known (below c.args.order c.number-number.result c.number-number.ensures.same c.number-number.ensures.within) block c.set.ensures)
    zone.seat (ap (λ u. u.base) c.set.ensures) refl refl c.add.ensures c.worker-worker.ensures

pub invariant_of-self : goal.invariant_of-self
invariant_of-self c = (made c).0

pub returns-clause-section : goal.returns-clause-section
returns-clause-section c =
    let zone = c.free_run_as_block.ensures in
    let full : (c.args.self.now.sections.made == LAST_SECTION) ≡ false = ap (λ s. s.sections.made == LAST_SECTION) (sym c.self.view_is) ∙ sym c.are_full.ensures.full ∙ c.if-are_full.false in
    let lent : is_lent_run c.args.self.now.seat.part.base c.args.self.now.uses c.args.page c.args.pages ≡ true =
    one_lent c.args.self.now.seat.part.base c.args.page c.args.pages c.args.order c.args.self.now.uses (below c.args.order c.number-number.result c.number-number.ensures.same c.number-number.ensures.within) c.requires.block in
    let one = section_is (asked c) reply.Freed c.args.zone.now c.free_run_as_block.new.self c.self.inside (after c) c.args.self.now c.self.invariant c.self.view_is (made c).0 (made c).1
    refl zone.after c.requires.seat zone.fits zone.known zone.agrees in
    record {
      made =
          subst (λ b. ComesOf (refusal b (c.args.self.now.sections.made == LAST_SECTION)) (asked c) reply.Freed c.args.zone.now c.free_run_as_block.new.self c.args.self.now (share_of (after c))) (sym lent)
          (subst (λ b. ComesOf (refusal true b) (asked c) reply.Freed c.args.zone.now c.free_run_as_block.new.self c.args.self.now (share_of (after c))) (sym full) one);
      reply = tt;
      same = record { tie = search rules; worker = search rules };
      fits = zone.fits;
      seats = zone.seats;
    }

pub returns-then-are_full-clause-section : goal.returns-then-are_full-clause-section
returns-then-are_full-clause-section c =
    let full : (c.args.self.now.sections.made == LAST_SECTION) ≡ true = ap (λ s. s.sections.made == LAST_SECTION) (sym c.self.view_is) ∙ sym c.are_full.ensures.full ∙ c.if-are_full.true in
    let lent : is_lent_run c.args.self.now.seat.part.base c.args.self.now.uses c.args.page c.args.pages ≡ true =
    one_lent c.args.self.now.seat.part.base c.args.page c.args.pages c.args.order c.args.self.now.uses (below c.args.order c.number-number.result c.number-number.ensures.same c.number-number.ensures.within) c.requires.block in
    let comes : Bool → Bool → Type 0 = λ l f. ComesOf (refusal l f) (request.FreeRun c.args.page c.args.pages) (reply.Refused JournalFull) c.args.zone.now c.args.zone.now c.args.self.now c.args.self.now in
    record {
      made = subst (λ l. comes l (c.args.self.now.sections.made == LAST_SECTION)) (sym lent) (subst (comes true) (sym full) (refl, record { zone = refl; share = refl }));
      reply = inr refl;
      same = record { tie = refl; worker = refl };
      fits = c.requires.seat;
      seats = λ s e. e;
    }
