use Rattle.std.specs.Prelude.{Result, Ok, Err}
use Rattle.std.proofs.Common.{ℕ, ◌≡◌, ◌==◌, sym, ◌∙◌, ap, subst, refl, rules, true, false}
use Rattle.zp_model.specs.declared.refused.Refused.{Refused}
use Rattle.zp_model.specs.declared.refused.Refused.TheVariants.{BelowMark, NoBlock}
use Rattle.zp_model.specs.declared.request.Request.{Request}
use Rattle.zp_model.specs.declared.request.Request.TheVariants as request
use Rattle.zp_model.specs.declared.request.Reply.{Reply}
use Rattle.zp_zone.specs.NamedZone.{page_reply}
use Rattle.zp_share.specs.declared.sections_made.TheConstants.{LAST_SECTION}
use Rattle.zp_share.specs.declared.zone_share.ZoneShare.TheInside.{Inside}
use Rattle.zp_share.specs.PlainShares.{refusal}
use Rattle.zp_share.specs.Sections.{ComesOf, IsReplyTo}
use Rattle.zp_share.specs.ZoneShares.{answered_in}
use Rattle.zp_share.proofs.Asking.{zone_why}
use Rattle.zp_share.proofs.Closing.{IsRunUsed, IsWhole, run_parts_answered, section_is, share_of}
use Rattle.zp_share.proofs.RunSections.{asked_got, asked_lent, asked_off, asked_pages, gets_lowest, run_used}
use Rattle.zp_share.proofs.Tried.{IfRefused, IsWhy, step-why}
use Rattle.zp_share.proofs.zone_share.ZoneShare.alloc_run.Goals as goal

pub note_run-requires-clause-zone : goal.note_run-requires-clause-zone
note_run-requires-clause-zone c =
    asked_pages c.args.zone.now c.alloc_run-got.new.self c.self.inside c.args.pages (request.AllocRun c.args.pages c.args.align c.args.mark) c.alloc_run-got.result c.alloc_run-got.new.seat c.self.invariant c.alloc_run-got.ensures.agrees.0 c.pages-pages.ensures.lawful
    (gets_lowest c.args.zone.now.plain c.self.inside.seat.worker c.args.pages c.args.align c.args.mark) c.alloc_run-got.ensures.reply c.alloc_run-got.ensures.after c.alloc_run-got.ensures.given

pub note_run-requires-clause-run : goal.note_run-requires-clause-run
note_run-requires-clause-run c =
    asked_off c.args.zone.now c.alloc_run-got.new.self c.self.inside c.args.pages (request.AllocRun c.args.pages c.args.align c.args.mark) c.alloc_run-got.result c.alloc_run-got.new.seat c.self.invariant c.alloc_run-got.ensures.agrees.0 c.pages-pages.ensures.lawful
    (gets_lowest c.args.zone.now.plain c.self.inside.seat.worker c.args.pages c.args.align c.args.mark) c.alloc_run-got.ensures.reply c.alloc_run-got.ensures.after c.alloc_run-got.ensures.given

abbrev asked : goal.After-add → Request
asked c = request.AllocRun c.args.pages c.args.align c.args.mark

abbrev answer : goal.After-add → Reply
answer c = page_reply c.alloc_run-got.result

abbrev after : goal.After-add → Inside
after c = record { seat = c.alloc_run-got.new.seat; uses = c.note_run.new.self; cached = c.self.inside.cached; sections = c.add.new.self }

used : (c : goal.After-add) → IsRunUsed c.args.zone.now.plain (asked c) (answer c) c.self.inside.seat.part.base c.self.inside.seat.worker c.self.inside.uses.uses c.note_run.new.self.uses
used c =
    run_used c.args.zone.now.plain c.alloc_run-got.new.self.plain (asked c) c.args.pages c.self.inside.seat.part.base c.self.inside.seat.worker c.alloc_run-got.result c.self.inside.uses c.note_run.new.self c.self.invariant.0
    (λ p out. refl) (λ p us. refl) (λ e out. refl) (λ e us. refl)
    (asked_got c.args.zone.now c.alloc_run-got.new.self c.self.inside c.args.pages (request.AllocRun c.args.pages c.args.align c.args.mark) c.alloc_run-got.result c.alloc_run-got.new.seat c.self.invariant c.alloc_run-got.ensures.agrees.0 c.pages-pages.ensures.lawful
    (gets_lowest c.args.zone.now.plain c.self.inside.seat.worker c.args.pages c.args.align c.args.mark) c.alloc_run-got.ensures.reply c.alloc_run-got.ensures.after c.alloc_run-got.ensures.given) c.note_run.ensures.lent

made : (c : goal.After-add) → IsWhole (after c) × (share_of (after c) ≡ answered_in c.args.zone.now.plain (asked c) (answer c) (share_of c.self.inside))
made c =
    run_parts_answered c.args.zone.now.plain (asked c) (answer c) c.self.inside (after c) c.worker-worker.result c.self.invariant (used c) c.alloc_run-got.ensures.seat c.note_run.ensures.base refl refl (rw c.page_reply-reply.ensures at c.add.ensures) c.worker-worker.ensures

pub invariant_of-self : goal.invariant_of-self
invariant_of-self c = (made c).0

-- the reply is one to the request
replied : (c : goal.After-add) → IsReplyTo (asked c) (answer c) (share_of c.self.inside) (share_of (after c))
replied c = go c.alloc_run-got.result refl (subst (IfRefused (IsWhy (asked c))) (sym c.alloc_run-got.ensures.reply) (step-why c.args.zone.now.plain c.self.inside.seat.worker (asked c)))
  where
    go : (got : Result ℕ Refused) → c.alloc_run-got.result ≡ got → IfRefused (IsWhy (asked c)) (page_reply c.alloc_run-got.result) → IsReplyTo (asked c) (page_reply got) (share_of c.self.inside) (share_of (after c))
    go (Ok p) e why = asked_lent c.args.zone.now c.alloc_run-got.new.self c.self.inside c.args.pages (request.AllocRun c.args.pages c.args.align c.args.mark) c.alloc_run-got.result c.alloc_run-got.new.seat c.self.invariant c.alloc_run-got.ensures.agrees.0 c.pages-pages.ensures.lawful (gets_lowest c.args.zone.now.plain c.self.inside.seat.worker c.args.pages c.args.align c.args.mark) c.alloc_run-got.ensures.reply c.alloc_run-got.ensures.after c.alloc_run-got.ensures.given (after c) p e (ap (λ s. s.part.base) c.alloc_run-got.ensures.seat) c.note_run.ensures.lent
    go (Err v) e why = zone_why BelowMark NoBlock v (subst (λ g. IfRefused (IsWhy (asked c)) (page_reply g)) e why)

pub returns-clause-section : goal.returns-clause-section
returns-clause-section c =
    let full : (c.args.self.now.sections.made == LAST_SECTION) ≡ false = ap (λ s. s.sections.made == LAST_SECTION) (sym c.self.view_is) ∙ sym c.are_full.ensures.full ∙ c.if-are_full.false in
    let one = section_is (asked c) (answer c) c.args.zone.now c.alloc_run-got.new.self c.self.inside (after c) c.args.self.now c.self.invariant c.self.view_is (made c).0 (made c).1
    c.alloc_run-got.ensures.reply c.alloc_run-got.ensures.after c.requires.seat c.alloc_run-got.ensures.fits c.alloc_run-got.ensures.known c.alloc_run-got.ensures.agrees in
    record {
      made = subst (λ b. ComesOf (refusal true b) (asked c) (answer c) c.args.zone.now c.alloc_run-got.new.self c.args.self.now (share_of (after c))) (sym full) one;
      reply = subst (λ s. IsReplyTo (asked c) (answer c) s (share_of (after c))) c.self.view_is (replied c);
      same = record { tie = search rules; worker = search rules };
      fits = c.alloc_run-got.ensures.fits;
      seats = c.alloc_run-got.ensures.seats;
    }
