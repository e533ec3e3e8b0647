use Rattle.std.proofs.Common.{ℕ, List, ◌≡◌, ◌<◌, ◌≤◌, ◌+◌, [], arith, ap, sym, ◌∙◌, length, length-take-le, take}
use Rattle.std.proofs.lemmas.Result.{err_from_is_err_and}
use Rattle.zp_model.specs.declared.request.Reply.TheVariants as Reply
use Rattle.zp_model.specs.Step.{Outcome, refill}
use Rattle.zp_zone.specs.NamedZone.{NamedZone, pages_reply}
use Rattle.zp_zone.proofs.RefillSteps.{got_all, got_none, got_stopped, none_got, zone_is}
use Rattle.zp_zone.proofs.RunSteps.{got_part, part_workers}
use Rattle.zp_zone.proofs.untied_zone.UntiedZone.refill.Goals.{Left-parts, else-parts-test, then-parts-test+in_default}
use Rattle.zp_zone.proofs.untied_zone.UntiedZone.refill.Goals as goal

pub returns-in_err-first-clause-reply : goal.returns-in_err-first-clause-reply
returns-in_err-first-clause-reply c =
    let p = err_from_is_err_and c.from_residual.result c.from_residual.ensures.1 in
    ap pages_reply p.1 ∙ ap Reply.Refused p.2
    ∙ ap (λ (o : Outcome). o.reply) (sym (none_got c.args.self.now.plain c.args.worker c.args.kind c.args.mark c.args.count _ c.requires.some c.in_err-first.ensures.refused))

pub parts-init : goal.parts-init
parts-init c =
    let a = c.in_ok-first.ensures in
    let none : 0 + c.in_ok-first.taken ≡ c.in_ok-first.taken = omega arith in
    record {
      name = a.name;
      got = rw (← none, c.put_part.ensures.pages) (got_part _ _ _ _ _ _ _ [] _ _ (got_none c.args.self.now.plain c.args.worker c.args.kind c.args.mark c.args.count) a.got c.requires.worker (omega (arith, a.most, c.from.ensures)));
      all = c.put_part.ensures.len;
      some = a.some;
      most = omega (arith, a.most, c.from.ensures);
      worker = part_workers _ _ _ _ _ _ _ a.got c.requires.worker;
    }

pub parts-preserved : goal.parts-preserved
parts-preserved c =
    let i = c.parts.invariant in
    let a = c.in-Ok.ensures in
    let long : length (take c.parts.got c.parts.pages) ≡ c.parts.got = length-take-le c.parts.got c.parts.pages (omega (arith, i.all, i.most, c.requires.batch)) in
    let room : c.parts.got + c.in-Ok.part.1 ≤ c.args.count = omega (arith, a.most, c.from-in-parts-2.ensures, c.parts-test.true, c.from-in-parts.ensures) in
    record {
      name = a.name ∙ i.name;
      got = rw c.put_part-in-parts.ensures.pages (got_part _ _ _ _ _ _ _ _ _ _ i.got a.got i.worker (omega (arith, long, room)));
      all = c.put_part-in-parts.ensures.len ∙ i.all;
      some = omega (arith, i.some);
      most = omega (arith, room);
      worker = part_workers _ _ _ _ _ _ _ a.got i.worker;
    }

-- the refill at its end: it has all the pages, or is stopped
done : (c : Left-parts) → refill c.args.self.now.plain c.args.worker c.args.kind c.args.mark [] c.args.count ≡ record { reply = Reply.Pages (take c.parts.got c.parts.pages); zone = c.parts-test.self.plain }
done c =
    let i = c.parts.invariant in
    let end : NamedZone → Outcome = λ n. record { reply = Reply.Pages (take c.parts.got c.parts.pages); zone = n.plain } in
    let long : length (take c.parts.got c.parts.pages) ≡ c.parts.got = length-take-le c.parts.got c.parts.pages (omega (arith, i.all, i.most, c.requires.batch)) in
    elim c.parts-test.branch [
      | else-parts-test w ↦
          let le : c.args.count ≤ length (take c.parts.got c.parts.pages) = omega (arith, long, w.parts-test.false, c.from-in-parts.ensures) in
          got_all _ _ _ _ _ _ _ i.got le ∙ ap end (sym w.self-is)
      | then-parts-test+in_default w ↦
          let lt : length (take c.parts.got c.parts.pages) < c.args.count = omega (arith, long, w.parts-test.true, c.from-in-parts.ensures) in
          got_stopped _ _ _ _ _ _ w.in_default.field-0 _ i.got (omega (arith, long, i.some)) lt w.in_default.ensures.refused ∙ ap end (sym w.in_default.ensures.same ∙ sym w.self-is)
    ]

pub returns-clause-reply : goal.returns-clause-reply
returns-clause-reply c = ap Reply.Pages (c.truncate.ensures.items ∙ ap (take c.parts.got) c.from-batch.ensures.0) ∙ ap (λ (o : Outcome). o.reply) (sym (done (goal.at.returns-clause-reply c).Left-parts))

pub returns-clause-after : goal.returns-clause-after
returns-clause-after c =
    let d = (goal.at.returns-clause-after c).Left-parts in
    let i = c.parts.invariant in
    let N : NamedZone → List ℕ = λ n. n.name in
    let name : c.parts-test.self.name ≡ c.args.self.now.name = elim c.parts-test.branch [
      | else-parts-test w ↦ ap N w.self-is ∙ i.name
      | then-parts-test+in_default w ↦ ap N w.self-is ∙ ap N w.in_default.ensures.same ∙ i.name
    ] in
    zone_is c.args.self.now c.parts-test.self _ name (ap (λ (o : Outcome). o.zone) (sym (done d)))
