use Rattle.std.proofs.Common.{◌+◌, ◌≡◌, ◌≤◌, refl, arith}
use Rattle.zp_model.specs.Zone.{pages_of}
use Rattle.zp_laws.proofs.RunSteps.{lent-to, lent_inside}
use Rattle.zp_zone.proofs.RunsFreed.{freeing_goes, freeing_inside, freeing_starts}
use Rattle.zp_zone.proofs.untied_zone.UntiedZone.free_parts.Goals.{After-pages-pages}
use Rattle.zp_zone.proofs.untied_zone.UntiedZone.free_parts.Goals as goal

-- the run lies in the zone
inside : (c : After-pages-pages) → c.args.at + c.args.pages ≤ pages_of c.args.self.now.plain
inside c =
    lent_inside c.args.self.now.plain c.args.worker c.args.at c.args.pages c.lawful.ensures (lent-to c.args.self.now.plain c.args.worker c.args.at c.args.pages (omega (arith, c.requires.some)) c.requires.lent)

pub overflow_add-end : goal.overflow_add-end
overflow_add-end c =
    omega (arith, inside (goal.at.overflow_add-end c).After-pages-pages, c.number-next.ensures.same, c.pages-pages.ensures.pages, c.pages-pages.ensures.within)

pub parts-init : goal.parts-init
parts-init c = record {
  name = refl;
  freeing = freeing_starts c.args.self.now.plain c.args.worker c.args.at c.args.pages c.number-next.result (c.number-next.result + c.args.pages) c.requires.some c.requires.lent c.number-next.ensures.same refl;
}

pub at-place-requires : goal.at-place-requires
at-place-requires c =
    omega (arith, freeing_inside _ _ _ _ _ _ _ c.lawful-in-parts.ensures c.parts.invariant.freeing (omega arith), c.pages-pages.ensures.pages, c.pages-pages.ensures.within)

pub free_first-freed-requires-clause-worker : goal.free_first-freed-requires-clause-worker
free_first-freed-requires-clause-worker c = rw c.parts.invariant.freeing.workers c.requires.worker

pub free_first-freed-requires-clause-lent : goal.free_first-freed-requires-clause-lent
free_first-freed-requires-clause-lent c = rw c.at-place.ensures (c.parts.invariant.freeing.lent (omega arith))

pub overflow_add-next : goal.overflow_add-next
overflow_add-next c =
    omega (arith, c.free_first-freed.ensures.most, freeing_inside _ _ _ _ _ _ _ c.lawful-in-parts.ensures c.parts.invariant.freeing (omega arith), c.pages-pages.ensures.pages, c.pages-pages.ensures.within)

pub parts-preserved : goal.parts-preserved
parts-preserved c =
    let x = c.parts.invariant in
    rw (c.free_first-freed.ensures.after, c.at-place.ensures) (record {
      name = x.name;
      freeing = freeing_goes _ _ _ _ _ _ _ c.free_first-freed.result c.lawful-in-parts.ensures c.requires.worker x.freeing (omega arith) c.free_first-freed.ensures.some c.free_first-freed.ensures.most
          (rw c.at-place.ensures at c.free_first-freed.ensures.ends);
    })

pub parts-smaller : goal.parts-smaller
parts-smaller c = omega (arith, c.free_first-freed.ensures.some)

pub returns : goal.returns
returns c =
    let x = c.parts.invariant in
    let last : c.parts.next ≡ c.number-next.result + c.args.pages = omega (arith, x.freeing.upto) in
    λ i. record { name = x.name i; plain = x.freeing.done last i }
