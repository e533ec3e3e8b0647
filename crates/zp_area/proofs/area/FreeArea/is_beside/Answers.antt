use Rattle.std.proofs.Common.{◌≡◌, ap, inl, inr, sym, ◌∙◌}
use Rattle.std.specs.Option.{is_some}
use Rattle.std.proofs.lemmas.Bool.{both_ways}
use Rattle.zp_model.specs.MigrateType.{foreign}
use Rattle.zp_model.specs.Rows.{front}
use Rattle.zp_area.specs.Blocks.{free_list_of}
use Rattle.zp_area.proofs.Claimable.{beside_cases, beside_one, beside_other, fronts_of}
use Rattle.zp_area.proofs.area.FreeArea.is_beside.Goals.{After-is_some-else-is_some}
use Rattle.zp_area.proofs.area.FreeArea.is_beside.Goals as goal

pub returns-then-is_some : goal.returns-then-is_some
returns-then-is_some c =
    let e : c.is_some.result ≡ is_some (fronts_of c.args.self.now.largest c.args.self.now c.args.order (foreign c.args.kind) 0) = rw (← c.fallbacks.ensures) (c.is_some.ensures ∙ ap is_some (c.front.ensures.answer ∙ ap (λ f. front (free_list_of c.args.self.now.largest c.args.self.now c.args.order f)) c.pageblock_type.ensures)) in (
      λ on. beside_one c.args.self.now.largest c.args.self.now c.pages-pages.ensures.one c.args.order c.args.kind (sym e ∙ on),
      λ w. c.if-is_some.true,
    )

pub returns-else-is_some : goal.returns-else-is_some
returns-else-is_some c =
    let e : c.is_some.result ≡ is_some (fronts_of c.args.self.now.largest c.args.self.now c.args.order (foreign c.args.kind) 0) = rw (← c.fallbacks.ensures) (c.is_some.ensures ∙ ap is_some (c.front.ensures.answer ∙ ap (λ f. front (free_list_of c.args.self.now.largest c.args.self.now c.args.order f)) c.pageblock_type.ensures)) in
    let f : c.is_some-else-is_some.result ≡ is_some (fronts_of c.args.self.now.largest c.args.self.now c.args.order (foreign c.args.kind) 1) =
    rw (← c.fallbacks.ensures) (c.is_some-else-is_some.ensures ∙ ap is_some (c.front-else-is_some.ensures.answer ∙ ap (λ f. front (free_list_of c.args.self.now.largest c.args.self.now c.args.order f)) c.pageblock_type-else-is_some.ensures)) in (
      λ on. beside_other c.args.self.now.largest c.args.self.now c.pages-pages.ensures.one c.args.order c.args.kind (sym f ∙ on),
      λ w. elim (beside_cases c.args.self.now.largest c.args.self.now c.pages-pages.ensures.one c.args.order c.args.kind w) [
        | inl on ↦ absurd (both_ways c.is_some.result c.if-is_some.false (e ∙ on))
        | inr on ↦ f ∙ on
      ],
    )
