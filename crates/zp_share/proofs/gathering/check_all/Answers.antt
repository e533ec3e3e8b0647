use Rattle.std.proofs.Common.{get_or, ◌∙◌, ap, subst, set}
use Rattle.std.proofs.lemmas.List.{set-get_or}
use Rattle.std.proofs.lemmas.List.Elements.{All-more}
use Rattle.zp_share.specs.Gathering.{IsOneOf}
use Rattle.zp_share.proofs.gathering.check_all.Goals as goal

pub loop-share-preserved : goal.loop-share-preserved
loop-share-preserved c =
    let i = c.loop-share.share-index in
    let r = c.share-item.result in
    let xs = c.loop-share.share-items in
    let was = c.loop-share.invariant in
    let told = c.check.ensures in
    let z = c.args.zone.now in
    let one : IsOneOf c.loop-share.zone c.args.place (get_or xs i r) = record { agrees = told.agrees; whole = told.whole; worker = told.worker } in
    let same : IsOneOf z c.args.place (get_or xs i r) = subst (λ y. IsOneOf y c.args.place (get_or xs i r)) was.zone one in
    record {
      zone = told.zone ∙ was.zone;
      shares = ap (set xs i) told.share ∙ set-get_or xs i r ∙ was.shares;
      seen = All-more (IsOneOf z c.args.place) c.args.shares.now i r c.loop-share-test.true was.seen (subst (λ l. IsOneOf z c.args.place (get_or l i r)) was.shares same);
    }
