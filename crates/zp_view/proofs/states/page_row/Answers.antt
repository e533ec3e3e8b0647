use Rattle.std.proofs.Common.{◌+◌, ◌≡◌, ◌++◌, [], ◌∷◌, arith, length, subst, sym}
use Rattle.zp_view.specs.States.{AreStatesFrom, IsPageState, IsWhole, Lending}
use Rattle.zp_view.proofs.Wholes.{pushed, state_in}
use Rattle.zp_view.proofs.states.page_row.Goals as goal

pub pages-preserved : goal.pages-preserved
pages-preserved g c =
    let lent : Lending = g.L.Lenders.lent c.args.lenders.now c.args.place in
    let z = c.args.zone.now.plain in
    let first = c.args.first in
    let b = c.in-Some.block in
    let row = c.pages.row.items in
    let there : c.new-page.result ≡ first + length row = omega (arith, c.new-page.ensures, c.number.ensures.same, c.pages.invariant.pages) in
    let here : IsPageState lent z (first + length row) b.state =
    subst (λ p. IsPageState lent z p b.state) there (state_in lent z c.new-page.result b c.in-Some.ensures.block) in
    let more : c.push.new.self.items ≡ row ++ b.state ∷ [] = c.in_ok-push.ensures.items in
    record {
      pages = omega (arith, c.in_ok-push.ensures.len, c.pages.invariant.pages);
      before = λ x e. let same : b ≡ x = cc in subst (IsWhole lent z) same c.in-Some.ensures.whole;
      states = subst (AreStatesFrom lent z first) (sym more) (pushed (λ k s. IsPageState lent z (first + k) s) row b.state c.pages.invariant.states here);
    }
