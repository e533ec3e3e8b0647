-- A page of a block lies in it, and rows of states.
use Rattle.std.proofs.Common.{ℕ, suc, zero, ◌≡◌, ◌∙◌, ap, subst, List, [], ◌∷◌, ◌++◌, length, Some}
use Rattle.std.specs.Prelude.{slice_get}
use Rattle.zp_model.specs.declared.state.State.{State}
use Rattle.zp_model.specs.declared.state.State.TheVariants.{Tail, Free, Out, Posted}
use Rattle.zp_model.specs.Block.{in_run}
use Rattle.zp_model.specs.Zone.{PlainZone}
use Rattle.zp_view.specs.declared.states.PageBlock.{PageBlock}
use Rattle.zp_view.specs.Blocks.{reaches}
use Rattle.zp_view.specs.States.{IsPageBlock, IsPageState, IsWhole, Lending, order_noted}

reaches_order : (s : State) (k first page : ℕ) → order_noted s ≡ Some k → reaches s first page ≡ in_run first k page
reaches_order Tail k first page e = cc
reaches_order (Free j) k first page e = let same : j ≡ k = cc in ap (λ n. in_run first n page) same
reaches_order (Out j t w) k first page e = let same : j ≡ k = cc in ap (λ n. in_run first n page) same
reaches_order (Posted j t w) k first page e = let same : j ≡ k = cc in ap (λ n. in_run first n page) same

-- all pages of a block in which a page lies, lie in it
pub whole_of : (lent : Lending) (z : PlainZone) (p : ℕ) (b : PageBlock) → IsPageBlock lent z p b → IsWhole lent z b
whole_of lent z p b x q r = record {
  noted = x.noted;
  lies = record { from = x.lies.from; noted = x.lies.noted; reached = reaches_order x.noted b.order b.first q x.order ∙ r };
  order = x.order;
  state = x.state;
}

-- a page is in the state of its block
pub state_in : (lent : Lending) (z : PlainZone) (p : ℕ) (b : PageBlock) → IsPageBlock lent z p b → IsPageState lent z p b.state
state_in lent z p b x = record { first = b.first; noted = x.noted; lies = x.lies; state = x.state }

-- what holds of each place of a list, and of one item more
pub pushed : {X : Type 0} (f : ℕ → X → Type 0) (xs : List X) (x : X) → ((k : ℕ) (s : X) → slice_get xs k ≡ Some s → f k s) → f (length xs) x →
    (k : ℕ) (s : X) → slice_get (xs ++ x ∷ []) k ≡ Some s → f k s
pushed f [] x all here zero s e = let same : x ≡ s = cc in subst (f zero) same here
pushed f [] x all here (suc k) s e = cc
pushed f (y ∷ ys) x all here zero s e = all zero s e
pushed f (y ∷ ys) x all here (suc k) s e = pushed (λ n t. f (suc n) t) ys x (λ n t q. all (suc n) t q) here k s e
