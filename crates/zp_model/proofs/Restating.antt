-- Notes that are restated for one set of free pages and then for another, as when blocks leave or come one after the other.
use Rattle.std.proofs.Common.{ℕ, ◌≡◌, ◌<◌, refl, sym, ◌∙◌, ap, arith, Bool, List, length, get_or, Option, None, Some}
use Rattle.std.proofs.lemmas.List.{ext_get_or}
use Rattle.zp_model.specs.declared.state.State.{State}
use Rattle.zp_model.specs.declared.state.State.TheVariants.{Tail, Free, Out, Posted}
use Rattle.zp_model.specs.Area.{Area}
use Rattle.zp_model.specs.BlockSet.{max_blocks}
use Rattle.zp_model.specs.Frames.{Frames, restate, restated, with_area}
use Rattle.zp_model.specs.Rows.{state_at}
use Rattle.zp_model.proofs.Maximal.{Max}
use Rattle.zp_model.proofs.MaximalBlocks.{length-restated, max_blocks-to, state-restated}

restate_through : (p q : Option ℕ) (s : State) → ((k : ℕ) → q ≡ Some k → restate None s ≡ Tail) → restate p (restate q s) ≡ restate p s
restate_through (Some k) q s f = refl
restate_through None (Some k) s f = sym (f k refl)
restate_through None None Tail f = refl
restate_through None None (Free k) f = refl
restate_through None None (Out k t w) f = refl
restate_through None None (Posted k t w) f = refl

-- notes that are restated for u and then for v are those that are restated for v, where none says of the head of a block of u that it is out or posted
pub restated_through : (m : ℕ) (u v : List Bool) (s : List State) → ((g k : ℕ) → Max m u g k → restate None (state_at s g) ≡ Tail) → restated m v (restated m u s) ≡ restated m v s
restated_through m u v s f =
    let mid : List State = restated m u s in
    let len : length mid ≡ length s = length-restated m u s in
    ext_get_or Tail (restated m v mid) (restated m v s) (length-restated m v mid ∙ len ∙ sym (length-restated m v s)) (λ g below.
    let lt : g < length s = omega (arith, length-restated m v mid) in
    state-restated m v mid g (omega arith)
    ∙ ap (restate (get_or (max_blocks m v) g None)) (state-restated m u s g lt)
    ∙ restate_through (get_or (max_blocks m v) g None) (get_or (max_blocks m u) g None) (state_at s g) (λ k e. f g k (max_blocks-to m u g k e))
    ∙ sym (state-restated m v s g lt))

-- so frames that get one free area and then another are those that get the other
pub with_area-through : (f : Frames) (a b : Area) → a.largest ≡ b.largest → ((g k : ℕ) → Max a.largest a.free g k → restate None (state_at f.states g) ≡ Tail) →
    with_area (with_area f a) b ≡ with_area f b
with_area-through f a b same clear = λ i. record f { area = b; states = (ap (λ m. restated m b.free (restated a.largest a.free f.states)) (sym same) ∙ restated_through a.largest a.free b.free f.states clear ∙ ap (λ m. restated m b.free f.states) same) i }
