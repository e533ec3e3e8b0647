-- Pages that come back one by one, the highest first: those of a block leave what the block does, and a free buddy behind them may leave first.
use Rattle.std.proofs.Common.{ℕ, suc, zero, ◌+◌, ◌-◌, ◌%◌, ◌^◌, ◌≡◌, ◌≤◌, ◌<◌, inl, inr, refl, sym, ◌∙◌, ap, arith, false, ◌∷◌, ◌++◌, length}
use Rattle.std.proofs.Math.Bool.{and-false}
use Rattle.std.proofs.Math.Nat.{add-mod_right}
use Rattle.std.proofs.lemmas.Bool.{cases_lt, false_from_ne_true}
use Rattle.std.proofs.lemmas.Nat.{pow_pos}
use Rattle.zp_model.specs.Block.{has, in_run}
use Rattle.zp_model.specs.Area.{Area}
use Rattle.zp_model.specs.Take.{give, leave}
use Rattle.zp_model.specs.Lawful.{IsListedArea}
use Rattle.zp_model.proofs.Covers.{has_below, length-with, length-without}
use Rattle.zp_model.proofs.Heads.{two, aligned_down}
use Rattle.zp_model.proofs.Maximal.{Max}
use Rattle.zp_model.proofs.Pages.{in_run-to, in_run-from, is_max-to}
use Rattle.zp_laws.proofs.Areas.{free-give, free-leave, largest-give, largest-leave, lists-give, lists-leave}
use Rattle.zp_laws.proofs.Counting.{has-with_any, has-without_any}
use Rattle.zp_buddy.specs.FallingRuns.{falling_run}
use Rattle.zp_buddy.specs.Runs.{gives}
use Rattle.zp_buddy.proofs.GiveRuns.{give_halves}
use Rattle.zp_buddy.proofs.TakenBehind.{give_double}
use Rattle.zp_buddy.proofs.TurnedRuns.{IsOutOf, gives-append}

-- a run falls as its end does, and then the rest
pub falling_parts : (h n k : ℕ) → falling_run h (n + k) ≡ falling_run (h + n) k ++ falling_run h n
falling_parts h n zero = let e : n + 0 ≡ n = omega arith in ap (falling_run h) e
falling_parts h n (suc k) =
    let e : n + suc k ≡ suc (n + k) = omega arith in
    let at : h + (n + k) ≡ h + n + k = omega arith in
    ap (falling_run h) e ∙ (λ i. at i ∷ falling_parts h n k i)

-- of a block it leaves what the block does
pub gives_falling : (k : ℕ) (a : Area) (h : ℕ) → IsListedArea a → k ≤ a.largest → h % 2 ^ k ≡ 0 → h + 2 ^ k ≤ length a.free → IsOutOf a h k → gives a (falling_run h (2 ^ k)) ≡ give a h k
gives_falling zero a h l order al room clear = let e : h + 0 ≡ h = omega arith in ap (λ q. give a q 0) e
gives_falling (suc k) a h l order al room clear =
    let s : suc k ≡ k + 1 = omega arith in
    let w : ℕ = 2 ^ k in
    let n : 2 ^ suc k ≡ w + w = ap (λ n. 2 ^ n) s ∙ two k in
    let high : ℕ = h + w in
    let b : Area = give a high k in
    let double : h % 2 ^ (k + 1) ≡ 0 = rw s at al in
    let low_al : h % w ≡ 0 = aligned_down k (k + 1) h (omega arith) double in
    let len : length b.free ≡ length a.free = ap length (free-give a high k) ∙ length-with a.free high k in
    let first = gives_falling k a high l (omega arith) (add-mod_right h w ∙ low_al) (omega arith) (λ i lo hi. clear i (omega arith) (omega arith)) in
    let last = gives_falling k b h (lists-give a high k l) (omega (arith, largest-give a high k)) low_al (omega arith) (λ i lo hi.
    let off : in_run high k i ≡ false = false_from_ne_true _ (λ on. let r = in_run-to high k i on in omega (arith, r.0)) in
    ap (λ u. has u i) (free-give a high k) ∙ has-with_any a.free high k i (omega arith) ∙ rw (off, clear i lo (omega arith)) refl) in
    ap (λ q. gives a (falling_run h q)) n
    ∙ ap (gives a) (falling_parts h w w)
    ∙ gives-append a (falling_run high w) (falling_run h w)
    ∙ ap (λ z. gives z (falling_run h w)) first
    ∙ last
    ∙ give_halves a h k high h l double (omega arith) (rw s at room) (λ i lo hi. clear i lo (rw (← s) at hi)) (inr (refl, refl))
    ∙ ap (give a h) (sym s)

-- no page of the n from h on is free
abbrev pub AreOut : Area → ℕ → ℕ → Type 0
AreOut a h n = (i : ℕ) → h ≤ i → i < h + n → has a.free i ≡ false

-- the pages up to the end of a block: those of the block, and then the rest
pub gives_last : (a : Area) (h r k : ℕ) → IsListedArea a → k ≤ a.largest → (h + r) % 2 ^ k ≡ 0 → h + r + 2 ^ k ≤ length a.free → AreOut a h (r + 2 ^ k) →
    gives a (falling_run h (r + 2 ^ k)) ≡ gives (give a (h + r) k) (falling_run h r)
gives_last a h r k l order al room clear =
    ap (gives a) (falling_parts h r (2 ^ k)) ∙ gives-append a (falling_run (h + r) (2 ^ k)) (falling_run h r)
    ∙ ap (λ z. gives z (falling_run h r)) (gives_falling k a (h + r) l order al room (λ i lo hi. clear i (omega arith) (omega arith)))

-- a free buddy behind the last block of the run leaves, and comes back with the run
pub gives_behind : (a : Area) (h r k : ℕ) → IsListedArea a → k < a.largest → (h + r) % 2 ^ (k + 1) ≡ 0 → Max a.largest a.free (h + r + 2 ^ k) k → AreOut a h (r + 2 ^ k) →
    gives (leave a (h + r + 2 ^ k) k) (falling_run h (r + 2 ^ (k + 1))) ≡ gives a (falling_run h (r + 2 ^ k))
gives_behind a h r k l lt double top clear =
    let c : ℕ = h + r + 2 ^ k in
    let b : Area = leave a c k in
    let w = two k in
    let full = (is_max-to a.largest a.free c k top).inside in
    let inside : c + 2 ^ k ≤ length a.free = omega (arith, has_below a.free (c + 2 ^ k - 1) (full (c + 2 ^ k - 1) (omega (arith, pow_pos k)) (omega (arith, pow_pos k))), pow_pos k) in
    let len : length b.free ≡ length a.free = ap length (free-leave a c k) ∙ length-without a.free c k in
    let out : AreOut b h (r + 2 ^ (k + 1)) = λ i lo hi.
    ap (λ u. has u i) (free-leave a c k) ∙ has-without_any a.free c k i ∙ elim (cases_lt i c) [
      | inl low ↦ rw (clear i lo (omega arith)) refl
      | inr high ↦ rw (in_run-from c k i high (omega arith)) (and-false (has a.free i))
    ] in
    gives_last b h r (k + 1) (lists-leave a c k l) (omega (arith, largest-leave a c k)) double (omega arith) out
    ∙ ap (λ z. gives z (falling_run h r)) (give_double a (h + r) k l lt double top)
    ∙ sym (gives_last a h r k l (omega arith) (aligned_down k (k + 1) (h + r) (omega arith) double) (omega arith) clear)
