-- The same value written to places in a row.
use Rattle.std.proofs.Common.{ℕ, zero, suc, ◌+◌, ◌++◌, ◌≡◌, ◌≤◌, refl, sym, ◌∙◌, ap, arith, List, drop, length, length-set, replicate, set, take}
use Rattle.std.proofs.lemmas.List.{append-nil, drop_all, length-drop, length-replicate, length-take-le, take_all}
use Rattle.std.proofs.lemmas.List.Edits.{fill_from_more, length-paste, paste_none}
use Rattle.std.proofs.lemmas.Slice.{put_mid-paste}
use Rattle.std.proofs.Math.Seq.{paste}
use Rattle.zp_model.specs.Rows.{with_run}

-- one place more
pub run_more : {X : Type 0} (xs : List X) (h n : ℕ) (x : X) → set (with_run xs h n x) (h + n) x ≡ with_run xs h (n + 1) x
run_more xs h zero x =
    let e : h + 0 ≡ h = omega arith in
    ap (λ g. set xs g x) e
run_more xs h (suc n) x =
    let e : h + suc n ≡ h + 1 + n = omega arith in
    let f : suc n + 1 ≡ suc (n + 1) = omega arith in
    ap (λ g. set (with_run (set xs h x) (h + 1) n x) g x) e ∙ run_more (set xs h x) (h + 1) n x ∙ ap (λ k. with_run xs h k x) (sym f)

pub length-run : {X : Type 0} (xs : List X) (h n : ℕ) (x : X) → length (with_run xs h n x) ≡ length xs
length-run xs h zero x = refl
length-run xs h (suc n) x = length-run (set xs h x) (h + 1) n x ∙ length-set xs h x

-- what lies between the places before and those after
pub run_is : {X : Type 0} (xs : List X) (h n : ℕ) (x : X) → h + n ≤ length xs → with_run xs h n x ≡ paste xs h (replicate n x) n
run_is xs h zero x le = paste_none xs h (replicate 0 x)
run_is xs h (suc n) x le =
    let e : suc n ≡ n + 1 = omega arith in
    ap (λ k. with_run xs h k x) e ∙ sym (run_more xs h n x) ∙ ap (λ ys. set ys (h + n) x) (run_is xs h n x (omega arith)) ∙ fill_from_more xs h n x (omega arith)
    ∙ ap (λ k. paste xs h (replicate k x) k) (sym e)

-- a part of a list that was written, in the words of the code
pub run_written : {X : Type 0} (was now ys : List X) (h n k m : ℕ) (x : X) → now ≡ was → h + n ≤ length was → k ≡ n → m ≡ length was → ys ≡ replicate (length (take k (drop h now))) x →
    let zs : List X = take h now ++ (ys ++ drop k (drop h now)) in take m (zs ++ drop (length zs) was) ≡ with_run was h n x
run_written {X} was now ys h n k m x read le count len wrote =
    let zs : List X = take h now ++ (ys ++ drop k (drop h now)) in
    let part : length (take k (drop h now)) ≡ n = length-take-le k (drop h now) (omega (arith, length-drop h now, ap length read)) ∙ count in
    let filled = length-replicate n x in
    let e : zs ≡ paste was h (replicate n x) n =
    ap (λ q. take h q ++ (ys ++ drop k (drop h q))) read ∙ put_mid-paste h k was ys (replicate n x) n (wrote ∙ ap (λ j. replicate j x) part) (sym count) (sym filled) in
    let l : length zs ≡ length was = ap length e ∙ length-paste was h (replicate n x) n le (omega (arith, filled)) in
    ap (λ q. take m (zs ++ q)) (drop_all (length zs) was (omega (arith, l))) ∙ ap (take m) (append-nil zs) ∙ take_all m zs (omega (arith, l, len)) ∙ e ∙ sym (run_is was h n x le)
