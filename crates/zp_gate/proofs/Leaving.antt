-- A worker that leaves its zones, the last first.
use Rattle.std.proofs.Common.{ℕ, ◌≡◌, ◌<◌, ◌+◌, ◌-◌, ◌++◌, ◌∷◌, ◌∙◌, List, [], ap, length, take, slice_index_or, sym, subst, inl, inr, arith}
use Rattle.std.proofs.lemmas.Bool.{cases_lt}
use Rattle.std.proofs.lemmas.List.{get_or_append_left, get_or_push, get_or-take, length-append, length-take-le, take-append-le, take-take, take_all}
use Rattle.zp_gate.specs.Visits.{HasKept}
use Rattle.zp_gate.specs.GatedWorkers.{GatedShareState, WorkerState, HasLeftDownTo, HasLeftLast, gated_at, no_gated_share}

-- one that has left none yet
pub none_left : (v : WorkerState) → HasLeftDownTo (length v.shares) v v
none_left v =
    record {
      within = omega arith;
      shares = sym (take_all (length v.shares) v.shares (omega arith));
      visits = omega arith;
      before = take_all (length v.left) v.left (omega arith);
      kept = λ i j none low high at. absurd (omega (arith, low, high));
    }

-- it has one fewer
pub one_fewer : (a w : WorkerState) → 0 < length a.shares → HasLeftLast a w → length w.shares + 1 ≡ length a.shares
one_fewer a w some last = let long = ap (λ (x : WorkerState). length x.shares) last.2 ∙ length-take-le (length a.shares - 1) a.shares (omega arith) in omega (arith, long, some)

-- and leaves the last of those that it has
pub one_less : (v a w : WorkerState) → HasLeftDownTo (length a.shares) v a → 0 < length a.shares → HasLeftLast a w → HasLeftDownTo (length w.shares) v w
one_less v a w was some last =
    let n = length a.shares in
    let m : ℕ = n - 1 in
    let visit = last.0 in
    let now = last.2 in
    let shares : w.shares ≡ take m v.shares = ap (λ (x : WorkerState). x.shares) now ∙ ap (take m) was.shares ∙ take-take m n v.shares (omega arith) in
    let long : length w.shares ≡ m = ap length shares ∙ length-take-le m v.shares (omega (arith, was.within)) in
    let left : w.left ≡ a.left ++ visit ∷ [] = ap (λ (x : WorkerState). x.left) now in
    let more : length w.left ≡ length a.left + 1 = ap length left ∙ length-append a.left (visit ∷ []) in
    let same : gated_at a m ≡ gated_at v m = ap (λ (ss : List GatedShareState). slice_index_or ss m no_gated_share) was.shares ∙ get_or-take n v.shares m no_gated_share (omega (arith, some)) in
    record {
      within = omega (arith, long, was.within);
      shares = shares ∙ ap (λ k. take k v.shares) (sym long);
      visits = omega (arith, more, long, some, was.visits);
      before = ap (take (length v.left)) left ∙ take-append-le (length v.left) a.left (visit ∷ []) (omega (arith, was.visits, was.within)) ∙ was.before;
      kept = λ i j none low high at. elim (cases_lt i n) [
        | inr not ↦ rw (left, get_or_append_left a.left (visit ∷ []) none j (omega (arith, at, not, was.visits))) (was.kept i j none (omega (arith, not)) high at)
        | inl less ↦
            let is : i ≡ m = omega (arith, less, low, long) in
            rw (left, get_or_push a.left visit none j (omega (arith, at, is, some, was.visits)), is) (subst (λ (d : GatedShareState). HasKept d.key d.share visit) same last.1)
      ];
    }
