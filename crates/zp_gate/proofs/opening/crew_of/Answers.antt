use Rattle.std.proofs.Common.{ℕ, ◌≡◌, ◌+◌, ◌-◌, ◌++◌, ◌∷◌, ◌∙◌, List, [], length, map, refl, subst, sym, inl, inr, Box, Global, arith}
use Rattle.std.proofs.lemmas.Bool.{cases_lt}
use Rattle.std.proofs.lemmas.List.{get_or_append_left, get_or_push, length_push}
use Rattle.zp_gate.specs.declared.gated_worker.GatedWorker.{GatedWorker}
use Rattle.zp_gate.specs.GatedWorkers.{AllDown, IsNewWorker}
use Rattle.zp_gate.proofs.Keys.{key_in}
use Rattle.zp_gate.proofs.opening.crew_of.Goals as goal

-- one more of those that are numbered downwards
down_next : {A : Type 0} (P : ℕ → A → Type 0) (m n : ℕ) (xs : List A) (x : A) → length xs + n + 1 ≡ m → AllDown P m xs → P n x → AllDown P m (xs ++ x ∷ [])
down_next P m n xs x many so here k w none lt at =
    let long = length_push xs x in
    elim (cases_lt k (length xs)) [
      | inl less ↦ subst (P w) (sym (get_or_append_left xs (x ∷ []) none k less)) (so k w none less at)
      | inr not ↦ subst (P w) (sym (get_or_push xs x none k (omega (arith, not, lt, long)))) (subst (λ v. P v x) (omega (arith, not, lt, long, many, at)) here)
    ]

pub next_worker-requires : goal.next_worker-requires
next_worker-requires c = λ k d lt.
    let w : ℕ = c.args.workers - (c.loop.counter + 1) in
    let many = c.loop.invariant.left (w + 1) (omega arith) k d lt in
    omega (arith, many)

pub loop-preserved : goal.loop-preserved
loop-preserved c =
    let kept = c.loop.invariant in
    let lists = c.args.lists in
    let row = map key_in c.args.zones.now in
    let boxed = c.in-Ok-new.worker in
    let w : ℕ = c.args.workers - (c.loop.counter + 1) in
    let is : w + 1 + c.loop.counter ≡ c.args.workers = omega arith in
    let made = c.in_ok-worker.ensures.new w (kept.left (w + 1) is) in
    let here : IsNewWorker w lists.batch lists.high_len row boxed.value = rw c.in-Ok-new.ensures.ok (rw kept.keys at made) in
    record {
      many = omega (arith, c.push_reserved.ensures.len, kept.many);
      room = omega (arith, c.push_reserved.ensures.capacity, kept.room);
      same = c.next_worker.auto.zones ∙ kept.same;
      keys = c.in_ok-worker.ensures.keys ∙ kept.keys;
      left = λ m at. c.in_ok-worker.ensures.left refl m (kept.left (m + 1) (omega (arith, at)));
      new = let P : ℕ → Box GatedWorker Global → Type 0 = λ v b. IsNewWorker v lists.batch lists.high_len row b.value in
          subst (AllDown P c.args.workers) (sym c.push_reserved.ensures.items) (down_next P c.args.workers w c.loop.crew.items boxed (omega arith) kept.new here);
    }
