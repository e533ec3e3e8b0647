use Rattle.std.proofs.Common.{ℕ, ◌≡◌, ◌<◌, ◌∙◌, ◌∷◌, [], length, slice_index_or, slice_set, ap, sym, inl, inr, arith, Some, Box, Global}
use Rattle.std.proofs.lemmas.Bool.{cases_lt}
use Rattle.std.proofs.lemmas.List.{get_or-set_same, get_or-set_other, get_or_append_left, get_or_push, length-set, length_push}
use Rattle.zp_gate.specs.declared.gated_worker.GatedWorker.{GatedWorker}
use Rattle.zonealloc.specs.declared.handles.WorkerHandle.{WorkerHandle}
use Rattle.zonealloc.proofs.making.put_all.Goals as goal

pub loop-place-preserved : goal.loop-place-preserved
loop-place-preserved c =
    let kept = c.loop-place.invariant in
    let all = c.loop-place.crew.items in
    let rest = c.pop.new.self.items in
    let last = c.in-Some.worker in
    let pops = c.in-Some.ensures.items in
    let given = c.args.crew.items in
    let place = c.loop-place.place in
    let workers = c.loop-place.workers in
    let handle = c.put_worker.new.handle in
    let many = length-set workers place handle in
    let more = ap length pops ∙ length_push rest last in
    let below : place < length workers = omega (arith, more, kept.left) in
    let popped : (k : ℕ) (d : Box GatedWorker Global) → k ≡ length rest → slice_index_or given k d ≡ last =
    λ k d at. sym (kept.same k d (omega (arith, at, more))) ∙ ap (λ xs. slice_index_or xs k d) pops ∙ get_or_push rest last d k (sym at) in
    record {
      each = many ∙ kept.each;
      left = omega (arith, many, more, kept.left);
      same = λ k d lt. sym (get_or_append_left rest (last ∷ []) d k lt) ∙ sym (ap (λ xs. slice_index_or xs k d) pops) ∙ kept.same k d (omega (arith, lt, more));
      put = λ w k d none lt at. elim (cases_lt w place) [
        | inl less ↦ ap (λ (h : WorkerHandle). h.slot.value) (get_or-set_other workers place w handle none (λ same. absurd (omega (arith, less, same)))) ∙ kept.put w k d none less (omega (arith, at, many))
        | inr not ↦
            let here : w ≡ place = omega (arith, not, lt) in
            let number : k ≡ length rest = omega (arith, here, at, many, more, kept.left) in
            ap (λ j. (slice_index_or (slice_set workers place handle) j none).slot.value) here ∙ ap (λ (h : WorkerHandle). h.slot.value) (get_or-set_same workers place handle none below) ∙ c.put_worker.ensures
            ∙ ap (λ (b : Box GatedWorker Global). Some b.value) (sym (popped k d number))
      ];
    }
