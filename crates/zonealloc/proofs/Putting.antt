-- What a put comes to, by why the worker's own call was denied.
use Rattle.std.proofs.Common.{ℕ, ◌≡◌, ◌<◌, ◌≤◌, ◌⊎◌, ◌↔◌, slice_set, refl, ap, ◌∙◌, inl, inr, arith}
use Rattle.std.specs.Prelude.{Some, Err}
use Rattle.zp_share.specs.Shares.{ShareState}
use Rattle.zp_gate.specs.declared.call_error.CallError.{CallError}
use Rattle.zp_gate.specs.declared.call_error.CallError.TheVariants.{NoLists, Refused}
use Rattle.zp_gate.specs.GatedWorkers.{WorkerState, IsAt, IsPutDenial, gated_at, worker_share}
use Rattle.zonealloc.specs.Numbers.{error_number}
use Rattle.zonealloc.specs.Calls.{IsPutCall}
use Rattle.zonealloc.proofs.Answering.{all_stay, refusal_small}

-- where the one share stayed, so did all
shares_stay : (i : ℕ) (v w : WorkerState) → gated_at w i ≡ record (gated_at v i) { share = (gated_at w i).share } → (gated_at w i).share ≡ (gated_at v i).share → w ≡ record v { shares = slice_set v.shares i (gated_at w i) } → w ≡ v
shares_stay i v w desk same is = all_stay i v w (desk ∙ ap (λ (s : ShareState). record (gated_at v i) { share = s }) same) is

-- a put that was denied by this number
pub put_denied : (i page : ℕ) (d : CallError) (v w : WorkerState) → IsAt i (IsPutDenial page d) v w → IsPutCall i page (error_number d) (Some v) (Some w)
put_denied i page NoLists v w x = record { asked = λ small. absurd (omega (arith, small)); unchanged = λ no. ap Some (shares_stay i v w x.1.1 x.1.0.1 x.2) }
put_denied i page (Refused e) v w x =
    record {
      asked = λ small. (v, w, refl, refl, (Err e, refl, (x.0, (x.1.0.1.0, x.1.1), x.2)));
      unchanged = λ no. ap Some (shares_stay i v w x.1.1 x.1.0.1.1 x.2);
    }
put_denied i page d v w x = absurd x.1.0

-- it is a refusal's number, or 46
pub put_number_of : (i page : ℕ) (d : CallError) (v w : WorkerState) → IsAt i (IsPutDenial page d) v w → (1 ≤ error_number d) × ((error_number d < 40) ⊎ (error_number d ≡ 46))
put_number_of i page NoLists v w x = (omega arith, inr refl)
put_number_of i page (Refused e) v w x = let small = refusal_small e in (small.0, inl small.1)
put_number_of i page d v w x = absurd x.1.0

-- and 46 where the worker has no lists
pub put_lists : (i page : ℕ) (d : CallError) (v w : WorkerState) → IsAt i (IsPutDenial page d) v w → (error_number d ≡ 46) ↔ ((worker_share v i).batch ≡ 0)
put_lists i page NoLists v w x = (λ _. x.1.0.0, λ _. refl)
put_lists i page (Refused e) v w x = let small = refusal_small e in (λ is. absurd (omega (arith, is, small.1)), λ none. absurd (omega (arith, none, x.1.0.0)))
put_lists i page d v w x = absurd x.1.0
