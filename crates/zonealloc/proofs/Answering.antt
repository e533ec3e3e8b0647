-- What a call comes to, by what the worker's own section answered.
use Rattle.std.proofs.Common.{ℕ, ◌≡◌, ◌≢◌, ◌<◌, ◌≤◌, ◌⊎◌, ◌↔◌, true, false, length, slice_set, refl, sym, ap, ◌∙◌, subst, inl, inr, arith}
use Rattle.std.specs.Prelude.{Option, None, Some, Result, Ok, Err}
use Rattle.std.proofs.lemmas.Bool.{cases_lt}
use Rattle.zp_model.specs.declared.migrate_type.MigrateType.{MigrateType}
use Rattle.zp_model.specs.declared.migrate_type.MigrateType.TheVariants.{Unmovable, Reclaimable, Movable}
use Rattle.std.proofs.lemmas.List.{set-get_or}
use Rattle.zp_model.specs.declared.request.Request.{Request}
use Rattle.zp_model.specs.declared.request.Reply.{Reply}
use Rattle.zp_model.specs.declared.refused.Refused.{Refused as Refusal}
use Rattle.zp_model.specs.declared.refused.Refused.TheVariants as refusal
use Rattle.zp_model.specs.Refused.{refused_number}
use Rattle.zp_gate.specs.declared.call_error.CallError.{CallError}
use Rattle.zp_gate.specs.declared.call_error.CallError.TheVariants.{NoZone, Busy, NoWorker, Refused}
use Rattle.zp_gate.specs.declared.granted.Granted.{Granted}
use Rattle.zp_gate.specs.GatedWorkers.{AreDrainedTill, AreMadeAt, GatedShareState, WorkerState, HasZone, IsAtShare, IsDenial, IsDeniedAt, IsOfSection, IsSectionAt, IsUnasked, LacksBlock, LacksWorker, gated_at, no_gated_share, worker_share}
use Rattle.zp_gate.specs.GatedZones.{drain_request}
use Rattle.zonealloc.specs.Numbers.{error_number}
use Rattle.zonealloc.specs.ManyCalls.{IsManyCall, end_number}
use Rattle.zonealloc.specs.Calls.{HasNoZone, IsAskDenied, IsCall, IsDenied, IsDrainAllCall, IsOf, IsOfBoth, IsRefusedAt, IsRefusedOrBusy}

-- where the one share stayed, so did all
pub all_stay : (i : ℕ) (v w : WorkerState) → gated_at w i ≡ gated_at v i → w ≡ record v { shares = slice_set v.shares i (gated_at w i) } → w ≡ v
all_stay i v w same is = is ∙ ap (λ (d : GatedShareState). record v { shares = slice_set v.shares i d }) same ∙ (λ j. record v { shares = set-get_or v.shares i no_gated_share j })

-- each refusal has a number of its own below 40, and none is 0
pub refusal_small : (e : Refusal) → (1 ≤ refused_number e) × (refused_number e < 40)
refusal_small refusal.BadName = (omega arith, omega arith)
refusal_small e = (omega arith, omega arith)

-- 20 is the number of one refusal alone
pub lent_number : (e : Refusal) → refused_number e ≡ 20 → e ≡ refusal.NotLent
lent_number refusal.NotLent is = refl
lent_number e is = absurd (omega (arith, is))

-- what is so of the worker in the handle
here : (P : WorkerState → Type 0) (v : WorkerState) (b : Option WorkerState) → b ≡ Some v → IsOf P b → P v
here P v b is x = let same : x.0 ≡ v = cc in subst P same x.2

pub none_is : {A : Type 0} {v : A} → Some v ≡ None → ⊥
none_is e = cc

abbrev err : (A : Type 0) → CallError → Result A CallError
err A e = Err e

abbrev number : {A : Type 0} → Result A CallError → ℕ
number (Ok a) = 0
number (Err e) = error_number e

-- what the number of an error tells, where it is one of a section, or there is no such zone
twenty : (e : CallError) → error_number e ≡ 20 → e ≡ Refused refusal.NotLent
twenty (Refused e) is = ap (λ (u : Refusal). Refused u) (lent_number e is)
twenty e is = absurd (omega (arith, is))

forty : (e : CallError) → IsOfSection e ⊎ (e ≡ NoZone) → (error_number e ≡ 40 → (e ≡ NoZone) ⊎ (e ≡ NoWorker)) × (IsRefusedOrBusy (error_number e) ⊎ (error_number e ≡ 40))
forty NoZone x = (λ _. inl refl, inr refl)
forty (Busy b) x = (λ is. absurd (omega (arith, is)), inl (inr refl))
forty NoWorker x = (λ _. inr refl, inr refl)
forty (Refused e) x = let small = refusal_small e in (λ is. absurd (omega (arith, is, small.1)), inl (inl small.1))
forty e x = absurd (elim x [ inl none ↦ none | inr is ↦ (cc) ])

-- and where nothing was asked
unasked_number : (r : Request) (e : CallError) (d : GatedShareState) → IsUnasked r e d → (40 ≤ error_number e) ⊎ (error_number e ≡ 20)
unasked_number r (Refused e) d x = inr (ap refused_number x.0)
unasked_number r e d x = inl (omega arith)

-- a number that is not 0 tells of a refusal of the zone, or that all stayed
abbrev IsNoReply : ℕ → Request → ℕ → Option WorkerState → Option WorkerState → Type 0
IsNoReply i r code b a =
    (1 ≤ code) × (code < 40 → code ≢ 20 → (u : Refusal) × (refused_number u ≡ code) × IsOfBoth (IsRefusedAt i r u) b a) × ((40 ≤ code) ⊎ (code ≡ 20) → a ≡ b)

call_by : (asks : Option WorkerState → Request → Type 0) (told : Reply → Type 0) (kept : Type 0) (i code : ℕ) (r : Request) (b a : Option WorkerState)
    → asks b r → kept → IsNoReply i r code b a → IsCall asks told kept i code b a
call_by asks told kept i code r b a is k x =
    record {
      done = λ z. absurd (let some = x.0 in omega (arith, z, some));
      refused = λ low small ne. let why = x.1 small ne in (k, (r, why.0, is, why.1, why.2));
      unasked = λ why. (k, x.2 why);
    }

module _ (i : ℕ) (r : Request) (v w : WorkerState) where
  no_reply : (e : CallError) → IsDeniedAt i r e v w → IsNoReply i r (error_number e) (Some v) (Some w)
  no_reply e x = elim x [
    | inl out ↦ let n = ap error_number out.0 in (omega (arith, n), λ low. absurd (omega (arith, n, low)), λ _. ap Some out.2)
    | inr at ↦ elim at.1 [
      | inl not ↦
          let n = unasked_number r e (gated_at v i) not.0 in
          (omega (arith, n), λ low ne. absurd (omega (arith, n, low, ne)), λ _. ap Some (all_stay i v w not.1 at.2))
      | inr asked ↦
          let n = ap error_number asked.1 in let small = refusal_small asked.0 in (
            omega (arith, n, small.0),
            λ low ne. (asked.0, sym n, (v, w, refl, refl, (at.0, asked.3, at.2))),
            λ why. absurd (asked.2 (lent_number asked.0 (omega (arith, n, small.1, why)))),
          )
    ]
  ]

  asked_denied : {A : Type 0} (given : A → Reply) (e : CallError) → IsSectionAt i r given (err A e) v w → IsAskDenied i r (error_number e) (Some v) (Some w)
  asked_denied {A = A} given e x =
      let came = no_reply e x.denied in
      let n = forty e (elim x.denied [ inl out ↦ inr out.0 | inr at ↦ inl (x.why at.0) ]) in
      record {
        handle = (λ is. absurd (let codes = n.1 in omega (arith, is, codes)), λ none. absurd (none_is none));
        argument = (
          λ is. (v, refl, elim (n.0 is) [ inl zone ↦ inl (x.zone.0 (ap (err A) zone)) | inr worker ↦ inr (x.worker.0 (ap (err A) worker)) ]),
          λ y. elim (here (λ u. HasNoZone i u ⊎ (HasZone i u × LacksWorker r (gated_at u i))) v (Some v) refl y) [ inl out ↦ ap number (x.zone.1 out) | inr out ↦ ap number (x.worker.1 out) ],
        );
        lent = (λ is. (v, refl, x.lent.0 (ap (err A) (twenty e is))), λ y. ap number (x.lent.1 (here (λ u. HasZone i u × LacksBlock r (gated_at u i)) v (Some v) refl y)));
        refused = came.1;
        unasked = came.2;
        codes = (came.0, elim n.1 [ inl low ↦ inl low | inr is ↦ inr (inl is) ]);
      }

-- what a call comes to that was denied so
pub denied_at : (asks : Option WorkerState → Request → Type 0) (told : Reply → Type 0) (kept : Type 0) (i : ℕ) (r : Request) (e : CallError) (code : ℕ) (b a : Option WorkerState) (v w : WorkerState)
    → asks (Some v) r → kept → IsDeniedAt i r e v w → b ≡ Some v → a ≡ Some w → code ≡ error_number e → IsCall asks told kept i code b a
denied_at asks told kept i r e code b a v w is k x was now number = rw (number, was, now) (call_by asks told kept i (error_number e) r (Some v) (Some w) is k (no_reply i r v w e x))

-- what a call comes to whose request came to no reply
pub denied_call : (asks : Option WorkerState → Request → Type 0) (told : Reply → Type 0) (kept : Type 0) (i code : ℕ) (r : Request) (b a : Option WorkerState) → asks b r → kept → IsAskDenied i r code b a → IsCall asks told kept i code b a
denied_call asks told kept i code r b a is k x = call_by asks told kept i code r b a is k (x.codes.0, x.refused, x.unasked)

-- and when it is denied for what is seen without a zone, where nothing that it names is unnamed
pub denied_by : (unnamed : Type 0) (beyond : WorkerState → Type 0) (i code : ℕ) (r : Request) (b a : Option WorkerState) → ¬ unnamed
    → ((v : WorkerState) → beyond v ↔ (HasNoZone i v ⊎ (HasZone i v × LacksWorker r (gated_at v i)))) → IsAskDenied i r code b a → IsDenied unnamed beyond IsRefusedOrBusy code b
denied_by unnamed beyond i code r b a named same x =
    record {
      argument = (
        λ is. let o = x.argument.0 is in inr (o.0, o.1, (same o.0).1 o.2),
        λ y. elim y [ inl out ↦ absurd (named out) | inr o ↦ x.argument.1 (o.0, o.1, (same o.0).0 o.2) ],
      );
      handle = (λ is. (named, x.handle.0 is), λ y. x.handle.1 y.1);
      codes = elim x.codes.1 [ inl others ↦ inr (inr (inr others)) | inr y ↦ elim y [ inl is ↦ inr (inl is) | inr is ↦ inr (inr (inl is)) ] ];
    }

-- what was denied, by the handle and the number
pub ask_denied : {A : Type 0} (given : A → Reply) (i : ℕ) (r : Request) (e : CallError) (code : ℕ) (b a : Option WorkerState) (v w : WorkerState) → IsSectionAt i r given (err A e) v w → b ≡ Some v → a ≡ Some w
    → code ≡ error_number e → IsAskDenied i r code b a
ask_denied given i r e code b a v w x was now is = rw (is, was, now) (asked_denied i r v w given e x)

-- a drain is denied for somebody in the zone, or by the refusal 30
drain_number : (i n : ℕ) (k : MigrateType) (e : CallError) (v w : WorkerState) → IsOfSection e → IsAtShare i (IsDenial (drain_request n k (worker_share v i)) e) v w → (error_number e ≡ 30) ⊎ (error_number e ≡ 42)
drain_number i n k (Busy b) v w of x = inr refl
drain_number i n k NoWorker v w of x = elim x.1 [ inl not ↦ absurd not.0 | inr asked ↦ absurd (let f : NoWorker ≡ Refused asked.0 = asked.1 in cc) ]
drain_number i n k (Refused e) v w of x = elim x.1 [
  | inl not ↦ absurd (let lacks : true ≡ false = not.0.1.1 in cc)
  | inr asked ↦ inl (ap error_number asked.1 ∙ ap refused_number asked.3.0.3.0.reply)
]
drain_number i n k e v w of x = absurd of

-- and so are all drains
till_number : (i : ℕ) (e : CallError) (v w : WorkerState) → AreDrainedTill i e v w → (error_number e ≡ 30) ⊎ (error_number e ≡ 42)
till_number i e v w (inl x) = drain_number i _ Unmovable e v w x.1 x.2
till_number i e v w (inr (inl x)) = drain_number i _ Reclaimable e x.0 w x.2.1 x.2.2
till_number i e v w (inr (inr x)) = drain_number i _ Movable e x.1 w x.4.1 x.4.2

module _ (i : ℕ) (e : CallError) (v w : WorkerState) (zone : (err (Unit {0}) e ≡ err (Unit {0}) NoZone) ↔ HasNoZone i v) (till : HasZone i v → AreDrainedTill i e v w) where
  till_or : (((error_number e ≡ 30) ⊎ (error_number e ≡ 42)) × HasZone i v × AreDrainedTill i e v w) ⊎ ((error_number e ≡ 40) × HasNoZone i v)
  till_or = elim (cases_lt i (length v.shares)) [
    | inl has ↦ inl (till_number i e v w (till has), has, till has)
    | inr past ↦ let out : HasNoZone i v = λ has. omega (arith, past, has) in inr (ap number (zone.1 out), out)
  ]

-- what comes of draining all lists, where that was denied
pub drained_call : (i : ℕ) (e : CallError) (code : ℕ) (b a : Option WorkerState) (v w : WorkerState) → (err (Unit {0}) e ≡ err (Unit {0}) NoZone) ↔ HasNoZone i v → (HasNoZone i v → w ≡ v) → (HasZone i v → AreDrainedTill i e v w)
    → b ≡ Some v → a ≡ Some w → code ≡ error_number e → IsDrainAllCall i code b a
drained_call i e code b a v w zone same till was now is = elim (till_or i e v w zone till) [
  | inl x ↦
      let n = x.0 in
      record { done = λ z. absurd (omega (arith, n, is, z)); till = λ _. (v, w, was, now, (e, sym is, x.2)); unasked = λ how. absurd (omega (arith, n, is, how)) }
  | inr x ↦
      let n = x.0 in
      record { done = λ z. absurd (omega (arith, n, is, z)); till = λ how. absurd (omega (arith, n, is, how)); unasked = λ _. now ∙ ap Some (same x.1) ∙ sym was }
]

pub drained_denied : (i : ℕ) (e : CallError) (code : ℕ) (b : Option WorkerState) (v w : WorkerState) → (err (Unit {0}) e ≡ err (Unit {0}) NoZone) ↔ HasNoZone i v → (HasZone i v → AreDrainedTill i e v w) → b ≡ Some v → code ≡ error_number e
    → IsDenied ⊥ (HasNoZone i) (λ n. (n ≡ 30) ⊎ (n ≡ 42)) code b
drained_denied i e code b v w zone till was is = elim (till_or i e v w zone till) [
  | inl x ↦
      let n = x.0 in
      record {
        argument = (λ m. absurd (omega (arith, n, is, m)), λ y. elim y [ inl none ↦ absurd none | inr out ↦ absurd (here (HasNoZone i) v b was out x.1) ]);
        handle = (λ m. absurd (omega (arith, n, is, m)), λ y. absurd (none_is (sym was ∙ y.1)));
        codes = inr (inr (inr (rw is n)));
      }
  | inr x ↦
      let n = x.0 in
      record { argument = (λ _. inr (v, was, x.1), λ _. is ∙ n); handle = (λ m. absurd (omega (arith, n, is, m)), λ y. absurd (none_is (sym was ∙ y.1))); codes = inr (inl (is ∙ n)) }
]

-- what comes of many requests in one visit
pub many_call : (asks : (ℕ → Request) → Type 0) (gives : ℕ → Reply) (most told i code : ℕ) (b a : Option WorkerState) (f : ℕ → Request) (g : Granted) (v w : WorkerState) → asks f → g.count ≡ told → code ≡ end_number g.refused → code < 40
    → AreMadeAt i f gives most g v w → b ≡ Some v → a ≡ Some w → IsManyCall asks gives most told i code b a
many_call asks gives most told i code b a f g v w is count end small made was now =
    record { made = λ low. (f, g, is, count, sym end, (v, w, was, now, made)); unasked = λ high. absurd (omega (arith, small, high)) }
